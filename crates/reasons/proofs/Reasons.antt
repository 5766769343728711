-- The reason that is given for two operations: which it is, that it holds of them, and that it is the first in 02's order.
use Prim.Native.Nat.{ℕ, ◌≤◌}
use native.Mathlib.Omega.{arith}
use mathlib.Core.Path.{◌≡◌, refl, sym, ◌∙◌, subst}
use mathlib.Core.Logic.{inl, inr}
use mathlib.Core.Bool.{Bool, true, false, ◌&&◌, ◌||◌}
use mathlib.Core.List.{[], ◌∷◌}
use lib.Dec.{T, eqb, eqb→eq, eqb_refl}
use borrow.Author.Tests.{eq-eqb, ne_eqb}
use Rattle.record.specs.declared.Event.{Event}
use Rattle.record.specs.Record.{target}
use Rattle.lists.specs.Lists.{first_of}
use Rattle.lists.proofs.Tests.{by, T_of, and_right}
use Rattle.graph.specs.Conflict.{accesses, writes, locks, forks, joins, same_thread, same_variable, same_lock, governs, same_child, conflict}
use Rattle.reasons.specs.declared.Reason.{Reason}
use Rattle.reasons.specs.declared.Reason.TheVariants.{Thread, Variable, Lock, ForkJoin}
use Rattle.reasons.specs.Why.{name_of, number_of, ground_of, grounds, reason_of}
use Rattle.reasons.specs.Meaning.{Holds}

-- what is given for a thread t and two targets x and y, by what holds: the same thread, variable and lock, the first governing the second and the
-- second the first, the same child
unfoldable pub chosen : ℕ → ℕ → ℕ → Bool → Bool → Bool → Bool → Bool → Bool → Reason
chosen t x y thread variable lock first second child =
    (first_of (λ g. g.holds) (ground_of (ForkJoin x) false)
    (ground_of (Thread t) thread ∷ ground_of (Variable x) variable ∷ ground_of (Lock x) lock ∷ ground_of (ForkJoin x) first ∷ ground_of (ForkJoin y) second ∷ ground_of (ForkJoin x) child ∷ [])
    ).reason

module _ (a b : Event) where
  as-chosen : reason_of a b
      ≡ chosen a.thread (target a.op) (target b.op) (same_thread a b) (same_variable a b) (same_lock a b) (governs a b) (governs b a) (same_child a b)
  unfolding reason_of grounds chosen
  as-chosen = refl

  -- ---- which it is

  pub is-thread : same_thread a b ≡ true → reason_of a b ≡ Thread a.thread
  unfolding chosen first_of
  is-thread p = as-chosen ∙ rw p

  pub threads-same : a.thread ≡ b.thread → same_thread a b ≡ true
  unfolding same_thread
  threads-same e = eq-eqb a.thread b.thread e

  pub threads-differ : (a.thread ≡ b.thread → ⊥) → same_thread a b ≡ false
  unfolding same_thread
  threads-differ e = ne_eqb a.thread b.thread e

  module _ (p : same_thread a b ≡ false) where
    pub is-variable : same_variable a b ≡ true → reason_of a b ≡ Variable (target a.op)
    unfolding chosen first_of
    is-variable q = as-chosen ∙ rw (p, q)

    module _ (q : same_variable a b ≡ false) where
      pub is-lock : same_lock a b ≡ true → reason_of a b ≡ Lock (target a.op)
      unfolding chosen first_of
      is-lock r = as-chosen ∙ rw (p, q, r)

      module _ (r : same_lock a b ≡ false) where
        pub is-first : governs a b ≡ true → reason_of a b ≡ ForkJoin (target a.op)
        unfolding chosen first_of
        is-first s = as-chosen ∙ rw (p, q, r, s)

        pub is-second : governs a b ≡ false → governs b a ≡ true → reason_of a b ≡ ForkJoin (target b.op)
        unfolding chosen first_of
        is-second s t = as-chosen ∙ rw (p, q, r, s, t)

        pub is-child : governs a b ≡ false → governs b a ≡ false → reason_of a b ≡ ForkJoin (target a.op)
        unfolding chosen first_of
        is-child s t = as-chosen ∙ by (same_child a b) (λ u. rw (p, q, r, s, t, u)) (λ u. rw (p, q, r, s, t, u))

  -- ---- that it holds and is the first

  abbrev x : ℕ
  x = target a.op

  abbrev y : ℕ
  y = target b.op

  -- what is to be shown of a reason
  pub record First (r : Reason) : Type 0 where
    pub holds : Holds r a b
    pub none_before : (s : Reason) → Holds s a b → name_of r ≤ name_of s
    pub each-other : name_of r ≡ 3 → T (governs a b) → T (governs b a) → number_of r ≡ x

  same-thread : (t : ℕ) → Holds (Thread t) a b → T (same_thread a b)
  unfolding same_thread
  same-thread t h = subst (λ u. T (eqb a.thread u)) (h.0 ∙ sym h.1) (eqb_refl a.thread)

  threads : T (same_thread a b) → a.thread ≡ b.thread
  unfolding same_thread
  threads h = eqb→eq a.thread b.thread h

  variables : T (same_variable a b) → x ≡ y
  unfolding same_variable
  variables h = eqb→eq x y (and_right (accesses a.op && accesses b.op && (writes a.op || writes b.op)) (eqb x y) h)

  locks-same : T (same_lock a b) → x ≡ y
  unfolding same_lock
  locks-same h = eqb→eq x y (and_right (locks a.op && locks b.op) (eqb x y) h)

  children : T (same_child a b) → x ≡ y
  unfolding same_child
  children h = eqb→eq x y (and_right ((forks a.op && joins b.op) || (joins a.op && forks b.op)) (eqb x y) h)

  -- a reason whose place is n is not among the first m
  after-thread : same_thread a b ≡ false → (s : Reason) → Holds s a b → 1 ≤ name_of s
  after-thread p (Thread t) h = absurd (subst T p (same-thread t h))
  after-thread p (Variable v) h = omega arith
  after-thread p (Lock m) h = omega arith
  after-thread p (ForkJoin u) h = omega arith

  after-variable : same_thread a b ≡ false → same_variable a b ≡ false → (s : Reason) → Holds s a b → 2 ≤ name_of s
  after-variable p q (Thread t) h = absurd (subst T p (same-thread t h))
  after-variable p q (Variable v) h = absurd (subst T q h.0)
  after-variable p q (Lock m) h = omega arith
  after-variable p q (ForkJoin u) h = omega arith

  after-lock : same_thread a b ≡ false → same_variable a b ≡ false → same_lock a b ≡ false → (s : Reason) → Holds s a b → 3 ≤ name_of s
  after-lock p q r (Thread t) h = absurd (subst T p (same-thread t h))
  after-lock p q r (Variable v) h = absurd (subst T q h.0)
  after-lock p q r (Lock m) h = absurd (subst T r h.0)
  after-lock p q r (ForkJoin u) h = omega arith

  pub reason-first : T (conflict a b) → First (reason_of a b)
  unfolding conflict
  reason-first c = by (same_thread a b)
      (λ p. subst First (sym (is-thread p)) (record {
        holds = (refl, sym (threads (T_of p)));
        none_before = λ s h. omega arith;
        each-other = λ e. absurd (omega arith);
      }))
      (λ p. by (same_variable a b)
      (λ q. subst First (sym (is-variable p q)) (record {
        holds = (T_of q, refl, sym (variables (T_of q)));
        none_before = after-thread p;
        each-other = λ e. absurd (omega arith);
      }))
      (λ q. by (same_lock a b)
      (λ r. subst First (sym (is-lock p q r)) (record {
        holds = (T_of r, refl, sym (locks-same (T_of r)));
        none_before = after-variable p q;
        each-other = λ e. absurd (omega arith);
      }))
      (λ r. by (governs a b)
      (λ s. subst First (sym (is-first p q r s)) (record { holds = inl (T_of s, refl); none_before = after-lock p q r; each-other = λ e g h. refl }))
      (λ s. by (governs b a)
      (λ t. subst First (sym (is-second p q r s t)) (record {
        holds = inr (inl (T_of t, refl));
        none_before = after-lock p q r;
        each-other = λ e g h. absurd (subst T s g);
      }))
      (λ t. let u : T (same_child a b) = rw (p, q, r, s, t) at c in
      subst First (sym (is-child p q r s t)) (record {
        holds = inr (inr (u, refl, sym (children u)));
        none_before = after-lock p q r;
        each-other = λ e g h. absurd (subst T s g);
      }))))))
