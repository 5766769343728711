-- What makes an edge of the reported cycle: there is a pair that does, and the one that is given is the earliest; its reason holds and is the first.
use Prim.Native.Nat.{ℕ, zero, suc, ◌<◌}
use native.Mathlib.Omega.{arith}
use mathlib.Core.Path.{◌≡◌, sym, ap, ap₂, ◌∙◌, subst}
use mathlib.Core.Bool.{◌&&◌}
use mathlib.Core.List.{List, [], ◌∷◌}
use lib.ListN.{length, get_or, take, get_or-map}
use lib.Seq.{length-take-le, get_or-take}
use lib.Dec.{T, eqb, eqb→eq, eqb_refl}
use Rattle.record.specs.declared.Event.{Event}
use Rattle.trace.specs.Paths.{Edge, has_edge}
use Rattle.lists.proofs.Tests.{and_left, and_right, and_both}
use Rattle.lists.proofs.Lists.{Earliest, earliest, before_at}
use Rattle.graph.specs.Conflict.{conflict}
use Rattle.graph.specs.declared.Labelled.{Labelled}
use Rattle.graph.specs.Transactions.{none_yet, labelled}
use Rattle.graph.specs.Violation.{edges_up_to, cyclic_up_to, shortest, transaction_at, cycle_of}
use Rattle.graph.specs.Rule.{Follows, Reported}
use Rattle.graph.proofs.Numbers.{labelled-take}
use Rattle.graph.proofs.Labels.{labelled-events}
use Rattle.graph.proofs.Round.{labelled-length, cycle-right}
use Rattle.graph.proofs.Meaning.{edge-means}
use Rattle.reasons.specs.Why.{no_event, makes_it, at, origin_of, goal_of, earliest_first, earliest_second, reason_of, cause_of, cause_at}
use Rattle.reasons.specs.Meaning.{Makes, Explained}
use Rattle.reasons.proofs.Pairs.{Pair, found, lowest-first, lowest-second}
use Rattle.reasons.proofs.Reasons.{First, reason-first}

-- ---- each place of the reported cycle has an edge of the prefix

follows-edge : (g : List Edge) (t a : ℕ) (l : List ℕ) → Follows g t a l → (p : ℕ) → p < length (a ∷ l) → T (has_edge g (get_or (a ∷ l) p 0) (get_or (a ∷ l) (suc p) t))
follows-edge g t a [] f zero h = f.1
follows-edge g t a [] f (suc p) h = absurd (omega arith)
follows-edge g t a (b ∷ l) f zero h = f.1.1
follows-edge g t a (b ∷ l) f (suc p) h = follows-edge g t b l f.3 p (omega arith)

pub cycle-edge : (g : List Edge) (t : ℕ) (c : List ℕ) → Reported g t c → (p : ℕ) → p < length c → T (has_edge g (origin_of c p) (goal_of c p))
cycle-edge g t [] r p h = absurd (omega arith)
cycle-edge g t (a ∷ l) r p h = subst (λ z. T (has_edge g (get_or (a ∷ l) p 0) (get_or (a ∷ l) (suc p) z))) (sym r.0) (follows-edge g t a l r.1 p h)

-- ---- a record of the prefix is that record of the recording

abbrev no_record : Labelled
no_record = record { transaction = 0; event = no_event }

module _ (es : List Event) (n i : ℕ) (h : i < n) where
  at-prefix : get_or (labelled (take n es)) i no_record ≡ get_or (labelled es) i no_record
  at-prefix = ap (λ l. get_or l i no_record) (labelled-take none_yet n es) ∙ get_or-take n (labelled es) i no_record h

  pub transaction-at : (get_or (labelled (take n es)) i no_record).transaction ≡ transaction_at es i
  unfolding transaction_at
  transaction-at = ap (λ x. x.transaction) at-prefix ∙ sym (get_or-map (λ x. x.transaction) (labelled es) i no_record)

  pub event-at : (get_or (labelled (take n es)) i no_record).event ≡ get_or es i no_event
  event-at =
      ap (λ x. x.event) at-prefix ∙ sym (get_or-map (λ x. x.event) (labelled es) i no_record) ∙ ap (λ l. get_or l i no_event) (labelled-events none_yet es)

-- ---- what makes an edge of the reported cycle

same : {m n : ℕ} → m ≡ n → T (eqb m n)
same {m} e = subst (λ k. T (eqb m k)) e (eqb_refl m)

module _ (es : List Event) (k : ℕ) (some : shortest es ≡ suc k) (p : ℕ) (h : p < length (cycle_of es (suc k))) where
  abbrev xs : List Labelled
  xs = labelled (take (suc k) es)

  abbrev cycle : List ℕ
  cycle = cycle_of es (suc k)

  abbrev a : ℕ
  a = origin_of cycle p

  abbrev b : ℕ
  b = goal_of cycle p

  prefix-length : length xs ≡ suc k
  unfolding shortest
  prefix-length =
      let q : Earliest (cyclic_up_to es) 1 (length es) (suc k) = earliest (cyclic_up_to es) 1 (length es) k some in
      labelled-length none_yet (take (suc k) es) ∙ length-take-le (suc k) es (omega (arith, q.inside))

  edge : T (has_edge (edges_up_to es (suc k)) a b)
  edge = cycle-edge (edges_up_to es (suc k)) (transaction_at es k) cycle (cycle-right es k some) p h

  -- the test and the words
  makes-pair : {i j : ℕ} → Makes es k cycle p i j → Pair (makes_it xs a b) (length xs) i j
  unfolding makes_it
  makes-pair {i} {j} m =
      let x : Labelled = at xs i in
      let y : Labelled = at xs j in
      let lt : i < suc k = omega (arith, m.ordered, m.within) in
      let le : j < suc k = omega (arith, m.within) in
      record {
        ordered = m.ordered;
        within = omega (arith, prefix-length);
        hits = and_both (eqb x.transaction a) (eqb y.transaction b && conflict x.event y.event)
            (same (transaction-at es (suc k) i lt ∙ m.origin))
            (and_both (eqb y.transaction b) (conflict x.event y.event) (same (transaction-at es (suc k) j le ∙ m.goal))
            (subst T (sym (ap₂ conflict (event-at es (suc k) i lt) (event-at es (suc k) j le))) m.conflicting));
      }

  pair-makes : {i j : ℕ} → Pair (makes_it xs a b) (length xs) i j → Makes es k cycle p i j
  unfolding makes_it
  pair-makes {i} {j} q =
      let x : Labelled = at xs i in
      let y : Labelled = at xs j in
      let le : j < suc k = omega (arith, q.within, prefix-length) in
      let lt : i < suc k = omega (arith, q.ordered) in
      let two : T (eqb y.transaction b && conflict x.event y.event) = and_right (eqb x.transaction a) (eqb y.transaction b && conflict x.event y.event) q.hits in
      record {
        ordered = q.ordered;
        within = omega arith;
        origin = sym (transaction-at es (suc k) i lt) ∙ eqb→eq x.transaction a (and_left (eqb x.transaction a) (eqb y.transaction b && conflict x.event y.event) q.hits);
        goal = sym (transaction-at es (suc k) j le) ∙ eqb→eq y.transaction b (and_left (eqb y.transaction b) (conflict x.event y.event) two);
        conflicting = subst T (ap₂ conflict (event-at es (suc k) i lt) (event-at es (suc k) j le)) (and_right (eqb y.transaction b) (conflict x.event y.event) two);
      }

  -- some pair makes the edge
  some_pair : (i : ℕ) × (j : ℕ) × Pair (makes_it xs a b) (length xs) i j
  unfolding makes_it edges_up_to
  some_pair =
      let e = edge-means xs a b edge in
      let o = before_at no_record e.order in (
        o.0,
        o.1,
        record {
          ordered = o.2;
          within = o.3;
          hits = and_both (eqb (at xs o.0).transaction a) (eqb (at xs o.1).transaction b && conflict (at xs o.0).event (at xs o.1).event)
              (same (ap (λ x. x.transaction) o.4 ∙ e.x-of))
              (and_both (eqb (at xs o.1).transaction b) (conflict (at xs o.0).event (at xs o.1).event) (same (ap (λ x. x.transaction) o.5 ∙ e.y_of))
              (subst T (sym (ap₂ (λ x y. conflict x.event y.event) o.4 o.5)) e.clash));
        },
      )

  -- The pair and the reason that are given
  pub explained : Explained es k cycle p (cause_at es k p)
  unfolding cause_at cause_of earliest_first earliest_second
  explained =
      let q = some_pair.2 in
      let i : ℕ = (cause_at es k p).first in
      let j : ℕ = (cause_at es k p).second in
      let m : Makes es k cycle p i j = pair-makes (found (makes_it xs a b) (length xs) q) in
      let lt : i < suc k = omega (arith, m.ordered, m.within) in
      let le : j < suc k = omega (arith, m.within) in
      let is : (cause_at es k p).reason ≡ reason_of (get_or es i no_event) (get_or es j no_event) = ap₂ reason_of (event-at es (suc k) i lt) (event-at es (suc k) j le) in
      let r : First (get_or es i no_event) (get_or es j no_event) (cause_at es k p).reason =
      subst (First (get_or es i no_event) (get_or es j no_event)) (sym is) (reason-first (get_or es i no_event) (get_or es j no_event) m.conflicting) in
      record {
        edge = edge;
        makes = m;
        earliest-first = λ c d n. lowest-first (makes_it xs a b) (length xs) (makes-pair n);
        earliest-second = λ d n. lowest-second (makes_it xs a b) (length xs) (makes-pair n);
        holds = r.holds;
        first-reason = r.none_before;
        each-other = r.each-other;
      }
