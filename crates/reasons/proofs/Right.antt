-- What is told of an edge is right, of every input, output and work area and every place.
use Prim.Native.Nat.{ℕ, zero, suc, ◌<◌, ◌≤◌}
use native.Mathlib.Omega.{arith}
use mathlib.Core.Path.{◌≡◌, refl, sym, ap, ◌∙◌, subst}
use mathlib.Core.Logic.{inl, inr, ⊎_elim}
use mathlib.Core.Bool.{true, false}
use mathlib.Core.List.{List, [], ◌∷◌}
use lib.ListN.{length, get_or}
use lib.Dec.{ltb}
use borrow.Author.Tests.{ltb-true, ltb-false}
use Rattle.std.specs.Prelude.{Option, None, Some, Result, Ok, Err}
use Rattle.record.specs.declared.Event.{Event}
use Rattle.record.specs.Faults.{Refusal}
use Rattle.record.specs.Answers as Answers
use Rattle.record.specs.Answers.{refused_as}
use Rattle.record.specs.declared.Refusal.{Refusal as Given}
use Rattle.record.proofs.Numbers.{told-same}
use Rattle.graph.specs.Violation.{shortest, cycle_of}
use Rattle.lists.proofs.Tests.{by}
use Rattle.looking.specs.Refusals.{events}
use Rattle.checker.specs.Verdict.{cooperable, violation}
use Rattle.checker.specs.Judged.{refusal}
use Rattle.checker.proofs.Demand3.{is-cooperable, is-violation, numbers-are, refused-keeps}
use Rattle.reasons.specs.declared.Reason.{Reason}
use Rattle.reasons.specs.declared.Reason.TheVariants.{Thread, Variable, Lock, ForkJoin}
use Rattle.reasons.specs.declared.Cause.{Cause}
use Rattle.reasons.specs.Why.{name_of, number_of, cause_at, told_of, told, Numbers, numbers}
use Rattle.reasons.specs.Meaning.{answer, cycle, Explained, Right}
use Rattle.reasons.proofs.Causes.{explained}

-- ---- what is told, case by case

told-refused : (input out work : List ℕ) (p n : ℕ) → (refusal input out work).number ≡ suc n → told input out work p ≡ Err (refusal input out work)
unfolding told
told-refused input out work p n e = rw (e, told) (ap (λ m. Err (record { number = m; place = (refusal input out work).place })) e)

pub told-fine : (input out work : List ℕ) (p : ℕ) → (refusal input out work).number ≡ 0 → told input out work p ≡ Ok (told_of (events input) p)
unfolding told
told-fine input out work p e = rw (e, told)

told-cooperable : (es : List Event) (p : ℕ) → shortest es ≡ 0 → told_of es p ≡ None
unfolding told_of
told-cooperable es p e = rw (e, told_of)

pub told-edge : (es : List Event) (p k : ℕ) → shortest es ≡ suc k → ltb p (length (cycle_of es (suc k))) ≡ true → told_of es p ≡ Some (cause_at es k p)
unfolding told_of
told-edge es p k e l = rw (e, l, told_of)

told-past : (es : List Event) (p k : ℕ) → shortest es ≡ suc k → ltb p (length (cycle_of es (suc k))) ≡ false → told_of es p ≡ None
unfolding told_of
told-past es p k e l = rw (e, l, told_of)

-- ---- the whole

-- what is told, in this paper's words
abbrev Told : Type 0
Told = Result (Option Cause) Refusal

abbrev kind_of : Told → ℕ
kind_of t = (numbers t).kind

abbrev kind_of_answer : Answers.Numbers → ℕ
kind_of_answer a = a.kind

-- a refusal that is told, as it is answered; and one answered, as it is told
abbrev answered_as : Told → Answers.Numbers
answered_as t = record { kind = (numbers t).kind; first = get_or (numbers t).values 0 0; second = get_or (numbers t).values 1 0 }

abbrev told_as : Answers.Numbers → Told
told_as a = Err (record { number = a.first; place = a.second })

module _ (input out work : List ℕ) (p : ℕ) where
  abbrev es : List Event
  es = events input

  when-refused : (n : ℕ) → (refusal input out work).number ≡ suc n → Right input out work p
  when-refused n e =
      let t = told-refused input out work p n e in
      let no : Refusal = refusal input out work in
      let w : answer input out work p ≡ refused_as no = ap (λ j. j.answer) (refused-keeps input out work n e) ∙ ap (λ m. refused_as (record { number = m; place = no.place })) (sym e) in
      record {
        refused = λ r. ((λ q. w ∙ ap answered_as (sym t ∙ q)), (λ q. t ∙ ap told_as (sym w ∙ q)));
        no-such-edge = ((λ q. absurd (omega (arith, ap kind_of (sym t ∙ q)))), ⊎_elim (λ q. absurd (omega (arith, ap kind_of_answer w, q))) (λ q. absurd (omega (arith, ap kind_of_answer w, q.0))));
        because = λ q. absurd (omega (arith, ap kind_of_answer w, q));
      }

  module _ (fine : (refusal input out work).number ≡ 0) where
    when-cooperable : shortest es ≡ 0 → Right input out work p
    unfolding cooperable
    when-cooperable e =
        let t = told-fine input out work p fine ∙ ap Ok (told-cooperable es p e) in
        let w = ap (λ j. j.answer.kind) (is-cooperable input out work fine e) in
        record {
          refused = λ r. ((λ q. absurd (omega (arith, ap kind_of (sym t ∙ q)))), (λ q. absurd (omega (arith, w, ap kind_of_answer q))));
          no-such-edge = ((λ q. inl w), λ q. t);
          because = λ q. absurd (omega (arith, w, q));
        }

    module _ (k : ℕ) (e : shortest es ≡ suc k) where
      answer-is : answer input out work p ≡ record { kind = 1; first = k; second = length (cycle_of es (suc k)) }
      unfolding violation
      answer-is = ap (λ j. j.answer) (is-violation input out work fine k e)

      as-answered : {c : Cause} → Explained es k (cycle_of es (suc k)) p c → Explained es (answer input out work p).first (cycle input out work p) p c
      as-answered {c} x =
          subst (λ n. Explained es n (cycle input out work p) p c) (sym (ap (λ a. a.first) answer-is))
          (subst (λ l. Explained es k l p c) (sym (numbers-are input out work fine k e)) x)

      when-edge : ltb p (length (cycle_of es (suc k))) ≡ true → Right input out work p
      when-edge l =
          let t = told-fine input out work p fine ∙ ap Ok (told-edge es p k e l) in
          let below : p < length (cycle_of es (suc k)) = ltb-true p (length (cycle_of es (suc k))) l in
          record {
            refused = λ r. ((λ q. absurd (omega (arith, ap kind_of (sym t ∙ q)))), (λ q. absurd (omega (arith, ap kind_of_answer answer-is, ap kind_of_answer q))));
            no-such-edge = (
              (λ q. absurd (omega (arith, ap kind_of (sym t ∙ q)))),
              ⊎_elim (λ q. absurd (omega (arith, ap kind_of_answer answer-is, q))) (λ q. absurd (omega (arith, q.1, ap (λ a. a.second) answer-is))),
            );
            because = λ q r. (cause_at es k p, t, as-answered (explained es k e p below));
          }

      when-past : ltb p (length (cycle_of es (suc k))) ≡ false → Right input out work p
      when-past l =
          let t = told-fine input out work p fine ∙ ap Ok (told-past es p k e l) in
          let past : length (cycle_of es (suc k)) ≤ p = ltb-false p (length (cycle_of es (suc k))) l in
          record {
            refused = λ r. ((λ q. absurd (omega (arith, ap kind_of (sym t ∙ q)))), (λ q. absurd (omega (arith, ap kind_of_answer answer-is, ap kind_of_answer q))));
            no-such-edge = ((λ q. inr (ap kind_of_answer answer-is, omega (arith, ap (λ a. a.second) answer-is))), λ q. t);
            because = λ q r. absurd (omega (arith, r, ap (λ a. a.second) answer-is));
          }

  -- The reason holds of those two records in the judged prefix and is the first; "no such edge" and the refusals are given exactly when they should be
  pub right : Right input out work p
  right = go (refusal input out work).number refl (shortest es) refl
    where
      go : (n : ℕ) → (refusal input out work).number ≡ n → (m : ℕ) → shortest es ≡ m → Right input out work p
      go (suc n) e m q = when-refused n e
      go zero e zero q = when-cooperable e q
      go zero e (suc k) q = by (ltb p (length (cycle_of es (suc k)))) (when-edge e k q) (when-past e k q)

-- ---- what is told has one meaning: the same numbers are the same answer

abbrev reason_by : ℕ → ℕ → Reason
reason_by name n = get_or (Thread n ∷ Variable n ∷ Lock n ∷ ForkJoin n ∷ []) name (Thread n)

reason-by : (r : Reason) → reason_by (name_of r) (number_of r) ≡ r
reason-by (Thread t) = refl
reason-by (Variable x) = refl
reason-by (Lock m) = refl
reason-by (ForkJoin u) = refl

abbrev told_by : Numbers → Told
told_by n =
    let value : ℕ → ℕ = λ i. get_or n.values i 0 in
    get_or (Ok (Some (record { first = value 0; second = value 1; reason = reason_by (value 2) (value 3) })) ∷ Ok None ∷ Err (record { number = value 0; place = value 1 }) ∷ [])
    n.kind (Ok None)

told-by : (t : Told) → told_by (numbers t) ≡ t
told-by (Ok (Some c)) = ap (λ r. Ok (Some (record { first = c.first; second = c.second; reason = r }))) (reason-by c.reason)
told-by (Ok None) = refl
told-by (Err r) = refl

pub told_same : (t u : Result (Option Cause) Given) → numbers (Answers.told t) ≡ numbers (Answers.told u) → t ≡ u
told_same t u e = told-same t u (sym (told-by (Answers.told t)) ∙ ap told_by e ∙ told-by (Answers.told u))
