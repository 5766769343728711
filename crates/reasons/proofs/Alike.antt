-- What makes an edge looks at an operation's thread, kind and target and at nothing else: of records without their values it is that of the records.
use Prim.Native.Nat.{ℕ, suc, ◌-◌}
use mathlib.Core.Path.{◌≡◌, refl, sym, ap, ap₂, ◌∙◌, fun_ext}
use mathlib.Core.Bool.{Bool, ◌&&◌, ◌||◌}
use mathlib.Core.List.{List, map}
use lib.ListN.{length-map, get_or-map}
use lib.Dec.{leb, eqb}
use Rattle.record.specs.declared.Event.{Event}
use Rattle.record.specs.Record.{kind, target, operation}
use Rattle.lists.specs.Lists.{some_of, first_of, from, below}
use Rattle.graph.specs.Conflict as Conflict
use Rattle.graph.specs.Conflict.{conflict}
use Rattle.graph.specs.declared.Labelled.{Labelled}
use Rattle.graph.specs.Transactions.{labelled}
use Rattle.graph.specs.Held.{labelled_as}
use Rattle.graph.proofs.Alike.{shown_of, shown-alike, conflict-alike, labelled-alike}
use Rattle.reasons.specs.declared.Reason.{Reason}
use Rattle.reasons.specs.declared.Cause.{Cause}
use Rattle.reasons.specs.Why.{no_event, grounds, reason_of, at, makes_it, earliest_first, earliest_second, cause_of}
use Rattle.reasons.proofs.Reasons.{chosen}

-- ---- the reason

-- by two kinds, two threads and two targets
abbrev by_numbers : ℕ → ℕ → ℕ → ℕ → ℕ → ℕ → Reason
by_numbers k l t u x y =
    chosen t x y
    (eqb t u)
    (leb k 2 && leb l 2 && (eqb k 2 || eqb l 2) && eqb x y)
    ((leb 3 k && leb k 7) && (leb 3 l && leb l 7) && eqb x y)
    ((eqb k 8 || eqb k 9) && eqb x u)
    ((eqb l 8 || eqb l 9) && eqb y t)
    (((eqb k 8 && eqb l 9) || (eqb k 9 && eqb l 8)) && eqb x y)

by-numbers : (a b : Event) → reason_of a b ≡ by_numbers (kind a.op) (kind b.op) a.thread b.thread (target a.op) (target b.op)
unfolding reason_of grounds chosen Conflict.opened
by-numbers a b = refl

pub reason-alike : (a b : Event) → reason_of (shown_of a) (shown_of b) ≡ reason_of a b
reason-alike a b =
    let x : ℕ = target (shown_of a).op in
    let y : ℕ = target (shown_of b).op in
    by-numbers (shown_of a) (shown_of b)
    ∙ ap₂ (λ k l. by_numbers k l a.thread b.thread x y) (shown-alike a).kind-is (shown-alike b).kind-is
    ∙ ap₂ (λ z w. by_numbers (kind a.op) (kind b.op) a.thread b.thread z w) (shown-alike a).target_is (shown-alike b).target_is
    ∙ sym (by-numbers a b)

-- ---- the pair

module _ (xs : List Labelled) (a b : ℕ) where
  abbrev shown_as : Labelled → Labelled
  shown_as x = labelled_as x.transaction (shown_of x.event)

  abbrev ys : List Labelled
  ys = map shown_as xs

  at-alike : (i : ℕ) → at ys i ≡ shown_as (at xs i)
  unfolding operation
  at-alike i = get_or-map shown_as xs i (labelled_as 0 no_event)

  makes-alike : (i j : ℕ) → makes_it ys a b i j ≡ makes_it xs a b i j
  unfolding makes_it
  makes-alike i j =
      let x : Labelled = at xs i in
      let y : Labelled = at xs j in
      ap₂ (λ (v w : Labelled). eqb v.transaction a && (eqb w.transaction b && conflict v.event w.event)) (at-alike i) (at-alike j)
      ∙ ap (λ c. eqb x.transaction a && (eqb y.transaction b && c)) (conflict-alike shown_of shown-alike x.event y.event)

  all_alike : makes_it ys a b ≡ makes_it xs a b
  all_alike = fun_ext (λ i. fun_ext (λ j. makes-alike i j))

  first_alike : earliest_first ys a b ≡ earliest_first xs a b
  unfolding earliest_first
  first_alike = ap₂ (λ (hit : ℕ → ℕ → Bool) (n : ℕ). first_of (λ i. some_of (hit i) (from (suc i) (n - suc i))) 0 (below n)) all_alike (length-map xs shown_as)

  second_alike : earliest_second ys a b (earliest_first ys a b) ≡ earliest_second xs a b (earliest_first xs a b)
  unfolding earliest_second
  second_alike =
      ap (earliest_second ys a b) first_alike
      ∙ (let i : ℕ = earliest_first xs a b in
      ap₂ (λ (hit : ℕ → ℕ → Bool) (n : ℕ). first_of (hit i) 0 (from (suc i) (n - suc i))) all_alike (length-map xs shown_as))

  cause-alike : cause_of ys a b ≡ cause_of xs a b
  unfolding cause_of
  cause-alike =
      let i : ℕ = earliest_first xs a b in
      let j : ℕ = earliest_second xs a b i in
      ap₂ {C = Cause} (λ m n. record { first = m; second = n; reason = reason_of (at ys m).event (at ys n).event }) first_alike second_alike
      ∙ ap {B = Cause} (λ r. record { first = i; second = j; reason = r })
      (ap₂ (λ (v w : Labelled). reason_of v.event w.event) (at-alike i) (at-alike j) ∙ reason-alike (at xs i).event (at xs j).event)

pub cause-shown : (es : List Event) (a b : ℕ) → cause_of (labelled (map shown_of es)) a b ≡ cause_of (labelled es) a b
cause-shown es a b = ap (λ xs. cause_of xs a b) (labelled-alike shown_of shown-alike es) ∙ cause-alike (labelled es) a b
