-- `naming::order::take_all` meets its contract.
use Prim.Native.Nat.{ℕ, ◌+◌, ◌≤◌, ◌<◌}
use native.Mathlib.Omega.{arith}
use mathlib.Core.Path.{◌≡◌, sym, ap, ap₂, ◌∙◌, subst}
use lib.Dec.{T, eqb, eqb→eq}
use lib.ListN.{length, get_or, set, replicate}
use Rattle.lists.specs.Lists.{below, over}
use Rattle.lists.proofs.Lists.{first_holds}
use Rattle.graph.specs.Serial.{thread_of}
use Rattle.rows.specs.Bits.{marked}
use Rattle.naming.specs.Naming.{next_of, first_ready, count_order, order_by}
use Rattle.naming.proofs.Picked.{left_one, left-some_is, left-none_is, counts-ready}
use Rattle.naming.proofs.Taken.{writes, write_goes, write-ends, write-none, write-all, places, place-goes, place-ends, place_none, place-all, order-counted}
use Rattle.naming.proofs.order.take_all.Goals as goal

pub take-requires : goal.take-requires
take-requires c =
    let all = c.of-all.result in
    let lefts = c.loop-i.waiting.lefts in
    let m = all.above in
    let t = c.in-Some.t in
    let first = left-some_is lefts m c.first_ready.ensures.0 t (sym c.first_ready.ensures.1 ∙ c.in-Some.is) in
    let is_one : T (eqb (get_or lefts (left_one lefts m c.first_ready.ensures.0) 0) 1) = first_holds (λ u. eqb (get_or lefts u 0) 1) m (below m) (λ e. absurd (omega (arith, first.0, first.1, e))) in
    (first.1, omega (arith, ap length c.of-all.ensures.1, c.requires.2), eqb→eq (get_or lefts t 0) 1 (subst (λ u. T (eqb (get_or lefts u 0) 1)) (sym first.0) is_one), c.loop-i.invariant.0)

pub loop-i-preserved : goal.loop-i-preserved
loop-i-preserved c =
    let all = c.of-all.result in
    let rows = all.work.now in
    let thread : ℕ → ℕ = λ a. get_or all.threads a 0 in
    let n = all.n in
    let m = all.above in
    let i = c.loop-i.i in
    let l = c.loop-i.order in
    let before = c.loop-i.waiting in
    let inv = c.loop-i.invariant in
    let t = c.in-Some.t in
    let k = c.take.result in
    let first = left-some_is before.lefts m c.first_ready.ensures.0 t (sym c.first_ready.ensures.1 ∙ c.in-Some.is) in
    let found : t ≡ first_ready rows thread n m before.taken = first.0 ∙ counts-ready rows thread n m before.taken before.nexts before.lefts inv.0 in
    let row = c.take.ensures.1 in
    let is : k ≡ next_of thread n before.taken (first_ready rows thread n m before.taken) = c.take.ensures.0 ∙ ap (next_of thread n before.taken) found in
    let more : i < n = omega (arith, c.loop-i-test.true, c.of-all.ensures.0) in (
      c.take.ensures.2,
      ap (λ r. writes rows thread n m (i + 1) r (set l i k)) row ∙ ap (λ j. writes rows thread n m (i + 1) (marked before.taken 0 j) (set l i j)) is
          ∙ write_goes rows thread n m i before.taken l more (subst (λ u. u < m) found first.1) ∙ inv.1,
      ap (places rows thread n m (i + 1)) row ∙ ap (λ j. places rows thread n m (i + 1) (marked before.taken 0 j)) is
          ∙ place-goes rows thread n m i before.taken l more (subst (λ u. u < m) found first.1) ∙ inv.2,
    )

pub returns-in_default : goal.returns-in_default
returns-in_default c =
    let all = c.of-all.result in
    let rows = all.work.now in
    let thread : ℕ → ℕ = λ a. get_or all.threads a 0 in
    let n = all.n in
    let m = all.above in
    let i = c.loop-i.i in
    let l = c.loop-i.order in
    let before = c.loop-i.waiting in
    let inv = c.loop-i.invariant in
    let none : m ≤ first_ready rows thread n m before.taken =
    subst (λ u. m ≤ u) (counts-ready rows thread n m before.taken before.nexts before.lefts inv.0) (left-none_is before.lefts m c.first_ready.ensures.0 (sym c.first_ready.ensures.1 ∙ c.in_default.is)) in
    let more : i < n = omega (arith, c.loop-i-test.true, c.of-all.ensures.0) in
    let same : count_order rows thread n m n (replicate 8 0) ≡ order_by (thread_of c.args.records.now) c.args.n c.args.work.now =
    order-counted thread (thread_of c.args.records.now) n (λ a h. c.of-all.ensures.2 a (omega (arith, h, all.few))) rows m all.bound.1
    ∙ ap₂ (order_by (thread_of c.args.records.now)) c.of-all.ensures.0 c.of-all.ensures.1 in (
      place-ends rows thread n m i before.taken l more none ∙ inv.2 ∙ place-all rows thread n m (replicate 8 0) ∙ ap length same,
      write-ends rows thread n m i before.taken l more none ∙ inv.1 ∙ write-all rows thread n m (replicate 8 0) c.args.order.now (omega (arith, c.of-all.ensures.0, c.requires.1))
          ∙ ap (λ new. over new c.args.order.now) same,
    )

pub returns : goal.returns
returns c =
    let all = c.of-all.result in
    let rows = all.work.now in
    let thread : ℕ → ℕ = λ a. get_or all.threads a 0 in
    let n = all.n in
    let m = all.above in
    let i = c.loop-i.i in
    let l = c.loop-i.order in
    let taken = c.loop-i.waiting.taken in
    let inv = c.loop-i.invariant in
    let end : n ≤ i = omega (arith, c.loop-i-test.false, c.of-all.ensures.0) in
    let last : c.args.n ≡ i = omega (arith, c.loop-i-test.false, c.loop-i.auto.i-end) in
    let same : count_order rows thread n m n (replicate 8 0) ≡ order_by (thread_of c.args.records.now) c.args.n c.args.work.now =
    order-counted thread (thread_of c.args.records.now) n (λ a h. c.of-all.ensures.2 a (omega (arith, h, all.few))) rows m all.bound.1
    ∙ ap₂ (order_by (thread_of c.args.records.now)) c.of-all.ensures.0 c.of-all.ensures.1 in (
      last ∙ place_none rows thread n m i taken l end ∙ inv.2 ∙ place-all rows thread n m (replicate 8 0) ∙ ap length same,
      write-none rows thread n m i taken l end ∙ inv.1 ∙ write-all rows thread n m (replicate 8 0) c.args.order.now (omega (arith, c.of-all.ensures.0, c.requires.1))
          ∙ ap (λ new. over new c.args.order.now) same,
    )
