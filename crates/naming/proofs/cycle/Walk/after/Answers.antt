-- `naming::cycle::Walk::after` meets its contract.
use Prim.Native.Nat.{suc}
use native.Mathlib.Omega.{arith}
use native.Mathlib.Numerals.{add-one}
use mathlib.Core.Path.{refl, sym, ap, ◌∙◌}
use mathlib.Core.Bool.{cond}
use borrow.Author.Tests.{lt-ltb, le-ltb}
use Rattle.std.specs.Prelude.{Some}
use Rattle.naming.proofs.Lowest.{lowest_from, from-own, from-met, next-closes, next-goes}
use Rattle.naming.proofs.Links.{first-reaches, next-reaches}
use Rattle.naming.proofs.cycle.Walk.after.Goals as goal

pub loop-i-init : goal.loop-i-init
loop-i-init c =
    let w = c.args.self.now in
    let reached = first-reaches w.records.now w.few c.args.a w.chains.now.firsts w.chains.now.nexts w.linked c.requires c.first_of-i.result c.first_of-i.ensures in
    (reached.of-a, omega arith, reached.same w.work.now w.t 513)

pub returns-then-meets : goal.returns-then-meets
returns-then-meets c =
    let w = c.args.self.now in
    let xs = w.records.now in
    let i = c.loop-i.i in
    let low = suc c.loop-i.lowest in
    next-closes xs w.work.now w.t c.args.a i low c.loop-i.invariant.2
    (from-met xs w.work.now w.t c.args.a i low w.own c.loop-i-test.true (c.loop-i.invariant.0 c.loop-i-test.true) (sym c.meets.ensures ∙ c.if-meets.true))

pub loop-i-smaller : goal.loop-i-smaller
loop-i-smaller c =
    let w = c.args.self.now in
    let in-i = c.loop-i-test.true in
    let reached = next-reaches w.records.now w.few c.args.a w.chains.now.firsts w.chains.now.nexts w.linked c.requires c.loop-i.i in-i (c.loop-i.invariant.0 in-i) c.next_of-i.result c.next_of-i.ensures in
    omega (arith, in-i, reached.higher)

pub loop-i-preserved : goal.loop-i-preserved
loop-i-preserved c =
    let w = c.args.self.now in
    let xs = w.records.now in
    let rows = w.work.now in
    let t = w.t in
    let a = c.args.a in
    let i = c.loop-i.i in
    let in-i = c.loop-i-test.true in
    let r = c.lowest_from-lowest.result in
    let reached = next-reaches xs w.few a w.chains.now.firsts w.chains.now.nexts w.linked c.requires i in-i (c.loop-i.invariant.0 in-i) c.next_of-i.result c.next_of-i.ensures in (
      reached.of-a,
      omega (arith, c.lowest_from-lowest.ensures.0, c.loop-i.invariant.1),
      reached.same rows t (suc r) ∙ ap (λ k. lowest_from xs rows t a k (suc r)) (sym (add-one i))
          ∙ from-own xs rows t a i (suc c.loop-i.lowest) (suc r) in-i (c.loop-i.invariant.0 in-i) c.lowest_from-lowest.ensures.1
          ∙ c.loop-i.invariant.2,
    )

pub returns-then-lowest-lt512 : goal.returns-then-lowest-lt512
returns-then-lowest-lt512 c =
    let w = c.args.self.now in
    let low = c.loop-i.lowest in
    sym (ap (λ p. Some (cond p low 0)) (lt-ltb low 512 c.if-lowest-lt512.true))
    ∙ next-goes w.records.now w.work.now w.t c.args.a c.loop-i.i (suc low) c.loop-i.invariant.2 (omega arith) low refl

pub returns-else-lowest-lt512 : goal.returns-else-lowest-lt512
returns-else-lowest-lt512 c =
    let w = c.args.self.now in
    let low = c.loop-i.lowest in
    sym (ap (λ p. Some (cond p low 0)) (le-ltb low 512 c.if-lowest-lt512.false))
    ∙ next-goes w.records.now w.work.now w.t c.args.a c.loop-i.i (suc low) c.loop-i.invariant.2 (omega arith) low refl
