-- `naming::order::above_threads` meets its contract.
use Prim.Native.Nat.{ℕ, ◌<◌}
use native.Mathlib.Omega.{arith}
use mathlib.Core.Path.{refl, sym, ◌∙◌}
use lib.ListN.{get_or}
use Rattle.naming.specs.Naming as Naming
use Rattle.naming.proofs.Picked.{above_same, above_more}
use Rattle.naming.proofs.order.above_threads.Goals.{else-above-t, then-above-t}
use Rattle.naming.proofs.order.above_threads.Goals as goal

pub loop-a-init : goal.loop-a-init
unfolding Naming.above
loop-a-init c = (omega arith, refl)

pub loop-a-preserved : goal.loop-a-preserved
loop-a-preserved c =
    let threads = c.args.threads.now in
    let a = c.loop-a.a in
    let thread : ℕ → ℕ = λ b. get_or threads b 0 in
    let small : get_or threads a 0 < 256 = omega (arith, c.type_inv.threads) in
    elim c.if-above-t.branch [
      | then-above-t w ↦ (omega (arith, w.above-is), w.above-is ∙ sym (above_more thread a (omega (arith, c.loop-a.invariant.1, w.if-above-t.true))))
      | else-above-t w ↦ (omega (arith, w.above-is, c.loop-a.invariant.0), w.above-is ∙ c.loop-a.invariant.1 ∙ sym (above_same thread a (omega (arith, c.loop-a.invariant.1, w.if-above-t.false))))
    ]
