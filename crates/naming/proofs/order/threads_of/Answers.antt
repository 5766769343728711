-- `naming::order::threads_of` meets its contract.
use Prim.Native.Nat.{ℕ, suc, ◌-◌}
use native.Mathlib.Omega.{arith}
use mathlib.Core.Path.{◌≡◌, refl, ◌∙◌, subst}
use lib.ListN.{replicate, length-set}
use Rattle.lists.proofs.Places.{zeros-at}
use Rattle.naming.specs.Naming.{transaction_at, record_at}
use Rattle.naming.proofs.Picked.{Threads, threads-none, threads-skip, threads_more}
use Rattle.naming.proofs.order.threads_of.Goals as goal

pub loop-i-init : goal.loop-i-init
loop-i-init c = (refl, threads-none c.args.records.now (replicate 512 0) (zeros-at 512))

pub loop-i-preserved-then-a-lt512 : goal.loop-i-preserved-then-a-lt512
loop-i-preserved-then-a-lt512 c =
    let xs = c.args.records.now in
    let i : ℕ = c.loop-i.i - 1 in
    let next : c.loop-i.i ≡ suc i = omega arith in
    let l = c.loop-i.threads in (
      length-set l (transaction_at xs i) (record_at xs i).event.thread ∙ c.loop-i.invariant.0,
      threads_more xs i l (omega arith) (subst (λ k. Threads xs k l) next c.loop-i.invariant.1) (omega (arith, c.loop-i.invariant.0, c.if-a-lt512.true)),
    )

pub loop-i-preserved : goal.loop-i-preserved
loop-i-preserved c =
    let xs = c.args.records.now in
    let i : ℕ = c.loop-i.i - 1 in
    let next : c.loop-i.i ≡ suc i = omega arith in
    let l = c.loop-i.threads in
    (c.loop-i.invariant.0, threads-skip xs i l (omega arith) (subst (λ k. Threads xs k l) next c.loop-i.invariant.1) c.if-a-lt512.false)
