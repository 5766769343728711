-- `naming::chains::Chains::link` meets its contract: the records from one on are linked.
use Prim.Native.Nat.{ℕ, suc, ◌-◌, ◌≤◌}
use native.Mathlib.Omega.{arith}
use mathlib.Core.Path.{◌≡◌, subst}
use lib.ListN.{length, take, length-take}
use Rattle.naming.specs.Chains.{Linked}
use Rattle.naming.proofs.Fits.{first_ones}
use Rattle.naming.proofs.Linking.{linked-none, linked-skip, linked-more}
use Rattle.naming.proofs.chains.Chains.link.Goals as goal

pub loop-i-init : goal.loop-i-init
loop-i-init c = linked-none (take c.min.result c.args.records.now)

pub loop-i-preserved-then-a-lt512 : goal.loop-i-preserved-then-a-lt512
loop-i-preserved-then-a-lt512 c =
    let xs = take c.min.result c.args.records.now in
    let most : length xs ≤ 1024 = omega (arith, length-take c.min.result c.args.records.now, c.min.ensures) in
    let i : ℕ = c.loop-i.i - 1 in
    let next : c.loop-i.i ≡ suc i = omega arith in
    let firsts = c.loop-i.chains.firsts in
    let nexts = c.loop-i.chains.nexts in
    linked-more xs i firsts nexts (omega arith) (subst (λ k. Linked xs k firsts nexts) next c.loop-i.invariant) most c.if-a-lt512.true

pub loop-i-preserved : goal.loop-i-preserved
loop-i-preserved c =
    let xs = take c.min.result c.args.records.now in
    let i : ℕ = c.loop-i.i - 1 in
    let next : c.loop-i.i ≡ suc i = omega arith in
    let firsts = c.loop-i.chains.firsts in
    let nexts = c.loop-i.chains.nexts in
    linked-skip xs i firsts nexts (omega arith) (subst (λ k. Linked xs k firsts nexts) next c.loop-i.invariant) c.if-a-lt512.false

pub returns : goal.returns
returns c =
    let firsts = c.loop-i.chains.firsts in
    let nexts = c.loop-i.chains.nexts in
    let end : c.loop-i.i ≡ 0 = omega arith in
    let same = first_ones c.min.result c.args.records.now (omega (arith, c.min.ensures)) in
    subst (λ xs. Linked xs 0 firsts nexts) same (subst (λ k. Linked (take c.min.result c.args.records.now) k firsts nexts) end c.loop-i.invariant)
