-- `naming::cycle::rank_records` meets its contract.
use Prim.Native.Nat.{ℕ, suc, ◌-◌, ◌≤◌, ◌<◌}
use native.Mathlib.Omega.{arith}
use mathlib.Core.Path.{◌≡◌, sym, subst}
use lib.ListN.{length}
use Rattle.lists.proofs.Tests.{by-same}
use Rattle.naming.specs.Naming.{transaction_at, candidate, Ranked}
use Rattle.naming.proofs.Links.{ranked-more}
use Rattle.naming.proofs.cycle.rank_records.Goals.{else-b-low, then-b-low}
use Rattle.naming.proofs.cycle.rank_records.Goals as goal

pub loop-i-preserved : goal.loop-i-preserved
loop-i-preserved c =
    let xs = c.args.records.now in
    let rows = c.args.work.now in
    let t = c.args.t in
    let i : ℕ = c.loop-i.i - 1 in
    let next : c.loop-i.i ≡ suc i = omega arith in
    let candidates = c.loop-i.candidates in
    let lows = c.loop-i.lowest in
    let b = c.candidate-b.result in
    let low = c.if-b-low.low in
    let both : (low ≤ b) × (low ≤ c.loop-i.low) = elim c.if-b-low.branch [ then-b-low w ↦ (omega (arith, w.low-is), omega (arith, w.if-b-low.true, w.low-is)) | else-b-low w ↦ (omega (arith, w.if-b-low.false, w.low-is), omega (arith, w.low-is)) ] in
    let least : (j : ℕ) → i ≤ j → j < length xs → low ≤ candidate rows t (transaction_at xs j) = λ j le lt. by-same j i
    (λ e. subst (λ k. low ≤ candidate rows t (transaction_at xs k)) (sym e) (omega (arith, both.0, c.candidate-b.ensures)))
    (λ d. omega (arith, both.1, c.loop-i.invariant.1 j (omega arith) lt)) in (
      ranked-more xs rows t i candidates lows b low (omega arith) (omega arith) (subst (λ k. Ranked xs rows t k candidates lows) next c.loop-i.invariant.0) c.candidate-b.ensures least,
      least,
    )
