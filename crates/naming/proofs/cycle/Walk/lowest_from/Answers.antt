-- `naming::cycle::Walk::lowest_from` meets its contract.
use Prim.Native.Nat.{suc, ◌+◌, ◌-◌, ◌≤◌, ◌<◌}
use native.Mathlib.Omega.{arith}
use mathlib.Core.Path.{sym, ap, ◌∙◌, subst}
use mathlib.Core.Logic.{inl, inr}
use lib.ListN.{length, get_or}
use Rattle.lists.proofs.Tests.{by-same}
use Rattle.naming.specs.Naming.{transaction_at, candidate}
use Rattle.naming.proofs.Lowest.{lowest_after, candidate-lower, candidate-higher, passed_none, passed-made, passed-same, passed-all, passed-rest, unmet}
use Rattle.naming.proofs.cycle.Walk.lowest_from.Goals.{then-b-lowest+then-makes_edge, else-b-lowest, else-b-lowest-via-then-b-lowest+else-makes_edge, else-b-lowest-via-else-b-lowest}
use Rattle.naming.proofs.cycle.Walk.lowest_from.Goals as goal

pub loop-j-preserved : goal.loop-j-preserved
loop-j-preserved c =
    let w = c.args.self.now in
    let xs = w.records.now in
    let rows = w.work.now in
    let t = w.t in
    let i = c.args.i in
    let j = c.loop-j.j in
    let low = c.loop-j.lowest in
    let in-j : j < length xs = omega arith in
    let below : low ≤ 512 = omega (arith, c.requires.1, c.loop-j.invariant.0) in
    let own = w.ranked.0 j (omega arith) in-j in (
      elim c.if-b-lowest.branch [
        | then-b-lowest+then-makes_edge v ↦ omega (arith, v.if-b-lowest.true, v.lowest-is, c.loop-j.invariant.0)
        | else-b-lowest v ↦ omega (arith, v.lowest-is, c.loop-j.invariant.0)
      ],
      elim c.if-b-lowest.branch [
        | then-b-lowest+then-makes_edge v ↦ ap (λ k. lowest_after xs rows t i (j + 1) (suc k)) (v.lowest-is ∙ own)
            ∙ passed-made xs rows t i j (suc low) in-j (suc (candidate rows t (transaction_at xs j)))
            (candidate-lower rows t (transaction_at xs j) low below (subst (λ r. r < low) own v.if-b-lowest.true)) (sym v.makes_edge.ensures ∙ v.if-makes_edge.true)
        | else-b-lowest v ↦ ap (λ k. lowest_after xs rows t i (j + 1) (suc k)) v.lowest-is
            ∙ elim v.else-b-lowest.branch [
              | else-b-lowest-via-then-b-lowest+else-makes_edge u ↦ passed_none xs rows t i j (suc low) in-j (sym u.makes_edge.ensures ∙ u.if-makes_edge.false)
              | else-b-lowest-via-else-b-lowest u ↦ by-same (transaction_at xs j) t
                  (λ of-t. passed_none xs rows t i j (suc low) in-j (unmet xs t i j c.requires.2 (omega arith) in-j of-t))
                  (λ d. passed-same xs rows t i j (suc low) in-j (candidate-higher rows t (transaction_at xs j) low below d (subst (λ r. low ≤ r) own u.if-b-lowest.false)))
            ]
      ]
          ∙ c.loop-j.invariant.1,
    )

pub returns-then-lowest-self : goal.returns-then-lowest-self
returns-then-lowest-self c =
    let w = c.args.self.now in
    let xs = w.records.now in
    let rows = w.work.now in
    let t = w.t in
    let i = c.args.i in
    let j = c.loop-j.j in
    let low = c.loop-j.lowest in
    let below : low ≤ 512 = omega (arith, c.requires.1, c.loop-j.invariant.0) in
    let passed : low ≤ get_or w.lowest.now j 0 = c.if-lowest-self.true in (
      c.loop-j.invariant.0,
      sym (passed-rest xs rows t (length xs - j) i j (suc low) (omega arith)
          (λ k le lt. by-same (transaction_at xs k) t
          (λ of-t. inr (unmet xs t i k c.requires.2 (omega arith) lt of-t))
          (λ d. inl (candidate-higher rows t (transaction_at xs k) low below d (omega (arith, passed, w.ranked.1 j k (omega arith) le lt))))))
          ∙ c.loop-j.invariant.1,
    )

pub returns : goal.returns
returns c =
    let w = c.args.self.now in
    (c.loop-j.invariant.0, sym (passed-all w.records.now w.work.now w.t c.args.i c.loop-j.j (suc c.loop-j.lowest) (omega arith)) ∙ c.loop-j.invariant.1)
