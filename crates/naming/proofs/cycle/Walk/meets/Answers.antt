-- `naming::cycle::Walk::meets` meets its contract.
use Prim.Native.Nat.{ℕ, suc, ◌≤◌}
use native.Mathlib.Omega.{arith}
use mathlib.Core.Path.{◌≡◌, sym, ap, ◌∙◌, subst}
use mathlib.Core.Bool.{false, not, ◌&&◌, and-false}
use lib.Dec.{eqb, ltb, ltb→lt, nltb→le}
use Rattle.lists.proofs.Tests.{by, by-same, T_of}
use Rattle.naming.specs.Naming.{transaction_at}
use Rattle.naming.proofs.Lowest.{meets_at, meets-other, meets-yes, meets-no}
use Rattle.naming.proofs.Links.{first-reaches, next-reaches}
use Rattle.naming.proofs.cycle.Walk.meets.Goals.{else-i-j-via-then-i-j+else-makes_edge, else-i-j-via-else-i-j}
use Rattle.naming.proofs.cycle.Walk.meets.Goals as goal

pub loop-j-init : goal.loop-j-init
loop-j-init c =
    let w = c.args.self.now in
    let reached = first-reaches w.records.now w.few w.t w.chains.now.firsts w.chains.now.nexts w.linked w.in_t c.first_of-j.result c.first_of-j.ensures in
    (reached.of-a, λ k lt h in-k. meets-other w.records.now w.t c.args.i k (reached.none k (omega arith) h in-k))

pub returns-then-makes_edge : goal.returns-then-makes_edge
returns-then-makes_edge c =
    let w = c.args.self.now in
    let j = c.loop-j.j in
    sym (meets-yes w.records.now w.t c.args.i j c.if-i-j.true c.loop-j-test.true (c.loop-j.invariant.0 c.loop-j-test.true) (sym c.makes_edge.ensures ∙ c.if-makes_edge.true))

pub loop-j-smaller : goal.loop-j-smaller
loop-j-smaller c =
    let w = c.args.self.now in
    let in-j = c.loop-j-test.true in
    let reached = next-reaches w.records.now w.few w.t w.chains.now.firsts w.chains.now.nexts w.linked w.in_t c.loop-j.j in-j (c.loop-j.invariant.0 in-j) c.next_of-j.result c.next_of-j.ensures in
    omega (arith, in-j, reached.higher)

pub loop-j-preserved : goal.loop-j-preserved
loop-j-preserved c =
    let w = c.args.self.now in
    let xs = w.records.now in
    let t = w.t in
    let i = c.args.i in
    let j = c.loop-j.j in
    let in-j = c.loop-j-test.true in
    let reached = next-reaches xs w.few t w.chains.now.firsts w.chains.now.nexts w.linked w.in_t j in-j (c.loop-j.invariant.0 in-j) c.next_of-j.result c.next_of-j.ensures in (
      reached.of-a,
      λ k lt h in-k. by-same k j
          (λ e. elim c.else-i-j.branch [
            | else-i-j-via-then-i-j+else-makes_edge v ↦ subst (λ l. meets_at xs t i l ≡ false) (sym e) (ap (λ p. eqb (transaction_at xs j) t && p) (sym v.makes_edge.ensures ∙ v.if-makes_edge.false) ∙ and-false (eqb (transaction_at xs j) t))
            | else-i-j-via-else-i-j v ↦ absurd (omega (arith, lt, v.if-i-j.false, e))
          ])
          (λ d. by (ltb k j)
          (λ q. c.loop-j.invariant.1 k lt (ltb→lt k j (T_of q)) in-k)
          (λ q. meets-other xs t i k (reached.none k (after k d (nltb→le k j (T_of (ap not q)))) h in-k))),
    )
  where
    after : {j : ℕ} (k : ℕ) → (k ≡ j → ⊥) → j ≤ k → suc j ≤ k
    after k d le = omega arith

pub returns : goal.returns
returns c =
    let w = c.args.self.now in
    sym (meets-no w.records.now w.t c.args.i (λ k lt h. c.loop-j.invariant.1 k lt (omega arith) h))
