-- `ancestors::spread` meets its contract: after d turns the first d rows are seen to.
use Prim.Native.Nat.{ℕ}
use native.Mathlib.Omega.{arith}
use mathlib.Core.Path.{◌≡◌, refl, sym, ap, ◌∙◌}
use mathlib.Core.Bool.{Bool, cond}
use Rattle.rows.specs.Bits.{joined}
use Rattle.ancestors.specs.Sources.{spread_to}
use Rattle.ancestors.proofs.Joining.{spread-next}
use Rattle.ancestors.proofs.spread.Goals.{then-test, else-test}
use Rattle.ancestors.proofs.spread.Goals as goal

pub loop-d-init : goal.loop-d-init
unfolding spread_to
loop-d-init c = refl

pub loop-d-preserved : goal.loop-d-preserved
loop-d-preserved c =
    let a = c.args in
    spread-next a.work.now c.loop-d.work c.if-test.work c.loop-d.d a.a c.loop-d.invariant
    (elim c.if-test.branch [
      | then-test w ↦ w.work-is ∙ w.join.ensures ∙ sym (ap (λ (b : Bool). cond b (joined c.loop-d.work c.loop-d.d a.a) c.loop-d.work) (sym c.test.ensures ∙ w.if-test.true))
      | else-test w ↦ w.work-is ∙ sym (ap (λ (b : Bool). cond b (joined c.loop-d.work c.loop-d.d a.a) c.loop-d.work) (sym c.test.ensures ∙ w.if-test.false))
    ])

pub returns : goal.returns
returns c =
    let a = c.args in
    let e : c.loop-d.d ≡ a.n = omega arith in
    c.loop-d.invariant ∙ ap (λ (k : ℕ). spread_to k a.work.now a.a) e
