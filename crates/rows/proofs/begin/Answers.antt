-- `rows::begin` meets its contract: after a turns the first a bits of the diagonal are set.
use Prim.Native.Nat.{ℕ, min}
use native.Mathlib.Omega.{arith}
use native.Mathlib.Numerals.{add-one}
use mathlib.Core.Path.{◌≡◌, refl, ap, ap₂, ◌∙◌}
use mathlib.Core.List.{List}
use Rattle.rows.specs.Bits.{marked, diagonal_to, begun}
use Rattle.rows.proofs.begin.Goals as goal

pub loop-a-init : goal.loop-a-init
unfolding diagonal_to
loop-a-init c = refl

pub loop-a-preserved : goal.loop-a-preserved
unfolding diagonal_to
loop-a-preserved c = c.mark.ensures ∙ rw add-one (ap (λ (w : List ℕ). marked w c.loop-a.a c.loop-a.a) c.loop-a.invariant)

pub returns : goal.returns
unfolding begun
returns c =
    let e : c.loop-a.a ≡ min c.args.n 512 = omega arith in
    c.loop-a.invariant ∙ ap₂ diagonal_to e c.clear.ensures
