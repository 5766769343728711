-- `decimal::push_digit` meets its contract.
use native.Mathlib.Omega.{arith}
use mathlib.Core.Path.{ap, ◌∙◌}
use mathlib.Core.List.{[], ◌∷◌, ◌++◌}
use Prim.Native.Nat.{◌/◌, ◌%◌}
use lib.ListN.{length}
use Rattle.std.proofs.Math.Nat.{div-le_self}
use Rattle.std.proofs.lemmas.Nat.{le-div}
use Rattle.decimal.specs.Decimal.{digit}
use Rattle.decimal.proofs.Leading.{leading-size, leading-more}
use Rattle.decimal.proofs.push_digit.Goals as goal

pub returns-then-power-n : goal.returns-then-power-n
returns-then-power-n c =
    let m = c.args.n / c.args.power in
    c.push.ensures.fits (omega (arith, ap length c.requires.1, leading-size (m / 10) (omega (arith, div-le_self c.args.n c.args.power, c.ranges.n))))
    ∙ ap (λ d. d ++ (digit (m % 10) ∷ [])) c.requires.1 ∙ leading-more m (le-div 1 c.args.n c.args.power (omega (arith, c.requires.0)) (omega (arith, c.if-power-n.true)))
