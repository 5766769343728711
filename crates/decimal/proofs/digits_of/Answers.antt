-- `decimal::digits_of` meets its contract: the last digit stands after the others.
use native.Mathlib.Omega.{arith}
use mathlib.Core.Path.{ap, ◌∙◌}
use mathlib.Core.List.{[], ◌∷◌, ◌++◌}
use Prim.Native.Nat.{◌/◌, ◌%◌}
use lib.ListN.{length}
use Rattle.decimal.specs.Decimal.{digit}
use Rattle.decimal.proofs.Leading.{leading-size, leading-last}
use Rattle.decimal.proofs.digits_of.Goals as goal

pub returns : goal.returns
returns c =
    c.push.ensures.fits (omega (arith, ap length c.push_digit-4.ensures, leading-size (c.args.n / 10) (omega (arith, c.ranges.n))))
    ∙ ap (λ d. d ++ (digit (c.args.n % 10) ∷ [])) c.push_digit-4.ensures ∙ leading-last c.args.n
