-- `making::push_field`: a space, and then the digits.
use native.Mathlib.Omega.{arith}
use mathlib.Core.Path.{◌≡◌, ap, ap₂, ◌∙◌}
use mathlib.Core.List.{[], ◌∷◌, ◌++◌, append_assoc}
use lib.ListN.{length, length-append}
use Rattle.decimal.specs.Decimal.{decimal}
use Rattle.text.specs.Line.{space}
use Rattle.text.proofs.Makings.{field_is}
use Rattle.text.proofs.making.push_field.Goals as goal

pub returns : goal.returns
returns c =
    let a = c.args in
    let spaced : c.push.new.self ≡ a.line.now ++ (space ∷ []) = c.push.ensures.fits (omega arith) in
    let digits : c.as_slice.result.now ≡ decimal a.n = c.as_slice.ensures ∙ c.digits_of.ensures in
    c.extend.ensures.fits (omega (arith, ap length spaced, length-append a.line.now (space ∷ []), ap length digits)) ∙ ap₂ (λ x y. x ++ y) spaced digits
    ∙ append_assoc a.line.now (space ∷ []) (decimal a.n)
    ∙ ap (λ r. a.line.now ++ r) (field_is a.n)
