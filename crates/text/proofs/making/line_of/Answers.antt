-- `making::line_of`: thread, space, name, what the kind has, line feed.
use Prim.Native.Nat.{◌≤◌}
use native.Mathlib.Omega.{arith}
use mathlib.Core.Path.{◌≡◌, ap, ap₂, ◌∙◌}
use mathlib.Core.List.{[], ◌∷◌, ◌++◌}
use lib.ListN.{length, length-append}
use Rattle.record.proofs.Laws.{shape}
use Rattle.decimal.specs.Decimal.{decimal}
use Rattle.decimal.proofs.Decimals.{size-three}
use Rattle.text.specs.Line.{name, space}
use Rattle.text.proofs.Scans.{name-short}
use Rattle.text.proofs.Makings.{line-made, begun-size}
use Rattle.text.proofs.making.line_of.Goals as goal

pub push_fields-requires : goal.push_fields-requires
push_fields-requires c =
    let e = c.args.e in
    let digits : c.as_slice.result.now ≡ decimal e.thread = c.as_slice.ensures ∙ c.digits_of.ensures in
    let few = size-three e.thread (omega arith) in
    let thread = c.extend.ensures.fits (omega (arith, ap length c.new-line.ensures, ap length digits, few)) ∙ ap₂ (λ x y. x ++ y) c.new-line.ensures digits in
    let spaced : c.push.new.self ≡ c.extend.new.self ++ (space ∷ []) = c.push.ensures.fits (omega (arith, ap length thread, few)) in
    let begun : length c.push.new.self ≤ 4 = begun-size e.thread _ _ (omega arith) thread spaced in
    let short = name-short c.kind.result (omega (arith, c.kind.ensures, (shape e.op).low)) (omega (arith, c.kind.ensures, (shape e.op).high)) in
    let named : c.extend-2.new.self ≡ c.push.new.self ++ c.name.result.now = c.extend-2.ensures.fits (omega (arith, begun, ap length c.name.ensures, short)) in
    omega (arith, begun, short, ap length c.name.ensures, ap length named, length-append c.push.new.self c.name.result.now)

pub returns : goal.returns
returns c =
    let e = c.args.e in
    let digits : c.as_slice.result.now ≡ decimal e.thread = c.as_slice.ensures ∙ c.digits_of.ensures in
    let few = size-three e.thread (omega arith) in
    let thread = c.extend.ensures.fits (omega (arith, ap length c.new-line.ensures, ap length digits, few)) ∙ ap₂ (λ x y. x ++ y) c.new-line.ensures digits in
    let spaced : c.push.new.self ≡ c.extend.new.self ++ (space ∷ []) = c.push.ensures.fits (omega (arith, ap length thread, few)) in
    let begun : length c.push.new.self ≤ 4 = begun-size e.thread _ _ (omega arith) thread spaced in
    let short = name-short c.kind.result (omega (arith, c.kind.ensures, (shape e.op).low)) (omega (arith, c.kind.ensures, (shape e.op).high)) in
    let named : c.extend-2.new.self ≡ c.push.new.self ++ c.name.result.now = c.extend-2.ensures.fits (omega (arith, begun, ap length c.name.ensures, short)) in
    let ended = c.push-2.ensures.fits
    (omega (arith, begun, short, ap length c.name.ensures, ap length named, length-append c.push.new.self c.name.result.now, c.push_fields.ensures.1)) in
    ended ∙ line-made e c.extend.new.self c.push.new.self c.extend-2.new.self c.push_fields.new.line thread spaced
    (named ∙ ap (λ n. c.push.new.self ++ n) (c.name.ensures ∙ ap name c.kind.ensures)) c.push_fields.ensures.0
