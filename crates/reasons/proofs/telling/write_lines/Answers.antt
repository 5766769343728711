-- `reasons::telling::write_lines` meets its contract: the lines of the places before this one are written.
use native.Mathlib.Omega.{arith}
use mathlib.Core.Path.{◌≡◌, refl, ap, ap₂, ◌∙◌}
use mathlib.Core.List.{map}
use lib.ListN.{length, set}
use Rattle.std.specs.Prelude.{Some}
use Rattle.lists.specs.Lists.{over, from, below}
use Rattle.reasons.specs.Telling.{line_at}
use Rattle.reasons.proofs.Tellings.{line_more}
use Rattle.reasons.proofs.telling.write_lines.Goals as goal

pub loop-place-init : goal.loop-place-init
unfolding over from
loop-place-init c = refl

pub loop-place-preserved : goal.loop-place-preserved
unfolding line_at
loop-place-preserved c =
    let a = c.args in
    let p = c.loop-place.place in
    ap₂ (λ l x. set l p x) c.loop-place.invariant (ap Some c.cause_at.ensures) ∙ line_more (line_at a.records.now a.cycle.now) a.lines.now p (omega arith)

pub returns : goal.returns
returns c =
    let a = c.args in
    let all : c.loop-place.place ≡ length a.cycle.now = omega arith in
    c.loop-place.invariant ∙ ap (λ n. over (map (line_at a.records.now a.cycle.now) (below n)) a.lines.now) all
