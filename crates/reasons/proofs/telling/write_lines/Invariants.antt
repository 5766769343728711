-- `reasons::telling::write_lines` meets its contract: the lines of the places before this one are written.
use mathlib.Core.Path.{◌≡◌}
use mathlib.Core.List.{map}
use Rattle.lists.specs.Lists.{over, below}
use Rattle.reasons.specs.Telling.{line_at}
use Rattle.reasons.proofs.telling.write_lines.Given as goal

abbrev pub invariant-loop-place : goal.invariant-loop-place
invariant-loop-place l = l.lines ≡ over (map (line_at l.records l.cycle) (below l.place)) l.initial.lines
