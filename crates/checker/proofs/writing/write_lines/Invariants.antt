-- `checker::writing::write_lines` meets its contract: a store for each transaction.
use mathlib.Core.Path.{◌≡◌}
use mathlib.Core.List.{map}
use lib.ListN.{take}
use Rattle.lists.specs.Lists.{over}
use Rattle.checker.specs.Writing.{line_of}
use Rattle.checker.proofs.writing.write_lines.Given as goal

abbrev pub invariant-loop-k : goal.invariant-loop-k
invariant-loop-k l = l.lines ≡ over (take l.k (map (line_of l.records) l.order)) l.initial.lines
