-- `text::whole::line_feeds` meets its contract: those among the bytes so far are counted.
use Prim.Native.Nat.{◌≤◌}
use mathlib.Core.Path.{◌≡◌}
use lib.Dec.{eqb}
use lib.ListN.{take}
use Rattle.std.specs.List.{count_by}
use Rattle.text.specs.Line.{line_feed}
use Rattle.text.proofs.whole.line_feeds.Given as goal

abbrev pub invariant-loop-c : goal.invariant-loop-c
invariant-loop-c l = (l.n ≤ l.c-index) × (l.n ≡ count_by (λ c. eqb c line_feed) (take l.c-index l.text))
