-- What is told of all edges of the cycle at once, for the program: what makes each, in order.
use Rattle.std.specs.Prelude.{ℕ, zero, suc, List, [], map, length, Option, Some}
use Rattle.record.specs.declared.Event.{Event}
use Rattle.lists.specs.Lists.{over, below}
use Rattle.graph.specs.Violation.{shortest, cycle_of}
use Rattle.looking.specs.Refusals.{events}
use Rattle.checker.specs.Judged.{refusal}
use Rattle.reasons.specs.declared.Cause.{Cause}
use Rattle.reasons.specs.Why.{cause_at}

-- none where there is no violation
unfoldable pub lines : List Event → List Cause
lines es = elim (shortest es) [ zero ↦ [] | suc k ↦ map (cause_at es k) (below (length (cycle_of es (suc k)))) ]

-- the list lent for the lines, at the end: a refused recording has none
unfoldable pub explained : List ℕ → List ℕ → List ℕ → List (Option Cause) → List (Option Cause)
explained input out work old = elim (refusal input out work).number [ zero ↦ over (map Some (lines (events input))) old | suc n ↦ old ]
