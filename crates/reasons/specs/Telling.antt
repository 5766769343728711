-- What the private functions that tell of all edges at once promise one another.
-- A reader of the public promises need not read this.
use Rattle.std.specs.Prelude.{ℕ, List, Option, Some}
use Rattle.graph.specs.declared.Labelled.{Labelled}
use Rattle.reasons.specs.declared.Cause.{Cause}
use Rattle.reasons.specs.Why.{origin_of, goal_of, cause_of}

-- what is told of the edge at place p of a cycle, among the records xs
unfoldable pub line_at : List Labelled → List ℕ → ℕ → Option Cause
line_at xs cycle p = Some (cause_of xs (origin_of cycle p) (goal_of cycle p))
