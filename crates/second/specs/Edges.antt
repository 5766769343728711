-- The second engine's edges (document 02, L7): fewer than those of document 01, with the same paths.
use Rattle.std.specs.Prelude.{ℕ, List, [], ◌∷◌, ◌++◌, map}
use Rattle.trace.specs.Paths.{Edge}
use Rattle.graph.specs.declared.Labelled.{Labelled}
use Rattle.second.specs.declared.Cells.{Cells}
use Rattle.second.specs.Cells.{idle, sources, stored}

abbrev pub sources_of : Cells → Labelled → List ℕ
sources_of s x = sources s x.transaction x.event

abbrev pub stored_of : Cells → Labelled → Cells
stored_of s x = stored s x.transaction x.event

-- one edge to a from each source
abbrev pub into : ℕ → List ℕ → List Edge
into a bs = map (λ b. record { origin = b; goal = a }) bs

-- the edges that the engine makes of the records, from a state on
unfoldable pub second_from : Cells → List Labelled → List Edge
second_from s [] = []
second_from s (x ∷ xs) = into x.transaction (sources_of s x) ++ second_from (stored_of s x) xs

abbrev pub second_edges : List Labelled → List Edge
second_edges xs = second_from idle xs

-- Everything above, opened at once, for a proof by computation: `unfolding opened`
unfoldable pub opened : Unit {0}
unfolding second_from
opened = tt
