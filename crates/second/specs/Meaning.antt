-- What document 02, L7, demands of the second engine's edges, as one statement. Its proof is `right` in proofs/Right.
-- (That judging by them gives the same answer on every input is said where judging is.)
use Rattle.std.specs.Prelude.{ℕ, ◌≡◌, List, take, T}
use Rattle.record.specs.declared.Event.{Event}
use Rattle.record.specs.Record.{in_range}
use Rattle.lists.specs.Lists.{all_of}
use Rattle.trace.specs.Paths.{Edge, has_edge, reaches, cyclic}
use Rattle.replay.specs.Machine.{fresh, possible}
use Rattle.graph.specs.Transactions.{labelled}
use Rattle.graph.specs.Violation.{edges_up_to}
use Rattle.second.specs.Edges.{second_edges}

-- the second engine's edges of the first k records
abbrev pub second_up_to : List Event → ℕ → List Edge
second_up_to es k = second_edges (labelled (take k es))

-- Beside those of document 01
pub record Right (es : List Event) (k : ℕ) : Type 0 where
  -- its direct edges are fewer: each is one of 01's
  pub fewer : (a b : ℕ) → T (has_edge (second_up_to es k) a b) → T (has_edge (edges_up_to es k) a b)
  -- paths agree
  pub paths : (a b : ℕ) → reaches (second_up_to es k) a b ≡ reaches (edges_up_to es k) a b
  -- and so there is a cycle exactly if there is one of 01's edges
  pub cycles : cyclic (second_up_to es k) ≡ cyclic (edges_up_to es k)

-- Of every possible history whose fields are in range, and every prefix of it
abbrev pub Demanded : Type 0
Demanded = (es : List Event) → T (possible fresh es) → T (all_of in_range es) → (k : ℕ) → Right es k
