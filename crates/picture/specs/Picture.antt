-- The graph of a history in the DOT language (document 02, L5).
use Rattle.std.specs.Prelude.{ℕ, List, [], ◌∷◌, ◌++◌, map}
use Rattle.record.specs.declared.Event.{Event}
use Rattle.lists.specs.Lists.{keep, each, below}
use Rattle.trace.specs.Paths.{Edge, has_edge}
use Rattle.graph.specs.Transactions.{labelled, transactions}
use Rattle.graph.specs.Edges.{edges}
use Rattle.decimal.specs.Decimal.{decimal}

-- ---- The bytes

-- `digraph {` and a line feed
abbrev pub opening : List ℕ
opening = 100 ∷ 105 ∷ 103 ∷ 114 ∷ 97 ∷ 112 ∷ 104 ∷ 32 ∷ 123 ∷ 10 ∷ []

-- ` -> `
abbrev pub arrow : List ℕ
arrow = 32 ∷ 45 ∷ 62 ∷ 32 ∷ []

-- a semicolon and a line feed
abbrev pub line_end : List ℕ
line_end = 59 ∷ 10 ∷ []

-- `}` and a line feed
abbrev pub closing : List ℕ
closing = 125 ∷ 10 ∷ []

-- ---- The lines

-- a transaction's, such as `0;`
unfoldable pub transaction_line : ℕ → List ℕ
transaction_line a = decimal a ++ line_end

-- an edge's, such as `0 -> 1;`
unfoldable pub edge_line : Edge → List ℕ
edge_line e = decimal e.origin ++ (arrow ++ (decimal e.goal ++ line_end))

-- ---- The edges, each once, by first and then second number

abbrev pub edge : ℕ → ℕ → Edge
edge a b = record { origin = a; goal = b }

-- those of n transactions that begin at a
unfoldable pub edges_from : ℕ → List Edge → ℕ → List Edge
edges_from n g a = map (edge a) (keep (has_edge g a) (below n))

unfoldable pub edges_in_order : ℕ → List Edge → List Edge
edges_in_order n g = each (edges_from n g) (below n)

-- ---- The text

-- of n transactions and edges between them
unfoldable pub drawing : ℕ → List Edge → List ℕ
drawing n g = opening ++ (each transaction_line (below n) ++ (each edge_line (edges_in_order n g) ++ closing))

-- of a history: all its transactions, and the edges of the whole, also where it has a cycle
unfoldable pub picture : List Event → List ℕ
picture es = drawing (transactions es) (edges (labelled es))

-- Everything above, opened at once, for a proof by computation: `unfolding opened`
unfoldable pub opened : Unit {0}
unfolding transaction_line edge_line edges_from edges_in_order drawing picture
opened = tt
