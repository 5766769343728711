-- What the private functions that gather the edges promise one another. A reader of the public promise need not read this.
use Rattle.std.specs.Prelude.{ℕ, ◌<◌, ◌≤◌, ◌≡◌, cond, List, length, get_or}
use Rattle.trace.specs.Paths.{has_edge}
use Rattle.rows.specs.Bits.{has, marked}
use Rattle.graph.specs.declared.Labelled.{Labelled}
use Rattle.graph.specs.Edges.{makes, edges}

-- each record is of one of 512 transactions
abbrev pub Few : List Labelled → Type 0
Few xs = (i : ℕ) (d : Labelled) → i < length xs → (get_or xs i d).transaction < 512

-- The rows hold the edges of the records: bit b of row a is set where there is an edge from transaction a to b
pub record Links (xs : List Labelled) (work : List ℕ) : Type 0 where
  pub long : 4096 ≤ length work
  pub is : (a b : ℕ) → a < 512 → b < 512 → has work a b ≡ has_edge (edges xs) a b

-- the rows with the edge that x, which stands before y, makes, if it makes one
abbrev pub linked : Labelled → Labelled → List ℕ → List ℕ
linked x y work = cond (makes x y) (marked work x.transaction y.transaction) work
