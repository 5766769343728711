-- What the private functions that put text into an output promise one another. A reader of the public promise need not read this.
use Rattle.std.specs.Prelude.{ℕ, ◌+◌, ◌≤◌, ◌≡◌, true, false, List, [], ◌++◌, length}
use Rattle.lists.specs.Lists.{written_at, keep, each, below}
use Rattle.rows.specs.Bits.{has}
use Rattle.picture.specs.Picture.{opening, closing, transaction_line, edge, edge_line}

-- Bytes put from a place on: the place after them, and what is left where they fit
pub record Puts (bytes : List ℕ) (at : ℕ) (before after : List ℕ) (r : ℕ) : Type 0 where
  pub size : length after ≡ length before
  pub end : r ≡ at + length bytes
  pub put : at + length bytes ≤ length before → after ≡ written_at before at bytes

-- the line of the edge from a to b, where row a holds it
unfoldable pub link_line : List ℕ → ℕ → ℕ → List ℕ
link_line work a b = elim (has work a b) [ true ↦ edge_line (edge a b) | false ↦ [] ]

-- the lines of the edges that row a holds, of n transactions
unfoldable pub row_lines : List ℕ → ℕ → ℕ → List ℕ
row_lines work n a = each (λ b. edge_line (edge a b)) (keep (has work a) (below n))

-- the whole text, by the rows
unfoldable pub text_of : List ℕ → ℕ → List ℕ
text_of work n = opening ++ (each transaction_line (below n) ++ (each (row_lines work n) (below n) ++ closing))
