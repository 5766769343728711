-- What document 02, L5, demands of the picture, as one statement. Its proof is `right` in proofs/Right.
use Rattle.std.specs.Prelude.{ℕ, ◌<◌, ◌≤◌, ◌≡◌, ◌↔◌, ◌⊎◌, List, ◌++◌, length, get_or, take, T}
use Rattle.record.specs.declared.Event.{Event}
use Rattle.lists.specs.Lists.{each}
use Rattle.trace.specs.Paths.{Edge, has_edge}
use Rattle.graph.specs.Transactions.{labelled, transactions}
use Rattle.graph.specs.Edges.{edges}
use Rattle.looking.specs.Refusals.{events}
use Rattle.picture.specs.Drawn.{written_as, refusal, drawn}
use Rattle.picture.specs.Picture.{opening, closing, transaction_line, edge_line, edge, picture}

-- by first and then second number
abbrev pub Earlier : Edge → Edge → Type 0
Earlier e f = (e.origin < f.origin) ⊎ ((e.origin ≡ f.origin) × (e.goal < f.goal))

-- The picture of a history is the line `digraph {`, a line for each transaction, a line for each edge, and the line `}`
pub record Shows (es : List Event) : Type 0 where
  pub named : List ℕ
  pub drawn-edges : List Edge
  pub text : picture es ≡ opening ++ (each transaction_line named ++ (each edge_line drawn-edges ++ closing))
  -- the transactions are 0, 1, .. by rising number
  pub all_named : length named ≡ transactions es
  pub numbered : (i : ℕ) → i < transactions es → get_or named i 0 ≡ i
  -- what is drawn is an edge, and every edge is drawn
  pub exactly : (a b : ℕ) → T (has_edge (edges (labelled es)) a b) ↔ ((i : ℕ) × (i < length drawn-edges) × (get_or drawn-edges i (edge 0 0) ≡ edge a b))
  -- strictly rising, so each is drawn once
  pub rising : (i j : ℕ) → i < j → j < length drawn-edges → Earlier (get_or drawn-edges i (edge 0 0)) (get_or drawn-edges j (edge 0 0))

-- so many bytes are enough for any: the first line and the last 12, 512 lines of 5, and 512 times 512 lines of 12
abbrev pub room_for_all : ℕ
room_for_all = 3148300

-- What is demanded of drawing
pub record Right (input out work : List ℕ) : Type 0 where
  -- where bytes are written, they are the picture of the recording's history, also where it is a violation
  pub written : (drawn input out work).answer.kind ≡ 0 → take (drawn input out work).answer.first (drawn input out work).out ≡ picture (events input)
  -- which shows every transaction and every edge, each once and in order, and nothing else
  pub shown : Shows (events input)
  -- where there is room for any picture and the recording isn't refused, they are written: number 3 is never given
  pub fits : room_for_all ≤ length out → (refusal input work).number ≡ 0
      → (drawn input out work).answer ≡ written_as (length (picture (events input)))
