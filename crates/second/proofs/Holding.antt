-- What cells and rows hold of the records so far, and that `closing` and `taken` answer and keep it by document 01's own edges: for a walk that asks before it
-- takes in. The records are labelled in any way; their operations are orderly.
--   begun-holds    nothing has been done
--   closing-right  whether one record more closes a cycle
--   taken-right    one record more that closes none is taken in
--   taken-kept     and the numbers past the square stay
use Prim.Native.Nat.{ℕ, ◌<◌, ◌≤◌}
use native.Mathlib.Omega.{arith}
use mathlib.Core.Path.{◌≡◌, refl, sym, ap, ◌∙◌, subst}
use mathlib.Core.Bool.{false}
use mathlib.Core.List.{List, [], ◌∷◌, ◌++◌}
use lib.Dec.{T}
use lib.ListN.{length}
use Rattle.trace.specs.Paths.{reaches, cyclic}
use Rattle.rows.specs.Bits.{begun}
use Rattle.graph.specs.declared.Labelled.{Labelled}
use Rattle.graph.specs.Edges.{edges}
use Rattle.ancestors.specs.Sources.{closed_rows}
use Rattle.ancestors.specs.Search.{kept_from}
use Rattle.ancestors.proofs.Standing.{Kept}
use Rattle.ancestors.proofs.Right.{RightSources, RowsHold, begun-hold, rows-kept, rows-hold}
use Rattle.ancestors.proofs.Right as Rows
use Rattle.ancestors.proofs.Searching.{kept_under, rows_under, kept-snoc}
use Rattle.second.specs.declared.Cells.{Cells}
use Rattle.second.specs.Cells.{idle}
use Rattle.second.specs.Edges.{sources_of, stored_of}
use Rattle.second.specs.Taken.{closing, taken}
use Rattle.second.proofs.Orderly.{Orderly}
use Rattle.second.proofs.Agree.{events_of}
use Rattle.second.proofs.Sources.{cells_after, right-sources}

-- The cells are those after the records xs, and the first m rows hold them; their transactions are among the first n
pub record Holds (m : ℕ) (xs : List Labelled) (s : Cells) (work : List ℕ) (n : ℕ) : Type 0 where
  pub cells : s ≡ cells_after xs
  pub rows : RowsHold m xs work n

pub begun-holds : (m : ℕ) (work : List ℕ) → m ≤ 512 → 4096 ≤ length work → Holds m [] idle (begun m work) 0
unfolding kept_from
begun-holds m work square long = record { cells = refl; rows = begun-hold m work square long }

module _ (xs : List Labelled) (x : Labelled) (ok : Orderly (events_of (xs ++ (x ∷ [])))) (m : ℕ) (s : Cells) (work : List ℕ) (count : ℕ) (holds : Holds m xs s work count)
    (in-t : x.transaction < m) where
  right : RightSources xs x (sources_of s x)
  right = subst (λ c. RightSources xs x (sources_of c x)) (sym holds.cells) (right-sources xs x ok)

  in-limit : x.transaction < 512
  in-limit = omega (arith, holds.rows.square)

  -- Whether the record closes a cycle
  pub closing-right : closing s work x.transaction x.event ≡ cyclic (edges (xs ++ (x ∷ [])))
  unfolding closing
  closing-right = Rows.closing-right xs x (sources_of s x) right m work count holds.rows in-t

  -- The rows to look at: all that its transaction reaches, besides its own, are among the first n
  abbrev pub Looks : ℕ → Type 0
  Looks n = (d : ℕ) → d < m → n ≤ d → T (reaches (edges xs) x.transaction d) → d ≡ x.transaction

  -- enough are the rows of all transactions so far
  pub looks-all : (n : ℕ) → count ≤ n → Looks n
  looks-all = Rows.looks-all xs x (sources_of s x) right m work count holds.rows in-t

  module _ (n : ℕ) (in-n : n ≤ 512) (looks : Looks n) where
    rows_are : (taken s work n x.transaction x.event).rows ≡ closed_rows work n x.transaction (sources_of s x)
    unfolding taken
    rows_are = rows_under sources_of s work n x in-limit

    -- as many numbers as before, and those past the square stay
    pub taken-kept : Kept work (taken s work n x.transaction x.event).rows
    taken-kept = subst (λ w. Kept work w) (sym rows_are) (rows-kept xs x (sources_of s x) right m work count holds.rows in-t n in-n looks)

    -- A record that closes no cycle is taken in
    pub taken-right : (k : ℕ) → count ≤ k → x.transaction < k → k ≤ m → cyclic (edges (xs ++ (x ∷ []))) ≡ false
        → Holds m (xs ++ (x ∷ [])) (taken s work n x.transaction x.event).cells (taken s work n x.transaction x.event).rows k
    unfolding taken
    taken-right k h in-k most none = record {
      cells = kept_under stored_of s x in-limit ∙ ap (λ c. stored_of c x) holds.cells ∙ sym (kept-snoc stored_of idle xs x);
      rows = subst (λ w. RowsHold m (xs ++ (x ∷ [])) w k) (sym rows_are) (rows-hold xs x (sources_of s x) right m work count holds.rows in-t n in-n looks k h in-k most none);
    }
