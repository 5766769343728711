-- What the code of the search cites: the records, one after the other.
use Prim.Native.Nat.{ℕ, suc, ◌+◌, ◌<◌, ◌≤◌}
use native.Mathlib.Numerals.{add-one}
use mathlib.Core.Path.{◌≡◌, refl, sym, ap, ap₂, ◌∙◌}
use mathlib.Core.Bool.{true, false}
use mathlib.Core.List.{List, ◌∷◌}
use lib.ListN.{length, get_or, drop, drop_of_length-le}
use lib.Seq.{drop-cons}
use Rattle.graph.specs.declared.Labelled.{Labelled}
use Rattle.ancestors.specs.Sources.{looked, begun_with}
use Rattle.ancestors.specs.Search.{Searched, closes_cycle, rows_with, kept_with, searched_from}
use Rattle.ancestors.proofs.Searching.{searched-none, searched-hit, searched-more}
use Rattle.second.specs.declared.Cells.{Cells}
use Rattle.second.specs.Cells.{idle}
use Rattle.second.specs.Edges.{sources_of, stored_of}
use Rattle.second.specs.Taken.{taken_as, taken, searched_as, second_searched}

module _ (records : List Labelled) (start : List ℕ) where
  -- what the search gives of what is left, where i records are behind it and n transactions have begun
  abbrev left : ℕ → ℕ → Cells → List ℕ → Searched
  left i n s work = searched_from sources_of stored_of i n s work (drop i records)

  -- it is what all give
  abbrev pub Seeking : ℕ → ℕ → Cells → List ℕ → Type 0
  Seeking i n s work = second_searched start records ≡ searched_from sources_of stored_of i n s work (drop i records)

  pub seeking-none : Seeking 0 0 idle start
  seeking-none = refl

  module _ (i n : ℕ) (s : Cells) (work : List ℕ) (at : Seeking i n s work) where
    -- none is left
    pub seeking-all : length records ≤ i → searched_as 0 work ≡ second_searched start records
    seeking-all h = sym (at ∙ ap (searched_from sources_of stored_of i n s work) (drop_of_length-le records {i = i} h) ∙ searched-none sources_of stored_of i n s work)

    -- one more
    module _ (d : Labelled) (h : i < length records) (cells : Cells) (rows : List ℕ) (k : ℕ) (is-k : k ≡ looked (get_or records i d).transaction n)
        (is : taken_as cells rows ≡ taken s work k (get_or records i d).transaction (get_or records i d).event) where
      abbrev x : Labelled
      x = get_or records i d

      one-left : left i n s work ≡ searched_from sources_of stored_of i n s work (x ∷ drop (suc i) records)
      one-left = ap (searched_from sources_of stored_of i n s work) (drop-cons records i d h)

      rows_are : rows ≡ rows_with sources_of s work (looked x.transaction n) x
      unfolding taken
      rows_are = ap (λ t. t.rows) is ∙ ap (λ l. rows_with sources_of s work l x) is-k

      cells_are : cells ≡ kept_with stored_of s x
      unfolding taken
      cells_are = ap (λ t. t.cells) is

      -- it closes a cycle
      pub seeking-hit : true ≡ closes_cycle sources_of s work (get_or records i d) → searched_as (suc i) rows ≡ second_searched start records
      seeking-hit c = ap (searched_as (suc i)) rows_are ∙ sym (at ∙ one-left ∙ searched-hit sources_of stored_of i n s work x (drop (suc i) records) (sym c))

      -- it closes none
      pub seeking-more : false ≡ closes_cycle sources_of s work (get_or records i d) → (m : ℕ) → m ≡ begun_with (get_or records i d).transaction n → Seeking (i + 1) m cells rows
      seeking-more c m is_m =
          at ∙ one-left ∙ searched-more sources_of stored_of i n s work x (drop (suc i) records) (sym c)
          ∙ ap₂ (left (suc i) (begun_with x.transaction n)) (sym cells_are) (sym rows_are)
          ∙ ap₂ (λ j l. left j l cells rows) (sym (add-one i)) (sym is_m)
