-- What crates promise one another about an engine's search for the shortest prefix with a cycle, over any engine.
-- A reader of the public promises need not read this.
use Rattle.std.specs.Prelude.{ℕ, suc, Bool, true, false, cond, ◌&&◌, List, [], ◌∷◌, ltb, Option, None, Some}
use Rattle.graph.specs.declared.Labelled.{Labelled}
use Rattle.graph.specs.Transactions.{transaction_limit}
use Rattle.ancestors.specs.Sources.{meeting, closed_rows, looked, begun_with}

-- How many records a prefix has, by the record that it ends in; 0 where there is none
abbrev pub prefix_of : Option ℕ → ℕ
prefix_of None = 0
prefix_of (Some k) = suc k

-- What a search finds and leaves: how many records the shortest prefix with a cycle has, or 0; and the rows
pub record Searched : Type 0 where
  pub prefix : ℕ
  pub rows : List ℕ

-- An engine keeps something of the records so far. By that it finds the sources of a record. There are rows for 512 transactions: a record of any
-- other closes no cycle and changes nothing
module _ {S : Type 0} (sources : S → Labelled → List ℕ) where
  -- whether one record more closes a cycle
  unfoldable pub closes_cycle : S → List ℕ → Labelled → Bool
  closes_cycle s work x = ltb x.transaction transaction_limit && meeting work x.transaction (sources s x)

  -- and the rows with it, where there are n to look at
  unfoldable pub rows_with : S → List ℕ → ℕ → Labelled → List ℕ
  rows_with s work n x = cond (ltb x.transaction transaction_limit) (closed_rows work n x.transaction (sources s x)) work

module _ {S : Type 0} (next : S → Labelled → S) where
  -- what it keeps with it
  unfoldable pub kept_with : S → Labelled → S
  kept_with s x = cond (ltb x.transaction transaction_limit) (next s x) s

  -- and after records that are all of one of 512
  unfoldable pub kept_from : S → List Labelled → S
  kept_from s [] = s
  kept_from s (x ∷ xs) = kept_from (next s x) xs

module _ {S : Type 0} (sources : S → Labelled → List ℕ) (next : S → Labelled → S) where
  -- Record by record, up to the first that closes a cycle, where k records are behind it and n transactions have begun
  unfoldable pub searched_from : ℕ → ℕ → S → List ℕ → List Labelled → Searched
  searched_from k n s work [] = record { prefix = 0; rows = work }
  searched_from k n s work (x ∷ xs) =
      let after : List ℕ = rows_with sources s work (looked x.transaction n) x in
      elim (closes_cycle sources s work x) [
        | true ↦ record { prefix = suc k; rows = after }
        | false ↦ searched_from (suc k) (begun_with x.transaction n) (kept_with next s x) after xs
      ]

  -- all records, from what it keeps at the beginning
  abbrev pub searched : S → List ℕ → List Labelled → Searched
  searched s work xs = searched_from 0 0 s work xs

-- Everything above, opened at once, for a proof by computation: `unfolding opened`
unfoldable pub opened : Unit {0}
unfolding closes_cycle rows_with kept_with kept_from searched_from
opened = tt
