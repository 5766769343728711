-- What crates promise one another about the second engine: whether an operation closes a cycle, and the cells and rows with it taken in.
-- A reader of the public promises need not read this.
use Rattle.std.specs.Prelude.{ℕ, ◌+◌, ◌*◌, Bool, List, map, get_or}
use Rattle.record.specs.declared.Event.{Event}
use Rattle.lists.specs.Lists.{some_of, below}
use Rattle.rows.specs.Bits.{has}
use Rattle.graph.specs.declared.Labelled.{Labelled}
use Rattle.ancestors.specs.Search.{Searched, rows_with, kept_with, searched}
use Rattle.second.specs.declared.Cells.{Cells}
use Rattle.second.specs.Cells.{idle, sources}
use Rattle.second.specs.Edges.{sources_of, stored_of}

-- Whether an operation of transaction a closes a cycle: a reaches one of its sources, by the rows
unfoldable pub closing : Cells → List ℕ → ℕ → Event → Bool
closing s work a e = some_of (λ b. has work b a) (sources s a e)

-- Cells and rows at the end
pub record Taken : Type 0 where
  pub cells : Cells
  pub rows : List ℕ

abbrev pub taken_as : Cells → List ℕ → Taken
taken_as s work = record { cells = s; rows = work }

-- An operation of transaction a taken in, with n rows to look at
unfoldable pub taken : Cells → List ℕ → ℕ → ℕ → Event → Taken
taken s work n a e =
    let x : Labelled = record { transaction = a; event = e } in
    taken_as (kept_with stored_of s x) (rows_with sources_of s work n x)

-- What its search answers and leaves, and the search over labelled operations, from rows that are lent
abbrev pub searched_as : ℕ → List ℕ → Searched
searched_as prefix rows = record { prefix = prefix; rows = rows }

abbrev pub second_searched : List ℕ → List Labelled → Searched
second_searched work xs = searched sources_of stored_of idle work xs

-- what the last readers of variable x hold, in the first n threads
abbrev pub readers_in : List ℕ → ℕ → ℕ → List ℕ
readers_in readers x n = map (λ u. get_or readers (x * 16 + u) 0) (below n)
