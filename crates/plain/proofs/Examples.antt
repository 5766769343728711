-- Document 01's examples of events alone, and some of its slips, as one table: what the plain engine finds of each and the rows that it leaves, by computing.
use Prim.Native.Nat.{ℕ}
use mathlib.Core.Path.{◌≡◌, refl}
use mathlib.Core.List.{List, [], ◌∷◌, map}
use lib.ListN.{replicate}
use Rattle.record.specs.declared.Event.{Event}
use Rattle.record.specs.declared.Op.{Op}
use Rattle.record.specs.declared.Op.TheVariants.{Read, Write, Acquire, Release, Fork, Join, Yield}
use Rattle.record.specs.Record as Record
use Rattle.lists.specs.Lists as Lists
use Rattle.lists.specs.Lists.{keep, below}
use Rattle.lists.proofs.Lists.{Every}
use Rattle.rows.specs.Bits.{has, marked, holds_row, joined_to, joined, cleared, diagonal_to, begun}
use Rattle.graph.specs.Conflict as Conflict
use Rattle.graph.specs.Transactions as Transactions
use Rattle.graph.specs.Transactions.{labelled, transactions}
use Rattle.graph.specs.Edges as Edges
use Rattle.ancestors.specs.Sources as Sources
use Rattle.ancestors.specs.Search as Search
use Rattle.ancestors.specs.Search.{searched}
use Rattle.plain.specs.Plain as Plain
use Rattle.plain.specs.Plain.{sources, next}

abbrev by : ℕ → Op → Event
by t o = record { thread = t; op = o }

-- A row: the events; how many records the shortest prefix with a cycle has, or 0; and who then reaches each of the transactions
record Example : Type 0 where
  events : List Event
  ends : ℕ
  ancestors : List (List ℕ)

abbrev example : List Event → ℕ → List (List ℕ) → Example
example es p rows = record { events = es; ends = p; ancestors = rows }

abbrev table : List Example
table =
    -- P3
    example (by 0 (Fork 1) ∷ by 0 (Read 0 0) ∷ by 1 (Write 0 1) ∷ by 0 (Write 0 1) ∷ [])
    4 ((0 ∷ 1 ∷ []) ∷ (0 ∷ 1 ∷ []) ∷ [])
    -- P4
    ∷ example (by 0 (Fork 1) ∷ by 0 (Read 0 0) ∷ by 1 (Write 0 1) ∷ by 0 Yield ∷ by 0 (Write 0 1) ∷ [])
    0 ((0 ∷ []) ∷ (0 ∷ 1 ∷ []) ∷ (0 ∷ 1 ∷ 2 ∷ []) ∷ [])
    -- P5
    ∷ example (by 0 (Fork 1) ∷ by 0 (Read 0 0) ∷ by 1 (Read 0 0) ∷ by 0 (Read 0 0) ∷ [])
    0 ((0 ∷ []) ∷ (0 ∷ 1 ∷ []) ∷ [])
    -- P6
    ∷ example (by 0 (Fork 1) ∷ by 0 (Acquire 0) ∷ by 0 (Release 0) ∷ by 1 (Acquire 0) ∷ by 1 (Release 0) ∷ by 0 (Acquire 0) ∷ [])
    6 ((0 ∷ 1 ∷ []) ∷ (0 ∷ 1 ∷ []) ∷ [])
    -- P8
    ∷ example (by 0 (Fork 1) ∷ by 1 (Write 0 1) ∷ by 0 (Join 1) ∷ by 0 (Read 0 1) ∷ [])
    0 ((0 ∷ []) ∷ (0 ∷ 1 ∷ []) ∷ (0 ∷ 1 ∷ 2 ∷ []) ∷ [])
    -- P9
    ∷ example (by 0 (Fork 1) ∷ by 0 (Fork 2) ∷ by 0 Yield ∷ by 0 (Write 0 1) ∷ by 1 (Read 0 1) ∷ by 1 (Write 1 1) ∷ by 2 (Read 1 1) ∷ by 2 (Write 2 1) ∷ by 0 (Read 2 1) ∷ [])
    9 ((0 ∷ []) ∷ (0 ∷ 1 ∷ 2 ∷ 3 ∷ []) ∷ (0 ∷ 1 ∷ 2 ∷ 3 ∷ []) ∷ (0 ∷ 1 ∷ 2 ∷ 3 ∷ []) ∷ [])
    -- two readers and a write
    ∷ example (by 0 (Fork 1) ∷ by 0 (Fork 2) ∷ by 0 Yield ∷ by 0 (Read 0 0) ∷ by 1 (Read 0 0) ∷ by 2 (Write 0 1) ∷ by 2 (Write 1 1) ∷ by 0 (Read 1 1) ∷ [])
    8 ((0 ∷ []) ∷ (0 ∷ 1 ∷ 2 ∷ 3 ∷ []) ∷ (0 ∷ 2 ∷ []) ∷ (0 ∷ 1 ∷ 2 ∷ 3 ∷ []) ∷ [])
    -- an edge into the middle of a path
    ∷ example (by 0 (Fork 1) ∷ by 0 (Fork 2) ∷ by 0 Yield ∷ by 1 (Write 0 1) ∷ by 2 (Read 0 1) ∷ by 0 (Write 1 1) ∷ by 1 (Read 1 1) ∷ by 2 (Write 2 1) ∷ by 0 (Read 2 1) ∷ [])
    9 ((0 ∷ []) ∷ (0 ∷ 1 ∷ 2 ∷ 3 ∷ []) ∷ (0 ∷ 1 ∷ 2 ∷ 3 ∷ []) ∷ (0 ∷ 1 ∷ 2 ∷ 3 ∷ []) ∷ [])
    ∷ []

-- the rows for four transactions, each with its own bit
abbrev area : List ℕ
area = begun 4 (replicate 32 0)

-- the engine finds what a row says
abbrev Right : Example → Type 0
Right x =
    let r = searched sources next [] area (labelled x.events) in
    (r.prefix ≡ x.ends) × (map (λ d. keep (has r.rows d) (below 4)) (below (transactions x.events)) ≡ x.ancestors)

pub examples : Every Right table
unfolding Record.opened Lists.opened has marked holds_row joined_to joined cleared diagonal_to begun Conflict.opened Transactions.opened Edges.opened Sources.opened Search.opened Plain.opened
examples = ((refl, refl), ((refl, refl), ((refl, refl), ((refl, refl), ((refl, refl), ((refl, refl), ((refl, refl), ((refl, refl), tt))))))))
