-- Document 01's examples of events alone, as one table, proved of the definitions by computing them: what the graph makes of P3 to P9, of
-- 01's first slip, where an earlier reader's edge to the next write would be lost, and of a join that mustn't be swapped in front of its fork.
use Prim.Native.Nat.{ℕ}
use mathlib.Core.Path.{◌≡◌, refl}
use mathlib.Core.List.{List, [], ◌∷◌, map}
use Rattle.record.specs.declared.Event.{Event}
use Rattle.record.specs.declared.Op.{Op}
use Rattle.record.specs.declared.Op.TheVariants.{Read, Write, Acquire, Release, Prewait, Postwait, Notify, Fork, Join, Yield}
use Rattle.record.specs.Record as Record
use Rattle.lists.specs.Lists as Lists
use Rattle.trace.specs.Paths as Paths
use Rattle.trace.specs.Order as Order
use Rattle.graph.specs.Conflict as Conflict
use Rattle.graph.specs.Transactions as Transactions
use Rattle.graph.specs.Edges as Edges
use Rattle.graph.specs.Serial as Serial
use Rattle.graph.specs.Violation as Violation
use Rattle.graph.specs.Named as Named
use Rattle.graph.specs.Transactions.{labelled}
use Rattle.graph.specs.Violation.{shortest}
use Rattle.graph.specs.Named.{named}

abbrev by : ℕ → Op → Event
by t o = record { thread = t; op = o }

-- A row: the events, the transaction of each, the length of the shortest prefix with a cycle (0 where there is none), and the transactions
-- that are named: all in serial order, or the cycle
record Example : Type 0 where
  events : List Event
  transactions : List ℕ
  ends : ℕ
  names : List ℕ

abbrev example : List Event → List ℕ → ℕ → List ℕ → Example
example es ts p ns = record { events = es; transactions = ts; ends = p; names = ns }

abbrev table : List Example
table =
    -- P3
    example (by 0 (Fork 1) ∷ by 0 (Read 0 0) ∷ by 1 (Write 0 1) ∷ by 0 (Write 0 1) ∷ [])
    (0 ∷ 0 ∷ 1 ∷ 0 ∷ []) 4 (0 ∷ 1 ∷ [])
    -- P4
    ∷ example (by 0 (Fork 1) ∷ by 0 (Read 0 0) ∷ by 1 (Write 0 1) ∷ by 0 Yield ∷ by 0 (Write 0 1) ∷ [])
    (0 ∷ 0 ∷ 1 ∷ 0 ∷ 2 ∷ []) 0 (0 ∷ 1 ∷ 2 ∷ [])
    -- P5
    ∷ example (by 0 (Fork 1) ∷ by 0 (Read 0 0) ∷ by 1 (Read 0 0) ∷ by 0 (Read 0 0) ∷ [])
    (0 ∷ 0 ∷ 1 ∷ 0 ∷ []) 0 (0 ∷ 1 ∷ [])
    -- P6
    ∷ example (by 0 (Fork 1) ∷ by 0 (Acquire 0) ∷ by 0 (Release 0) ∷ by 1 (Acquire 0) ∷ by 1 (Release 0) ∷ by 0 (Acquire 0) ∷ [])
    (0 ∷ 0 ∷ 0 ∷ 1 ∷ 1 ∷ 0 ∷ []) 6 (0 ∷ 1 ∷ [])
    -- P7
    ∷ example
    (by 0 (Fork 1) ∷ by 0 (Acquire 0) ∷ by 0 (Prewait 0) ∷ by 1 (Acquire 0) ∷ by 1 (Notify 0) ∷ by 1 (Release 0) ∷ by 0 (Postwait 0) ∷ by 0 (Release 0) ∷ [])
    (0 ∷ 0 ∷ 0 ∷ 1 ∷ 1 ∷ 1 ∷ 2 ∷ 2 ∷ []) 0 (0 ∷ 1 ∷ 2 ∷ [])
    -- P8
    ∷ example (by 0 (Fork 1) ∷ by 1 (Write 0 1) ∷ by 0 (Join 1) ∷ by 0 (Read 0 1) ∷ [])
    (0 ∷ 1 ∷ 2 ∷ 2 ∷ []) 0 (0 ∷ 1 ∷ 2 ∷ [])
    -- P9
    ∷ example
    (by 0 (Fork 1) ∷ by 0 (Fork 2) ∷ by 0 Yield ∷ by 0 (Write 0 1) ∷ by 1 (Read 0 1) ∷ by 1 (Write 1 1) ∷ by 2 (Read 1 1) ∷ by 2 (Write 2 1) ∷ by 0 (Read 2 1) ∷ [])
    (0 ∷ 0 ∷ 0 ∷ 1 ∷ 2 ∷ 2 ∷ 3 ∷ 3 ∷ 1 ∷ []) 9 (1 ∷ 2 ∷ 3 ∷ [])
    -- two readers and a write
    ∷ example
    (by 0 (Fork 1) ∷ by 0 (Fork 2) ∷ by 0 Yield ∷ by 0 (Read 0 0) ∷ by 1 (Read 0 0) ∷ by 2 (Write 0 1) ∷ by 2 (Write 1 1) ∷ by 0 (Read 1 1) ∷ [])
    (0 ∷ 0 ∷ 0 ∷ 1 ∷ 2 ∷ 3 ∷ 3 ∷ 1 ∷ []) 8 (1 ∷ 3 ∷ [])
    -- a thread that did nothing, forked by one thread and joined by another
    ∷ example (by 0 (Fork 1) ∷ by 1 (Fork 2) ∷ by 0 (Join 2) ∷ [])
    (0 ∷ 1 ∷ 2 ∷ []) 0 (0 ∷ 1 ∷ 2 ∷ [])
    ∷ []

-- the definitions give what a row says
abbrev Right : Example → Type 0
Right x = (map (λ y. y.transaction) (labelled x.events) ≡ x.transactions) × (shortest x.events ≡ x.ends) × (named x.events x.ends ≡ x.names)

abbrev All : (Example → Type 0) → List Example → Type 0
All P [] = Unit {0}
All P (x ∷ xs) = P x × All P xs

pub examples : All Right table
unfolding Record.opened Lists.opened Paths.opened Order.opened Conflict.opened Transactions.opened Edges.opened Serial.opened Violation.opened Named.opened
examples =
    ((refl, refl, refl), ((refl, refl, refl), ((refl, refl, refl), ((refl, refl, refl), ((refl, refl, refl), ((refl, refl, refl), ((refl, refl, refl), ((refl, refl, refl), ((refl, refl, refl), tt)))))))))
