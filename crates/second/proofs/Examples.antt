-- Small histories in which one cell alone leads from a transaction to another, by computing: who forgets that cell finds no path.
use mathlib.Core.Path.{◌≡◌, refl}
use mathlib.Core.Bool.{true}
use mathlib.Core.List.{List, [], ◌∷◌}
use Prim.Native.Nat.{ℕ}
use lib.Dec.{T}
use Rattle.record.specs.declared.Event.{Event}
use Rattle.record.specs.declared.Op.{Op}
use Rattle.record.specs.declared.Op.TheVariants.{Read, Write, Acquire, Release, Notify, Fork, Join, Yield}
use Rattle.record.specs.Faults as Faults
use Rattle.lists.specs.Lists as Lists
use Rattle.trace.specs.Paths as Paths
use Rattle.trace.specs.Paths.{reaches}
use Rattle.replay.specs.Machine as Machine
use Rattle.replay.specs.Machine.{fresh, possible}
use Rattle.graph.specs.Conflict as Conflict
use Rattle.graph.specs.Transactions as Transactions
use Rattle.graph.specs.Transactions.{labelled}
use Rattle.second.specs.Cells as Cells
use Rattle.second.specs.Edges as Edges
use Rattle.second.specs.Edges.{second_edges}

abbrev event : ℕ → Op → Event
event t o = record { thread = t; op = o }

-- the second engine has a path from a to b
abbrev Leads : List Event → ℕ → ℕ → Type 0
Leads es a b = reaches (second_edges (labelled es)) a b ≡ true

-- The lock's: a thread takes a lock that another has released
abbrev locking : List Event
locking = event 0 (Fork 1) ∷ event 0 Yield ∷ event 0 (Acquire 5) ∷ event 0 (Release 5) ∷ event 1 (Acquire 5) ∷ []

-- The thread's: one that does nothing is forked by one thread and joined by another
abbrev silent : List Event
silent = event 0 (Fork 2) ∷ event 0 Yield ∷ event 0 (Fork 1) ∷ event 2 (Join 1) ∷ []

-- The last writer's: a thread reads what another has written
abbrev writing : List Event
writing = event 0 (Fork 1) ∷ event 0 Yield ∷ event 0 (Write 0 1) ∷ event 1 (Read 0 1) ∷ []

-- The earlier of two last readers': two threads read a variable, one after the other, and a third writes it
abbrev reading : List Event
reading =
    event 0 (Fork 1) ∷ event 0 (Fork 2) ∷ event 0 Yield ∷ event 1 (Read 0 0) ∷ event 0 (Read 0 0) ∷ event 2 (Write 0 1) ∷ []

-- These are possible histories
pub possible-ones : T (possible fresh locking) × T (possible fresh silent) × T (possible fresh writing) × T (possible fresh reading)
unfolding Faults.opened Machine.opened
possible-ones = (tt, tt, tt, tt)

pub by-lock : Leads locking 1 2
unfolding Lists.opened Paths.opened Conflict.opened Transactions.opened Cells.opened Edges.opened
by-lock = refl

pub by-thread : Leads silent 1 2
unfolding Lists.opened Paths.opened Conflict.opened Transactions.opened Cells.opened Edges.opened
by-thread = refl

pub by-writer : Leads writing 1 2
unfolding Lists.opened Paths.opened Conflict.opened Transactions.opened Cells.opened Edges.opened
by-writer = refl

pub by-reader : Leads reading 1 3
unfolding Lists.opened Paths.opened Conflict.opened Transactions.opened Cells.opened Edges.opened
by-reader = refl

-- The lock's again: two threads notify one that neither holds. In a possible history acquire and release stand around a notify and lead on without it
abbrev notifying : List Event
notifying = event 0 (Fork 1) ∷ event 0 Yield ∷ event 0 (Notify 5) ∷ event 1 (Notify 5) ∷ []

pub by-notify : Leads notifying 1 2
unfolding Lists.opened Paths.opened Conflict.opened Transactions.opened Cells.opened Edges.opened
by-notify = refl
