-- Proposed yields, as one table, proved of the definitions by computing them: P3, P6, P7, P8 and P9 of document 01 and others; and the whole promise for P3.
use Prim.Native.Nat.{ℕ}
use mathlib.Core.Path.{◌≡◌, refl}
use mathlib.Core.List.{List, [], ◌∷◌, ◌++◌}
use lib.ListN.{replicate}
use Rattle.record.specs.declared.Event.{Event}
use Rattle.record.specs.declared.Op.{Op}
use Rattle.record.specs.declared.Op.TheVariants.{Read, Write, Acquire, Release, Fork, Join, Yield}
use Rattle.record.specs.Faults as Faults
use Rattle.record.specs.Record as Record
use Rattle.replay.specs.Machine as Machine
use Rattle.lists.specs.Lists as Lists
use Rattle.trace.specs.Paths as Paths
use Rattle.graph.specs.Conflict as Conflict
use Rattle.graph.specs.Transactions as Transactions
use Rattle.graph.specs.Edges as Edges
use Rattle.looking.specs.Refusals as Refusals
use Rattle.proposal.specs.declared.Added.{Added}
use Rattle.proposal.specs.Walk as Walk
use Rattle.proposal.specs.Walk.{events_in, finished}
use Rattle.proposal.specs.Proposed as Whole
use Rattle.proposal.specs.Proposed.{bytes_of, lines_from, proposed}

abbrev by : ℕ → Op → Event
by t o = record { thread = t; op = o }

-- A row: the input's events, the finished recording, and the lines: thread and input record of each yield
record Example : Type 0 where
  events : List Event
  recording : List Event
  lines : List Added

abbrev line : ℕ → ℕ → Added
line t k = record { thread = t; before = k }

abbrev example : List Event → List Event → List Added → Example
example es rs l = record { events = es; recording = rs; lines = l }

abbrev p3 : List Event
p3 = by 0 (Fork 1) ∷ by 0 (Read 0 0) ∷ by 1 (Write 0 1) ∷ by 0 (Write 0 1) ∷ []

abbrev p4 : List Event
p4 = by 0 (Fork 1) ∷ by 0 (Read 0 0) ∷ by 1 (Write 0 1) ∷ by 0 Yield ∷ by 0 (Write 0 1) ∷ []

abbrev p8 : List Event
p8 = by 0 (Fork 1) ∷ by 1 (Write 0 1) ∷ by 0 (Join 1) ∷ by 0 (Read 0 1) ∷ []

abbrev table : List Example
table =
    -- P1, P3 becomes P4, and P4 needs none
    example [] [] []
    ∷ example p3 p4 (line 0 3 ∷ [])
    ∷ example p4 p4 []
    -- P6: before the second acquire
    ∷ example
    (by 0 (Fork 1) ∷ by 0 (Acquire 0) ∷ by 0 (Release 0) ∷ by 1 (Acquire 0) ∷ by 1 (Release 0) ∷ by 0 (Acquire 0) ∷ [])
    (by 0 (Fork 1) ∷ by 0 (Acquire 0) ∷ by 0 (Release 0) ∷ by 1 (Acquire 0) ∷ by 1 (Release 0) ∷ by 0 Yield ∷ by 0 (Acquire 0) ∷ [])
    (line 0 5 ∷ [])
    -- P8 needs none
    ∷ example p8 p8 []
    -- P9: a cycle of three
    ∷ example
    (by 0 (Fork 1) ∷ by 0 (Fork 2) ∷ by 0 Yield ∷ by 0 (Write 0 1) ∷ by 1 (Read 0 1) ∷ by 1 (Write 1 1) ∷ by 2 (Read 1 1) ∷ by 2 (Write 2 1) ∷ by 0 (Read 2 1) ∷ [])
    (by 0 (Fork 1) ∷ by 0 (Fork 2) ∷ by 0 Yield ∷ by 0 (Write 0 1) ∷ by 1 (Read 0 1) ∷ by 1 (Write 1 1) ∷ by 2 (Read 1 1) ∷ by 2 (Write 2 1) ∷ by 0 Yield ∷ by 0 (Read 2 1) ∷ [])
    (line 0 8 ∷ [])
    -- two yields, of two threads: the second is needed in the recording that has the first
    ∷ example
    (by 0 (Fork 1) ∷ by 0 (Write 0 1) ∷ by 1 (Write 0 2) ∷ by 0 (Write 0 3) ∷ by 1 (Write 0 4) ∷ by 1 (Write 0 5) ∷ [])
    (by 0 (Fork 1) ∷ by 0 (Write 0 1) ∷ by 1 (Write 0 2) ∷ by 0 Yield ∷ by 0 (Write 0 3) ∷ by 1 Yield ∷ by 1 (Write 0 4) ∷ by 1 (Write 0 5) ∷ [])
    (line 0 3 ∷ line 1 4 ∷ [])
    ∷ []

-- the definitions give what a row says
abbrev Right : Example → Type 0
Right x = (events_in (finished x.events) ≡ x.recording) × (lines_from 0 (finished x.events) ≡ x.lines)

abbrev All : (Example → Type 0) → List Example → Type 0
All P [] = Unit {0}
All P (x ∷ xs) = P x × All P xs

pub examples : All Right table
unfolding Record.opened Lists.opened Paths.opened Conflict.opened Transactions.opened Edges.opened Walk.opened Whole.opened
examples = ((refl, refl), ((refl, refl), ((refl, refl), ((refl, refl), ((refl, refl), ((refl, refl), ((refl, refl), tt)))))))

-- P3's bytes proposed: P4's are written over an output of 8,192 bytes, and one yield was added; the work area's first 4,096 numbers are 0
abbrev rest : ℕ → List ℕ
rest n = replicate n 0xEE

pub whole : proposed (bytes_of p3) (rest 8192) (replicate 4097 0x77)
    ≡ record { answer = record { kind = 0; first = 40; second = 1 }; out = bytes_of p4 ++ rest 8152; work = replicate 4096 0 ++ (0x77 ∷ []) }
unfolding Faults.opened Record.opened Machine.opened Lists.opened Paths.opened Conflict.opened Transactions.opened Edges.opened Refusals.opened Walk.opened Whole.opened
whole = refl
