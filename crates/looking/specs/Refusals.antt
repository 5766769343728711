-- When a recording is refused, with which number and at which record (document 01, "Numbers of refusal").
use Rattle.std.specs.Prelude.{ℕ, zero, suc, ◌%◌, not, List, [], ◌∷◌, ◌++◌, map, length, leb, eqb}
use Rattle.record.specs.declared.Event.{Event}
use Rattle.record.specs.Faults.{Refusal, Check, check, first_fault}
use Rattle.record.specs.Record as Record
use Rattle.record.specs.Record.{record_size, records_of}
use Rattle.looking.specs.declared.seeing.Run.{Run}
use Rattle.replay.specs.Machine as Machine
use Rattle.graph.specs.Transactions.{none_yet, full, tallied, work_size}

-- 1 and 2, tried in that order: whatever reads a recording tries them first
unfoldable pub input_checks : List ℕ → List Check
input_checks input = check 1 0 (eqb (length input % record_size) 0) ∷ check 2 0 (leb (length input) 8192) ∷ []

-- 1 to 4, tried in that order: 3 where the output has less than some room, 4 where the work area is too small
abbrev pub room_checks : List ℕ → ℕ → List ℕ → List ℕ → List Check
room_checks input room out work = input_checks input ++ (check 3 0 (leb room (length out)) ∷ check 4 0 (leb work_size (length work)) ∷ [])

-- What the records so far have led to: the machine's state, and the transactions begun
unfoldable pub start : Run
start = record { state = Machine.fresh; tally = none_yet }

abbrev pub onwards : Run → Event → Run
onwards r e = record { state = Machine.next r.state e; tally = tallied r.tally e }

-- the checks of a record, by number: its bytes (5 to 7), its event (8 to 12), its transaction (13)
unfoldable pub record_checks : Run → List ℕ → List Check
record_checks r bs =
    Record.checks bs
    ++ Machine.checks r.state (Record.event bs)
    ++ (check 13 0 (not (full r.tally (Record.event bs))) ∷ [])

-- A refusal of number 0 is none
abbrev pub no_refusal : Refusal
no_refusal = record { number = 0; place = 0 }

-- the first record with any fault decides, with its lowest number. k is the number of the first record
unfoldable pub first_refusal : Run → ℕ → List (List ℕ) → Refusal
first_refusal r k [] = no_refusal
first_refusal r k (bs ∷ rest) =
    elim (first_fault (record_checks r bs)) [ zero ↦ first_refusal (onwards r (Record.event bs)) (suc k) rest | suc n ↦ record { number = suc n; place = k } ]

-- Sizes, then records: the first of these checks that isn't passed, at no record; else the first record with a fault
unfoldable pub refused_by : List Check → List ℕ → Refusal
refused_by sizes input = elim (first_fault sizes) [ zero ↦ first_refusal start 0 (records_of input) | suc n ↦ record { number = suc n; place = 0 } ]

-- the events of a recording that is not refused
unfoldable pub events : List ℕ → List Event
events input = map Record.event (records_of input)

-- Everything above, opened at once, for a proof by computation: `unfolding opened`
unfoldable pub opened : Unit {0}
unfolding input_checks start record_checks first_refusal refused_by events
opened = tt
