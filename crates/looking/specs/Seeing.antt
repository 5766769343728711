-- What the private functions promise one another about looking at one record, and at all.
-- A reader of the public promises need not read this.
use Rattle.std.specs.Prelude.{ℕ, zero, suc, ◌≡◌, ◌≢◌, List, Result, Ok, Err}
use Rattle.record.specs.Faults.{first_fault}
use Rattle.record.specs.declared.Fault.{Fault}
use Rattle.record.specs.Answers.{number}
use Rattle.record.specs.Record.{event}
use Rattle.graph.specs.declared.Labelled.{Labelled}
use Rattle.graph.specs.Transactions.{belongs}
use Rattle.looking.specs.declared.seeing.Run.{Run}
use Rattle.looking.specs.Refusals.{onwards, record_checks}

-- a record seen: with its transaction, or its lowest number
unfoldable pub seen : Run → List ℕ → Result Labelled ℕ
seen r bs = elim (first_fault (record_checks r bs)) [ zero ↦ Ok (record { transaction = belongs r.tally (event bs); event = event bs }) | suc n ↦ Err (suc n) ]

-- the number of a fault that is seen
abbrev pub seen_as : Result Labelled Fault → Result Labelled ℕ
seen_as (Ok x) = Ok x
seen_as (Err f) = Err (number f)

-- What looking at a record answers and leaves: where it has no fault, it is taken in; where it has one, its transaction isn't counted
pub record Saw (before : Run) (bs : List ℕ) (after : Run) (r : Result Labelled ℕ) : Type 0 where
  pub answer : r ≡ seen before bs
  pub onward : first_fault (record_checks before bs) ≡ 0 → after ≡ onwards before (event bs)
  pub uncounted : first_fault (record_checks before bs) ≢ 0 → after.tally ≡ before.tally
