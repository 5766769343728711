-- What the private functions of the walk promise one another: what is kept of the recording built so far, and what putting a record after it changes.
-- A reader of the public promise need not read this.
use Rattle.std.specs.Prelude.{ℕ, pred, ◌≡◌, Bool, true, false, cond, ◌||◌, List, [], get_or, drop, eqb, ltb, Result, Ok, Err}
use Rattle.record.specs.declared.Event.{Event}
use Rattle.record.specs.declared.Fault.{Fault}
use Rattle.record.specs.declared.Refusal.{Refusal as Given}
use Rattle.record.specs.Faults.{Refusal}
use Rattle.record.specs.Answers.{number, refusal_of}
use Rattle.graph.specs.Conflict.{joins}
use Rattle.graph.specs.declared.Tally.{Tally}
use Rattle.graph.specs.Transactions.{none_yet, belongs, full, tallied}
use Rattle.looking.specs.Refusals.{no_refusal}
use Rattle.second.specs.declared.Cells.{Cells}
use Rattle.second.specs.Cells.{idle}
use Rattle.second.specs.Taken.{closing, Taken, taken}
use Rattle.proposal.specs.declared.walking.Builder.{Builder}
use Rattle.proposal.specs.Walk.{yield_of, finished, stop}
use Rattle.proposal.specs.Weaving.{woven_all}

-- The second engine's cells and rows, and the transactions begun
pub record Kept : Type 0 where
  pub cells : Cells
  pub rows : List ℕ
  pub tally : Tally

abbrev pub kept_of : Builder → Kept
kept_of b = record { cells = b.cells; rows = b.work.now; tally = b.tally }

-- nothing is built
abbrev pub nothing : List ℕ → Kept
nothing rows = record { cells = idle; rows = rows; tally = none_yet }

-- whether an event would be a violation: it begins no transaction and closes a cycle
unfoldable pub needing : Cells → List ℕ → List ℕ → Event → Bool
needing cells rows current e =
    let own : ℕ = get_or current e.thread 0 in
    cond (joins e.op || eqb own 0) false (closing cells rows (pred own) e)

-- 13 where an event would begin a 513th transaction, or else 0
unfoldable pub full_as : Tally → Event → ℕ
full_as s e = cond (full s e) 13 0

-- an event put after the recording; not where it is 13
unfoldable pub put_in : Kept → Event → Kept
put_in k e =
    let s : Tally = tallied k.tally e in
    let t : Taken = taken k.cells k.rows s.count (belongs k.tally e) e in
    cond (full k.tally e) k (record { cells = t.cells; rows = t.rows; tally = s })

-- A step of the walk: whether a yield is put before the event, or the number of the refusal; and what is then kept
pub record Stepping : Type 0 where
  pub answer : Result Bool ℕ
  pub kept : Kept

abbrev pub step_as : Result Bool ℕ → Kept → Stepping
step_as answer k = record { answer = answer; kept = k }

-- a mark that is given, or the number of the fault
abbrev pub marked_as : Result Bool Fault → Result Bool ℕ
marked_as (Ok mark) = Ok mark
marked_as (Err f) = Err (number f)

-- the event itself, after the yield where there is one
abbrev pub last_in : Bool → Kept → Event → Stepping
last_in mark k e = step_as (cond (full k.tally e) (Err 13) (Ok mark)) (put_in k e)

-- A step, with so many records built: room for the event, with a yield before it where it needs one
unfoldable pub readied : ℕ → Kept → Event → Stepping
readied built k e =
    cond (needing k.cells k.rows k.tally.current e)
    (cond (ltb 1022 built) (step_as (Err 15) k) (step_as (Ok true) (put_in k (yield_of e.thread))))
    (cond (ltb 1023 built) (step_as (Err 15) k) (step_as (Ok false) k))

-- and then the event
unfoldable pub stepping : ℕ → Kept → Event → Stepping
stepping built k e =
    cond (needing k.cells k.rows k.tally.current e)
    (cond (ltb 1022 built) (step_as (Err 15) k) (last_in true (put_in k (yield_of e.thread)) e))
    (cond (ltb 1023 built) (step_as (Err 15) k) (last_in false k e))

-- where the walk stops, in numbers
abbrev pub stopped_as : Result Unit Given → Refusal
stopped_as (Ok u) = no_refusal
stopped_as (Err r) = refusal_of r

-- What the walk over all events answers and leaves: where it stops; or the marks, from which the finished recording is woven
pub record Walked (es : List Event) (marks : List Bool) (work work' : List ℕ) (r : Refusal) : Type 0 where
  pub stopped : r ≡ stop [] 0 es
  pub marked : r.number ≡ 0 → woven_all es marks ≡ finished es
  pub rest : drop 4096 work' ≡ drop 4096 work
