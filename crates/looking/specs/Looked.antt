-- What looking through a recording promises those who come after: its refusal, and what an array then holds of the events before it.
-- A reader of the public promises need not read this.
use Rattle.std.specs.Prelude.{ℕ, zero, suc, List, take}
use Rattle.record.specs.declared.Event.{Event}
use Rattle.record.specs.Faults.{Refusal}
use Rattle.lists.specs.Lists.{over}
use Rattle.graph.specs.Transactions as Transactions
use Rattle.graph.specs.declared.Labelled.{Labelled}
use Rattle.graph.specs.Transactions.{labelled}
use Rattle.looking.specs.Refusals.{input_checks, refused_by, events}

-- 1 and 2, then the first record with a fault
abbrev pub input_refusal : List ℕ → Refusal
input_refusal input = refused_by (input_checks input) input

-- the events before the fault: all where there is none, and none with 1 or 2
unfoldable pub sound_events : List ℕ → List Event
sound_events input =
    let no : Refusal = input_refusal input in
    elim no.number [ zero ↦ events input | suc n ↦ take no.place (events input) ]

-- The refusal, how many transactions begin before it, and the records at the end: each event before the fault is noted with its transaction
pub record Looking : Type 0 where
  pub refusal : Refusal
  pub transactions : ℕ
  pub records : List Labelled

unfoldable pub looked : List ℕ → List Labelled → Looking
looked input old =
    let es : List Event = sound_events input in
    record { refusal = input_refusal input; transactions = Transactions.transactions es; records = over (labelled es) old }
