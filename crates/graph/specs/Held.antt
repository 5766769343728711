-- What crates promise one another about records in arrays.
-- A reader of the public promises need not read this.
use Rattle.std.specs.Prelude.{ℕ}
use Rattle.record.specs.declared.Event.{Event}
use Rattle.record.specs.declared.Op.TheVariants.{Read}
use Rattle.graph.specs.declared.Labelled.{Labelled}

-- what stands for an operation past the end: zeros, and the first kind
abbrev pub past_end : Event
past_end = record { thread = 0; op = Read 0 0 }

-- and for a record
abbrev pub record_past_end : Labelled
record_past_end = record { transaction = 0; event = past_end }

-- an operation with its transaction
abbrev pub labelled_as : ℕ → Event → Labelled
labelled_as t e = record { transaction = t; event = e }
