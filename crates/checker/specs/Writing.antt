-- What the checker's private functions promise one another about what they write.
-- A reader of the public promises need not read this.
use Rattle.std.specs.Prelude.{ℕ, ◌<◌, List, length}
use Rattle.record.specs.Record.{encoded}
use Rattle.lists.specs.Lists.{each}
use Rattle.graph.specs.declared.Labelled.{Labelled}
use Rattle.graph.specs.Serial.{events_of, thread_of}
use Rattle.naming.specs.Naming.{transaction_at}
use Rattle.checker.specs.declared.Line.{Line}
use Rattle.checker.specs.Report.{first_record}

-- each record is of one of 512 transactions
abbrev pub Few : List Labelled → Type 0
Few xs = (i : ℕ) → i < length xs → transaction_at xs i < 512

-- what is written for transaction a: the bytes of its events
abbrev pub bytes_of : List Labelled → ℕ → List ℕ
bytes_of xs a = each encoded (events_of xs a)

-- A transaction's line, by the records: its number, the thread of its first record, and that record
unfoldable pub line_of : List Labelled → ℕ → Line
line_of xs a = record { transaction = a; thread = thread_of xs a; first = first_record 0 xs a }
