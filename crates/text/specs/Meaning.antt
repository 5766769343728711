-- What document 02, L4, demands of the written form, as one statement. Its proof is `right` in proofs/Right.
use Rattle.std.specs.Prelude.{ℕ, ◌+◌, ◌≤◌, ◌<◌, ◌≡◌, List, ◌++◌, length, take, T, Ok}
use Rattle.record.specs.declared.Event.{Event}
use Rattle.record.specs.Record.{in_range}
use Rattle.text.specs.Line.{line_of, line_read}
use Rattle.text.specs.File.{Ending, done, refused, feeds, read_text, write_text}

-- an ending that is no refusal, and the bytes that were written
abbrev pub Ended : Ending → Type 0
Ended e = e.answer.kind ≡ 0

abbrev pub result : Ending → List ℕ
result e = take e.answer.first e.out

-- exactly one line: one that reads as the event, and no other does
pub record OneLine (e : Event) : Type 0 where
  pub line : List ℕ
  pub reads : line_read line ≡ Ok e
  pub only : (l : List ℕ) → line_read l ≡ Ok e → l ≡ line

pub record Right : Type 0 where
  -- every possible record has exactly one line
  pub one_line : (e : Event) → T (in_range e) → OneLine e
  -- reading a written line gives the record back
  pub read-written : (e : Event) → T (in_range e) → line_read (line_of e) ≡ Ok e
  -- any line that reads is the line that would be written, of a possible record
  pub written_read : (line : List ℕ) (e : Event) → line_read line ≡ Ok e → (line_of e ≡ line) × T (in_range e)
  -- reading what was written from a file of records gives these records again, where they fit
  pub write-then-read : (input out back : List ℕ) → Ended (write_text input out) → length input ≤ length back
      → read_text (result (write_text input out)) back ≡ done input back
  -- writing what was read from a text gives this text again, where it fits
  pub read-then-write : (text out back : List ℕ) → Ended (read_text text out) → length text ≤ length back
      → write_text (result (read_text text out)) back ≡ done text back

-- A long text in two parts: what the first part and the line feeds of the rest tell of it. Its proof is `long-text` in proofs/Right
pub record LongText (first rest out : List ℕ) : Type 0 where
  pub over : 1024 < feeds first + feeds rest → read_text (first ++ rest) out ≡ refused 2 0 out
  pub within : feeds first + feeds rest ≤ 1024 → read_text (first ++ rest) out ≡ read_text first out
