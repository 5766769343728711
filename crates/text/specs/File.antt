-- Whole files: a text read into records, and records written as a text, with all refusals (document 02, L4).
use Rattle.std.specs.Prelude.{ℕ, zero, suc, ◌*◌, ◌%◌, true, false, List, [], ◌∷◌, length, leb, eqb, Result, Ok, Err}
use Rattle.lists.specs.Lists.{keep, each, over}
use Rattle.record.specs.declared.Event.{Event}
use Rattle.record.specs.Faults.{Check, check, first_fault, Refusal}
use Rattle.record.specs.declared.Refusal.{Refusal as Given}
use Rattle.record.specs.Answers.{Numbers, refused_as, bytes_or_refused}
use Rattle.record.specs.Record.{record_size, encoded, decoded, records_of}
use Rattle.text.specs.Line.{line_feed, glued, line_of, line_read}

-- An answer, and the output at its end
pub record Ending : Type 0 where
  pub answer : Numbers
  pub out : List ℕ

abbrev pub ending : Result ℕ Given → List ℕ → Ending
ending r out = record { answer = bytes_or_refused r; out = out }

-- these bytes are written, and the output past them is left
unfoldable pub done : List ℕ → List ℕ → Ending
done bytes out = record { answer = record { kind = 0; first = length bytes; second = 0 }; out = over bytes out }

-- refused: the output keeps its contents
unfoldable pub refused : ℕ → ℕ → List ℕ → Ending
refused number place out = record { answer = refused_as (record { number = number; place = place }); out = out }

-- ---- Parts of a file, each read by itself

-- the first part that is refused decides, with its place; number 0 where none is. k is the number of the first part
unfoldable pub first_refused : (List ℕ → Result Event Refusal) → ℕ → List (List ℕ) → Refusal
first_refused read k [] = record { number = 0; place = 0 }
first_refused read k (p ∷ ps) = elim (read p) [ Ok e ↦ first_refused read (suc k) ps | Err f ↦ record { number = f.number; place = k } ]

-- what reading a part found
abbrev pub found : Result Event Refusal → List Event
found (Ok e) = e ∷ []
found (Err f) = []

unfoldable pub events : (List ℕ → Result Event Refusal) → List (List ℕ) → List Event
events read ps = each (λ p. found (read p)) ps

-- ---- Reading a text

-- how many line feeds there are
unfoldable pub feeds : List ℕ → ℕ
feeds text = length (keep (λ c. eqb c line_feed) text)

-- the lines, each with its line feed; bytes after the last line feed are a line too
unfoldable pub lines : List ℕ → List (List ℕ)
lines [] = []
lines (c ∷ bs) = elim (eqb c line_feed) [ true ↦ (c ∷ []) ∷ lines bs | false ↦ glued c (lines bs) ]

-- 2: over 1,024 line feeds.  3: output under 8 bytes for each line feed
unfoldable pub read_checks : List ℕ → List ℕ → List Check
read_checks text out = check 2 0 (leb (feeds text) 1024) ∷ check 3 0 (leb (record_size * feeds text) (length out)) ∷ []

-- A text read: 2, 3, then 14 at the first line without the form; else the records of its lines
unfoldable pub read_text : List ℕ → List ℕ → Ending
read_text text out =
    let no : Refusal = first_refused line_read 0 (lines text) in
    elim (first_fault (read_checks text out)) [
      | zero ↦
          elim no.number [
            | zero ↦ done (each encoded (events line_read (lines text))) out
            | suc n ↦ refused no.number no.place out
          ]
      | suc n ↦ refused (suc n) 0 out
    ]

-- ---- Writing a text

-- 1: length isn't a multiple of 8.  2: length is over 8,192
unfoldable pub write_checks : List ℕ → List Check
write_checks input = check 1 0 (eqb (length input % record_size) 0) ∷ check 2 0 (leb (length input) 8192) ∷ []

-- Records written: 1, 2, then 5 to 7 at the first record with one, then 3 where the text doesn't fit; else the line of each
unfoldable pub write_text : List ℕ → List ℕ → Ending
write_text input out =
    let no : Refusal = first_refused decoded 0 (records_of input) in
    let text : List ℕ = each line_of (events decoded (records_of input)) in
    elim (first_fault (write_checks input)) [
      | zero ↦
          elim no.number [
            | zero ↦ elim (leb (length text) (length out)) [ true ↦ done text out | false ↦ refused 3 0 out ]
            | suc n ↦ refused no.number no.place out
          ]
      | suc n ↦ refused (suc n) 0 out
    ]

-- Everything above, opened at once, for a proof by computation: `unfolding opened`
unfoldable pub opened : Unit {0}
unfolding Rattle.text.specs.Line.opened Rattle.record.specs.Faults.opened Rattle.lists.specs.Lists.opened done refused first_refused events feeds lines read_checks read_text write_checks write_text
opened = tt
