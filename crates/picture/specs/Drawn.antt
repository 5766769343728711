-- The whole promise: the answer, and what is left in the output and in the work area, of every input, output and work area (document 02, L5).
use Rattle.std.specs.Prelude.{ℕ, zero, suc, true, false, List, [], ◌∷◌, ◌++◌, length, replicate, leb}
use Rattle.lists.specs.Lists.{over}
use Rattle.record.specs.Faults.{Refusal, Check, check}
use Rattle.record.specs.Answers.{Numbers, refused_as, Ending}
use Rattle.graph.specs.Transactions.{work_size}
use Rattle.looking.specs.Refusals.{input_checks, refused_by, events}
use Rattle.picture.specs.Picture.{picture}

-- so many bytes are written
abbrev pub written_as : ℕ → Numbers
written_as bytes = record { kind = 0; first = bytes; second = 0 }

-- 1, 2 and 4, tried in that order
unfoldable pub size_checks : List ℕ → List ℕ → List Check
size_checks input work = input_checks input ++ (check 4 0 (leb work_size (length work)) ∷ [])

-- then the first record with a fault
abbrev pub refusal : List ℕ → List ℕ → Refusal
refusal input work = refused_by (size_checks input work) input

-- An answer, and the output at its end
pub record Put : Type 0 where
  pub answer : Numbers
  pub out : List ℕ

-- 3 comes last: the text doesn't fit, and the output keeps its contents. Else it is written, and the output past it is left
unfoldable pub fitted : List ℕ → List ℕ → Put
fitted text out =
    elim (leb (length text) (length out)) [
      | true ↦ record { answer = written_as (length text); out = over text out }
      | false ↦ record { answer = refused_as (record { number = 3; place = 0 }); out = out }
    ]

-- Refused with another number than 3: output and work area keep their contents. Else the first 4,096 numbers of the work area are 0
unfoldable pub drawn : List ℕ → List ℕ → List ℕ → Ending
drawn input out work =
    let no : Refusal = refusal input work in
    elim no.number [
      | zero ↦
          let p : Put = fitted (picture (events input)) out in
          record { answer = p.answer; out = p.out; work = over (replicate work_size 0) work }
      | suc n ↦ record { answer = refused_as no; out = out; work = work }
    ]

-- Everything above, opened at once, for a proof by computation: `unfolding opened`
unfoldable pub opened : Unit {0}
unfolding size_checks fitted drawn
opened = tt
