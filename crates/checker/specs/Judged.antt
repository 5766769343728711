-- The whole promise: the answer, and what is left in the output and in the work area, of every input, output and work area.
use Rattle.std.specs.Prelude.{ℕ, zero, suc, List, length, replicate}
use Rattle.record.specs.Faults.{Refusal, Check}
use Rattle.record.specs.Answers.{refused_as, Ending}
use Rattle.lists.specs.Lists.{over}
use Rattle.graph.specs.Transactions.{work_size}
use Rattle.looking.specs.Refusals.{room_checks, refused_by, events}
use Rattle.checker.specs.Verdict.{Verdict, verdict}

-- 1 to 4, tried in that order: of the input, the output and the work area
unfoldable pub size_checks : List ℕ → List ℕ → List ℕ → List Check
size_checks input out work = room_checks input (length input) out work

-- 1 to 4, then the records
unfoldable pub refusal : List ℕ → List ℕ → List ℕ → Refusal
refusal input out work = refused_by (size_checks input out work) input

-- Refused: output and work area keep their contents. Else what is named is written, and the first 4,096 numbers of the work area are 0
unfoldable pub judged : List ℕ → List ℕ → List ℕ → Ending
judged input out work =
    let no : Refusal = refusal input out work in
    elim no.number [
      | zero ↦
          let v : Verdict = verdict (events input) in
          record { answer = v.answer; out = over v.written out; work = over (replicate work_size 0) work }
      | suc n ↦ record { answer = refused_as no; out = out; work = work }
    ]

-- Everything above, opened at once, for a proof by computation: `unfolding opened`
unfoldable pub opened : Unit {0}
unfolding size_checks refusal judged
opened = tt
