-- The whole promise of proposed yields (document 02, L6): the answer, and what is left in the output and in the work area, of every input, output and work
-- area.
use Rattle.std.specs.Prelude.{ℕ, zero, suc, true, false, List, [], ◌∷◌, length, replicate, Result, Ok, Err}
use Rattle.lists.specs.Lists.{keep, each, over}
use Rattle.record.specs.declared.Event.{Event}
use Rattle.record.specs.Faults.{Refusal, Check}
use Rattle.record.specs.Record.{encoded}
use Rattle.record.specs.declared.Refusal.{Refusal as Given}
use Rattle.record.specs.Answers.{Numbers, refusal_of, refused_as, Ending}
use Rattle.graph.specs.Transactions.{work_size}
use Rattle.looking.specs.Refusals.{room_checks, refused_by, events}
use Rattle.proposal.specs.declared.Finished.{Finished}
use Rattle.proposal.specs.declared.Added.{Added}
use Rattle.proposal.specs.Walk.{Placed, events_in, finished, stop}

-- This paper's number and values for each case.  0 proposed: the number of bytes written, and of yields added.  2 refused: number and record
abbrev pub numbers : Result Finished Given → Numbers
numbers (Ok f) = record { kind = 0; first = f.bytes; second = f.yields }
numbers (Err r) = refused_as (refusal_of r)

-- 1 to 4, tried in that order: as judging does, but for 3
unfoldable pub size_checks : List ℕ → List ℕ → List ℕ → List Check
size_checks input out work = room_checks input 8192 out work

-- 1 to 4, then 5 to 13 of the whole input
abbrev pub refusal : List ℕ → List ℕ → List ℕ → Refusal
refusal input out work = refused_by (size_checks input out work) input

-- the bytes of a recording, and the yields added to it
unfoldable pub bytes_of : List Event → List ℕ
bytes_of es = each encoded es

unfoldable pub yields_in : List Placed → List Placed
yields_in ps = keep (λ p. p.added) ps

-- the finished recording is written over the output
unfoldable pub done : List Placed → List ℕ → List ℕ → Ending
done ps out work = record {
  answer = record { kind = 0; first = length (bytes_of (events_in ps)); second = length (yields_in ps) };
  out = over (bytes_of (events_in ps)) out;
  work = over (replicate work_size 0) work;
}

abbrev pub refused : Refusal → List ℕ → List ℕ → Ending
refused r out work = record { answer = refused_as r; out = out; work = work }

-- Refused before the walk: output and work area keep their contents. Refused in it: the output does, and the first 4,096 numbers of the work area are 0
unfoldable pub proposed : List ℕ → List ℕ → List ℕ → Ending
proposed input out work =
    let no : Refusal = refusal input out work in
    elim no.number [
      | zero ↦
          let full : Refusal = stop [] 0 (events input) in
          elim full.number [
            | zero ↦ done (finished (events input)) out work
            | suc n ↦ refused full out (over (replicate work_size 0) work)
          ]
      | suc n ↦ refused no out work
    ]

-- ---- What the program prints: a line for each added yield, of its thread and the input record that it stands before

-- k is the number of the first input record that is among these
unfoldable pub lines_from : ℕ → List Placed → List Added
lines_from k [] = []
lines_from k (p ∷ ps) = elim p.added [ true ↦ (record { thread = p.event.thread; before = k }) ∷ lines_from k ps | false ↦ lines_from (suc k) ps ]

-- the array lent for the lines, at the end: a refused recording has none
unfoldable pub told : List ℕ → List ℕ → List ℕ → List Added → List Added
told input out work old = elim (proposed input out work).answer.kind [ zero ↦ over (lines_from 0 (finished (events input))) old | suc n ↦ old ]

-- Everything above, opened at once, for a proof by computation: `unfolding opened`
unfoldable pub opened : Unit {0}
unfolding size_checks bytes_of yields_in done proposed lines_from told
opened = tt
