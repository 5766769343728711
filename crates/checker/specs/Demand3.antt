-- Demand 3: what the answer, and what is written, say of a recording that is not refused. Over swaps, and not over a graph.
use Rattle.std.specs.Prelude.{ℕ, zero, suc, ◌≤◌, ◌≡◌, ◌↔◌, ◌⊎◌, List, [], ◌∷◌, map, length, drop, T, Ok}
use Rattle.record.specs.declared.Event.{Event}
use Rattle.record.specs.Record.{decoded, two_bytes, records, records_of}
use Rattle.replay.specs.Machine.{fresh, after, possible}
use Rattle.trace.specs.Paths.{Cycle}
use Rattle.graph.specs.Swaps.{Swaps, Serial}
use Rattle.graph.specs.Violation.{edges_up_to, transaction_at}
use Rattle.graph.specs.Rule.{Reported}
use Rattle.record.specs.Answers.{Numbers}
use Rattle.looking.specs.Refusals.{events}
use Rattle.checker.specs.Judged.{judged}

-- the first n numbers of a list of bytes, two bytes each, low byte first
unfoldable pub numbers_in : ℕ → List ℕ → List ℕ
numbers_in zero bs = []
numbers_in (suc n) bs = two_bytes bs 0 ∷ numbers_in n (drop 2 bs)

module _ (input out work : List ℕ) where
  abbrev pub es : List Event
  es = events input

  abbrev pub answer : Numbers
  answer = (judged input out work).answer

  abbrev pub left : List ℕ
  left = (judged input out work).out

  -- Cooperable: the bytes written decode, record by record, to a trace with as many records as the recording, that swaps reach and that is serial.
  -- From the fresh state it is possible, and ends in the recording's state: variables, locks, threads forked and joined, waits
  pub record Written : Type 0 where
    pub trace : List Event
    pub decodes : map decoded (records answer.first left) ≡ map Ok trace
    pub as_many : length trace ≡ length (records_of input)
    pub reached : Swaps es trace
    pub serial : Serial trace
    pub can-be : T (possible fresh trace)
    pub ends_same : after fresh trace ≡ after fresh es

  -- Violation: the prefix up to the named record has a cycle and no shorter one has. The numbers written are a cycle of edges of that prefix that
  -- starts at that record's transaction, chosen by the rule
  pub record Violated : Type 0 where
    pub cycle : Cycle (edges_up_to es (suc answer.first))
    pub no-shorter : (k : ℕ) → k ≤ answer.first → Cycle (edges_up_to es k) → ⊥
    pub by-rule : Reported (edges_up_to es (suc answer.first)) (transaction_at es answer.first) (numbers_in answer.second left)

  -- The answer is cooperable (0) or violation (1), and cooperable exactly if swaps turn the recording into a serial trace
  pub record Trusted : Type 0 where
    pub one_of_two : (answer.kind ≡ 0) ⊎ (answer.kind ≡ 1)
    pub exactly : (answer.kind ≡ 0) ↔ ((t : List Event) × Swaps es t × Serial t)
    pub cooperable : answer.kind ≡ 0 → Written
    pub violation : answer.kind ≡ 1 → Violated
