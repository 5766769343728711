-- What is answered of a possible history (document 01, "What is answered").
use Rattle.std.specs.Prelude.{ℕ, zero, suc, List, length}
use Rattle.record.specs.declared.Event.{Event}
use Rattle.record.specs.Answers.{Numbers, refusal_of, refused_as}
use Rattle.record.specs.Record.{encoded, in_two}
use Rattle.lists.specs.Lists.{each}
use Rattle.graph.specs.Transactions.{transactions}
use Rattle.graph.specs.Serial.{serial_trace}
use Rattle.graph.specs.Violation.{shortest, cycle_of}
use Rattle.checker.specs.declared.Answer.{Answer}
use Rattle.checker.specs.declared.Answer.TheVariants.{Cooperable, Violation, Refused}

-- This paper's number and values for each case of an answer.
-- 0 cooperable: records and transactions.  1 violation: record and cycle length.  2 refused: number and record
abbrev pub numbers : Answer → Numbers
numbers (Cooperable records transactions) = record { kind = 0; first = records; second = transactions }
numbers (Violation place cycle) = record { kind = 1; first = place; second = cycle }
numbers (Refused r) = refused_as (refusal_of r)

-- an answer, and the bytes that are written for it
pub record Verdict : Type 0 where
  pub answer : Numbers
  pub written : List ℕ

-- Cooperable: the number of records and of transactions; the serial trace is written
unfoldable pub cooperable : List Event → Verdict
cooperable es = record { answer = record { kind = 0; first = length es; second = transactions es }; written = each encoded (serial_trace es) }

-- Violation, whose shortest prefix with a cycle ends in record k: that record and the length of the reported cycle; the cycle is written
unfoldable pub violation : List Event → ℕ → Verdict
violation es k = record { answer = record { kind = 1; first = k; second = length (cycle_of es (suc k)) }; written = each in_two (cycle_of es (suc k)) }

unfoldable pub verdict : List Event → Verdict
verdict es = elim (shortest es) [ zero ↦ cooperable es | suc k ↦ violation es k ]

-- Everything above, opened at once, for a proof by computation: `unfolding opened`
unfoldable pub opened : Unit {0}
unfolding cooperable violation verdict
opened = tt
