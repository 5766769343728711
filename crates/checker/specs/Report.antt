-- What the program prints after the first line (document 01, "Examples on each side"): a line for each transaction.
use Rattle.std.specs.Prelude.{ℕ, zero, suc, true, false, List, [], ◌∷◌, map, eqb}
use Rattle.record.specs.declared.Event.{Event}
use Rattle.lists.specs.Lists.{over}
use Rattle.graph.specs.declared.Labelled.{Labelled}
use Rattle.graph.specs.Transactions.{labelled}
use Rattle.graph.specs.Serial.{thread_of}
use Rattle.graph.specs.Violation.{shortest}
use Rattle.graph.specs.Named.{named}
use Rattle.looking.specs.Refusals.{events}
use Rattle.checker.specs.declared.Line.{Line}
use Rattle.checker.specs.Judged.{refusal}

-- the number of the first record of transaction a, where the first of the list is record k
unfoldable pub first_record : ℕ → List Labelled → ℕ → ℕ
first_record k [] a = 0
first_record k (x ∷ xs) a = elim (eqb x.transaction a) [ true ↦ k | false ↦ first_record (suc k) xs a ]

-- a transaction's line: its number, its thread, its first record
unfoldable pub line : List Event → ℕ → Line
line es a = record { transaction = a; thread = thread_of (labelled es) a; first = first_record 0 (labelled es) a }

-- the lines, in serial order or cycle order
unfoldable pub lines : List Event → List Line
lines es = map (line es) (named es (shortest es))

-- the lines that are lent, at the end: a refused recording has none
unfoldable pub reported : List ℕ → List ℕ → List ℕ → List Line → List Line
reported input out work old = elim (refusal input out work).number [ zero ↦ over (lines (events input)) old | suc n ↦ old ]

-- Everything above, opened at once, for a proof by computation: `unfolding opened`
unfoldable pub opened : Unit {0}
unfolding first_record line lines reported
opened = tt
