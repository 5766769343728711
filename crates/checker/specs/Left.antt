-- What the checker promises the crates above it besides the answer: what a judgement leaves of its records and its order.
-- A reader of the public promises need not read this.
use Rattle.std.specs.Prelude.{ℕ, zero, suc, List}
use Rattle.record.specs.Faults.{first_fault}
use Rattle.lists.specs.Lists.{over}
use Rattle.graph.specs.declared.Labelled.{Labelled}
use Rattle.graph.specs.Violation.{shortest}
use Rattle.graph.specs.Named.{named}
use Rattle.looking.specs.Refusals.{events}
use Rattle.looking.specs.Looked.{looked}
use Rattle.checker.specs.Judged.{size_checks, refusal}

-- the records: as looking leaves them, or as they were with 1 to 4
unfoldable pub records_left : List ℕ → List ℕ → List ℕ → List Labelled → List Labelled
records_left input out work old = elim (first_fault (size_checks input out work)) [ zero ↦ (looked input old).records | suc n ↦ old ]

-- the transactions that the answer names, written over the order; none of a refused recording
unfoldable pub order_left : List ℕ → List ℕ → List ℕ → List ℕ → List ℕ
order_left input out work old = elim (refusal input out work).number [ zero ↦ over (named (events input) (shortest (events input))) old | suc n ↦ old ]
