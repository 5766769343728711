-- The transactions that an answer names (document 01, "What is answered").
use Rattle.std.specs.Prelude.{ℕ, zero, suc, List}
use Rattle.record.specs.declared.Event.{Event}
use Rattle.graph.specs.Serial.{serial_order}
use Rattle.graph.specs.Violation.{cycle_of}

-- all in serial order, or the cycle where the shortest prefix with one has p records
unfoldable pub named : List Event → ℕ → List ℕ
named es p = elim p [ zero ↦ serial_order es | suc k ↦ cycle_of es (suc k) ]

-- Everything above, opened at once, for a proof by computation: `unfolding opened`
unfoldable pub opened : Unit {0}
unfolding named
opened = tt
