-- How long what is answered is: the serial order, the serial trace, the reported cycle; and how many transactions there are.
use Prim.Native.Nat.{ℕ, zero, suc, pred, ◌+◌, ◌≤◌}
use native.Mathlib.Omega.{arith}
use mathlib.Core.Path.{◌≡◌, sym, ap}
use mathlib.Core.Bool.{true, false}
use mathlib.Core.List.{List, [], ◌∷◌}
use lib.ListN.{length}
use Rattle.record.specs.declared.Event.{Event}
use Rattle.trace.specs.Paths.{Edge}
use Rattle.lists.proofs.Tests.{by}
use Rattle.trace.proofs.Swaps.{length-swaps}
use Rattle.trace.proofs.Sizes.{taking-size}
use Rattle.graph.specs.Conflict.{conflict}
use Rattle.graph.specs.declared.Tally.{Tally}
use Rattle.graph.specs.Transactions.{none_yet, begins, tallied, tally_from, labelled, transactions}
use Rattle.graph.specs.Edges.{edges}
use Rattle.graph.specs.Serial.{thread_of, serial_order, serial_trace}
use Rattle.graph.specs.Violation.{edges_up_to, transaction_at, shortest, closes, onward, walk, cycle_of}
use Rattle.graph.proofs.Numbers.{count-begun, count-unbegun, bounded-edges, owned}
use Rattle.graph.proofs.Demand3.{whole, cooperable-right}

-- the serial order has every transaction, where no prefix has a cycle
pub order-size : (es : List Event) → shortest es ≡ 0 → length (serial_order es) ≡ transactions es
unfolding serial_order
order-size es h = taking-size (transactions es) (thread_of (labelled es)) (edges (labelled es)) (bounded-edges (transactions es) (labelled es) (owned es).small) (whole es h)

-- and the serial trace every record
pub trace-size : (es : List Event) → shortest es ≡ 0 → length (serial_trace es) ≡ length es
trace-size es h = sym (length-swaps conflict (cooperable-right es h).0)

-- a cycle names no more transactions than there are
walk-most : (n : ℕ) (g : List Edge) (t k a : ℕ) → length (walk n g t k a) ≤ k
unfolding walk
walk-most n g t zero a = omega arith
walk-most n g t (suc k) a = by (closes n g t a)
    (λ e. omega (arith, ap length (stop e)))
    (λ e. omega (arith, ap length (goes e), walk-most n g t k (onward n g t a)))
  where
    stop : closes n g t a ≡ true → walk n g t (suc k) a ≡ a ∷ []
    stop e = rw (e, walk)

    goes : closes n g t a ≡ false → walk n g t (suc k) a ≡ a ∷ walk n g t k (onward n g t a)
    goes e = rw (e, walk)

pub cycle-most : (es : List Event) (k : ℕ) → length (cycle_of es k) ≤ transactions es
unfolding cycle_of
cycle-most es k = walk-most (transactions es) (edges_up_to es k) (transaction_at es (pred k)) (transactions es) (transaction_at es (pred k))

-- no transaction is empty
tally-most : (s : Tally) (es : List Event) → (tally_from s es).count ≤ s.count + length es
unfolding tally_from
tally-most s [] = omega arith
tally-most s (e ∷ es) = by (begins s e)
    (λ b. omega (arith, count-begun s e b, tally-most (tallied s e) es))
    (λ b. omega (arith, count-unbegun s e b, tally-most (tallied s e) es))

pub transactions-most : (es : List Event) → transactions es ≤ length es
unfolding transactions none_yet
transactions-most es = omega (arith, tally-most none_yet es)
