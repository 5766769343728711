-- What crates promise one another about the rows of the work area: who reaches whom.
-- A reader of the public promises need not read this.
use Rattle.std.specs.Prelude.{ℕ, suc, ◌<◌, ◌≤◌, ◌≡◌, List, length, drop}
use Rattle.record.specs.declared.Event.{Event}
use Rattle.trace.specs.Paths.{Edge, reaches}
use Rattle.rows.specs.Bits.{has}
use Rattle.graph.specs.Transactions.{labelled, transactions, work_size}
use Rattle.graph.specs.Edges.{edges}
use Rattle.graph.specs.Violation.{edges_up_to, shortest, transaction_at}

-- The first n rows, of at most 512, stand for the edges: bit a of row d is set where a path leads from a to d
pub record Stands (n : ℕ) (w : List ℕ) (g : List Edge) : Type 0 where
  pub long : 4096 ≤ length w
  pub is : (a d : ℕ) → a < 512 → d < n → has w d a ≡ reaches g a d

-- What an engine's search over the operations es finds and leaves: how many records the shortest prefix with a cycle has, or 0; the rows of all
-- transactions, unless there is one; in any case the row of the last record's transaction
pub record Found (es : List Event) (before : List ℕ) (prefix : ℕ) (work : List ℕ) : Type 0 where
  pub first : prefix ≡ shortest es
  pub stands : prefix ≡ 0 → Stands (transactions es) work (edges (labelled es))
  pub row : (k : ℕ) → prefix ≡ suc k → (b : ℕ) → b < 512 → has work (transaction_at es k) b ≡ reaches (edges_up_to es (suc k)) b (transaction_at es k)
  pub size : length work ≡ length before
  pub rest : drop work_size work ≡ drop work_size before
