-- What naming promises the crates above it, and its own functions one another: the transactions that rows name, where bit a of row d of the work area
-- is taken to say that a path leads from transaction a to d. Where it does, they are those of `graph/specs/Named` (`proofs/Right`).
-- A reader of the public promises need not read this.
use Rattle.std.specs.Prelude.{ℕ, zero, suc, ◌-◌, ◌<◌, ◌≤◌, ◌≡◌, Bool, true, false, cond, not, ◌&&◌, List, [], ◌∷◌, map, length, get_or, take, replicate, eqb, ltb, leb, Option, None, Some}
use Rattle.lists.specs.Lists.{some_of, first_of, from, below}
use Rattle.trace.specs.Paths.{Edge}
use Rattle.rows.specs.Bits.{has, marked, beyond}
use Rattle.graph.specs.declared.Labelled.{Labelled}
use Rattle.graph.specs.Held.{record_past_end}
use Rattle.graph.specs.Transactions.{transaction_limit, work_size}
use Rattle.graph.specs.Edges.{makes, edges}
use Rattle.graph.specs.Serial.{thread_of}

-- ---- the serial order, by counts of the bits in the rows. Row 0 of `taken` holds the transactions that are taken

-- a number above the threads of n transactions, and no higher than need be
unfoldable pub above : (ℕ → ℕ) → ℕ → ℕ
above thread zero = 0
above thread (suc n) = cond (leb (above thread n) (thread n)) (suc (thread n)) (above thread n)

-- the lowest of n transactions, from a on, that is of thread t and isn't taken; n where there is none
unfoldable pub next_from : (ℕ → ℕ) → ℕ → List ℕ → ℕ → ℕ → ℕ
next_from thread n taken t a = first_of (λ b. eqb (thread b) t && not (has taken 0 b)) n (from a (n - a))

-- a thread's next transaction
abbrev pub next_of : (ℕ → ℕ) → ℕ → List ℕ → ℕ → ℕ
next_of thread n taken t = next_from thread n taken t 0

-- how many ancestors of a aren't taken, a itself included; 0 where a isn't one of n
unfoldable pub left_of : List ℕ → ℕ → List ℕ → ℕ → ℕ
left_of work n taken a = cond (ltb a n) (beyond work a taken 0) 0

-- whether nothing is left for a thread's next transaction to wait for but itself
abbrev pub ready : List ℕ → (ℕ → ℕ) → ℕ → List ℕ → ℕ → Bool
ready work thread n taken t = eqb (left_of work n taken (next_of thread n taken t)) 1

-- the lowest of m threads that is ready; m where none is
abbrev pub first_ready : List ℕ → (ℕ → ℕ) → ℕ → ℕ → List ℕ → ℕ
first_ready work thread n m taken = first_of (ready work thread n taken) m (below m)

-- at most k more of n transactions, of m threads: the next transaction of the lowest thread that is ready, until none is
unfoldable pub count_order : List ℕ → (ℕ → ℕ) → ℕ → ℕ → ℕ → List ℕ → List ℕ
count_order work thread n m zero taken = []
count_order work thread n m (suc k) taken =
    let t : ℕ = first_ready work thread n m taken in
    let c : ℕ = next_of thread n taken t in
    elim (ltb t m) [ true ↦ c ∷ count_order work thread n m k (marked taken 0 c) | false ↦ [] ]

-- all n of them
unfoldable pub order_by : (ℕ → ℕ) → ℕ → List ℕ → List ℕ
order_by thread n work = count_order work thread n (above thread n) n (replicate 8 0)

-- the arrays hold, for each of m threads, its next transaction and how much is left for that one
abbrev pub Counts : List ℕ → (ℕ → ℕ) → ℕ → ℕ → List ℕ → List ℕ → List ℕ → Type 0
Counts work thread n m taken nexts lefts =
    (t : ℕ) → t < m → (get_or nexts t 0 ≡ next_of thread n taken t) × (get_or lefts t 0 ≡ left_of work n taken (next_of thread n taken t))

-- ---- the cycle through T, by row T: who leads to T

-- The order in which the walk asks for the next: T before all others, since there the cycle closes, and the others by number
abbrev pub rank : ℕ → ℕ → ℕ
rank T b = cond (eqb b T) 0 (suc b)

-- the lowest rank below `low` of those that a has an edge to and that lead to T; `low`, where there is none
unfoldable pub lowest_by : List ℕ → ℕ → ℕ → List Edge → ℕ → ℕ
lowest_by work T a [] low = low
lowest_by work T a (e ∷ es) low =
    lowest_by work T a es (cond (eqb e.origin a && (has work T e.goal && ltb (rank T e.goal) low)) (rank T e.goal) low)

module _ (es : List Edge) (work : List ℕ) (T : ℕ) where
  -- none where the cycle closes at a, or else the next one, of 512
  unfoldable pub next_by : ℕ → Option ℕ
  next_by a = elim (lowest_by work T a es (suc transaction_limit)) [ zero ↦ None | suc b ↦ Some (cond (ltb b transaction_limit) b 0) ]

  unfoldable pub walk_by : ℕ → ℕ → List ℕ
  walk_by zero a = []
  walk_by (suc k) a = elim (next_by a) [ None ↦ a ∷ [] | Some b ↦ a ∷ walk_by k b ]

-- the cycle of the records up to record k, which is in T; nothing, where T isn't one of n or doesn't lead to itself
unfoldable pub cycle_by : List Labelled → ℕ → ℕ → List ℕ → List ℕ
cycle_by xs n k work =
    let T : ℕ = get_or (map (λ x. x.transaction) xs) k 0 in
    elim (ltb T n && has work T T) [ true ↦ walk_by (edges (take (suc k) xs)) work T n T | false ↦ [] ]

-- ---- what is named

-- at most 512 transactions, a work area of 4,096 numbers at least, and a prefix of the records
unfoldable pub fits : List Labelled → ℕ → ℕ → List ℕ → Bool
fits xs n p work = leb n transaction_limit && (leb work_size (length work) && leb p (length xs))

-- All n transactions of the records in serial order where p is 0, or else the cycle of the first p records. Nothing, where these don't fit
unfoldable pub named_by : List Labelled → ℕ → ℕ → List ℕ → List ℕ
named_by xs n p work =
    elim (fits xs n p work) [
      | true ↦ elim p [ zero ↦ order_by (thread_of xs) n work | suc k ↦ cycle_by xs n k work ]
      | false ↦ []
    ]

-- ---- by what the cycle is followed: of the records, those from record i on

abbrev pub record_at : List Labelled → ℕ → Labelled
record_at xs i = get_or xs i record_past_end

abbrev pub transaction_at : List Labelled → ℕ → ℕ
transaction_at xs i = (record_at xs i).transaction

-- whether record i has an edge to transaction t
unfoldable pub meets : List Labelled → ℕ → ℕ → Bool
meets xs i t = some_of (λ k. eqb (transaction_at xs k) t && makes (record_at xs i) (record_at xs k)) (from (suc i) (length xs - suc i))

-- b where it leads to T, by row T, and isn't T; or else 512, which is never the lowest
abbrev pub candidate : List ℕ → ℕ → ℕ → ℕ
candidate work T b = cond (ltb b transaction_limit && (not (eqb b T) && has work T b)) b transaction_limit

-- The candidates by the records' transactions: that of record k, and one that is no higher than any from record k on
abbrev pub Ranked : List Labelled → List ℕ → ℕ → ℕ → List ℕ → List ℕ → Type 0
Ranked xs work T i candidates lowest =
    ((k : ℕ) → i ≤ k → k < length xs → get_or candidates k 0 ≡ candidate work T (transaction_at xs k))
    × ((k j : ℕ) → i ≤ k → k ≤ j → j < length xs → get_or lowest k 0 ≤ candidate work T (transaction_at xs j))
