-- What is told of an edge, in document 02's words: what `proofs/Right` proves of every recording and every place.
use Rattle.std.specs.Prelude.{ℕ, suc, ◌<◌, ◌≤◌, ◌≡◌, ◌↔◌, ◌⊎◌, List, get_or, T, None, Some, Ok, Err}
use Rattle.record.specs.declared.Event.{Event}
use Rattle.record.specs.Faults.{Refusal}
use Rattle.record.specs.Record.{target}
use Rattle.record.specs.Answers as Answers
use Rattle.record.specs.Answers.{refused_as}
use Rattle.trace.specs.Paths.{has_edge}
use Rattle.graph.specs.Conflict.{same_variable, same_lock, governs, same_child, conflict}
use Rattle.graph.specs.Violation.{edges_up_to, transaction_at}
use Rattle.looking.specs.Refusals.{events}
use Rattle.checker.specs.Judged.{judged}
use Rattle.checker.specs.Demand3.{numbers_in}
use Rattle.reasons.specs.declared.Reason.{Reason}
use Rattle.reasons.specs.declared.Reason.TheVariants.{Thread, Variable, Lock, ForkJoin}
use Rattle.reasons.specs.declared.Cause.{Cause}
use Rattle.reasons.specs.Why.{name_of, number_of, no_event, origin_of, goal_of, told}

-- A reason holds of two operations, with its number
abbrev pub Holds : Reason → Event → Event → Type 0
Holds (Thread t) a b = (a.thread ≡ t) × (b.thread ≡ t)
Holds (Variable x) a b = T (same_variable a b) × (target a.op ≡ x) × (target b.op ≡ x)
Holds (Lock m) a b = T (same_lock a b) × (target a.op ≡ m) × (target b.op ≡ m)
Holds (ForkJoin u) a b =
    (T (governs a b) × (target a.op ≡ u))
    ⊎ ((T (governs b a) × (target b.op ≡ u)) ⊎ (T (same_child a b) × (target a.op ≡ u) × (target b.op ≡ u)))

-- The events of a recording, the record that ends the judged prefix, a cycle, and a place in it
module _ (es : List Event) (k : ℕ) (cycle : List ℕ) (p : ℕ) where
  abbrev pub event_at : ℕ → Event
  event_at i = get_or es i no_event

  -- records i and j of the judged prefix make the edge: i stands before j, their transactions are the edge's two, and they conflict
  pub record Makes (i j : ℕ) : Type 0 where
    pub ordered : i < j
    pub within : j ≤ k
    pub origin : transaction_at es i ≡ origin_of cycle p
    pub goal : transaction_at es j ≡ goal_of cycle p
    pub conflicting : T (conflict (event_at i) (event_at j))

  -- The pair makes the edge, which is one of the prefix; no earlier first record does, and for it no earlier second. The reason holds of the two
  -- records, and none that is earlier in 02's order does. Where each forks or joins the other's thread, the number is the earlier one's target
  pub record Explained (c : Cause) : Type 0 where
    pub edge : T (has_edge (edges_up_to es (suc k)) (origin_of cycle p) (goal_of cycle p))
    pub makes : Makes c.first c.second
    pub earliest-first : (i j : ℕ) → Makes i j → c.first ≤ i
    pub earliest-second : (j : ℕ) → Makes c.first j → c.second ≤ j
    pub holds : Holds c.reason (event_at c.first) (event_at c.second)
    pub first-reason : (r : Reason) → Holds r (event_at c.first) (event_at c.second) → name_of c.reason ≤ name_of r
    pub each-other : name_of c.reason ≡ 3 → T (governs (event_at c.first) (event_at c.second)) → T (governs (event_at c.second) (event_at c.first))
        → number_of c.reason ≡ target (event_at c.first).op

-- Of every input, output and work area, and every place: beside the checker's answer and the cycle that it writes
module _ (input out work : List ℕ) (p : ℕ) where
  abbrev pub answer : Answers.Numbers
  answer = (judged input out work).answer

  abbrev pub cycle : List ℕ
  cycle = numbers_in answer.second (judged input out work).out

  pub record Right : Type 0 where
    -- refused, exactly if the checker refuses, with its number and record
    pub refused : (r : Refusal) → (told input out work p ≡ Err r) ↔ (answer ≡ refused_as r)
    -- no such edge, exactly if there is no violation or the place isn't below the cycle's length
    pub no-such-edge : (told input out work p ≡ Ok None) ↔ ((answer.kind ≡ 0) ⊎ ((answer.kind ≡ 1) × (answer.second ≤ p)))
    -- else the pair of records that makes the edge, and the reason
    pub because : answer.kind ≡ 1 → p < answer.second → (c : Cause) × (told input out work p ≡ Ok (Some c)) × Explained (events input) answer.first cycle p c
