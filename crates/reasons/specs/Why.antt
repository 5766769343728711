-- Which two records make an edge of the reported cycle, and why (document 02, L2).
use Rattle.std.specs.Prelude.{ℕ, zero, suc, ◌-◌, Bool, true, false, ◌&&◌, List, [], ◌∷◌, get_or, length, take, ltb, eqb, Option, None, Some, Result, Ok, Err}
use Rattle.record.specs.declared.Event.{Event}
use Rattle.record.specs.declared.Op.TheVariants.{Yield}
use Rattle.record.specs.Faults.{Refusal}
use Rattle.record.specs.Record.{target}
use Rattle.record.specs.Answers.{refused_as}
use Rattle.lists.specs.Lists.{some_of, first_of, from, below}
use Rattle.graph.specs.Conflict.{same_thread, same_variable, same_lock, governs, same_child, conflict}
use Rattle.graph.specs.declared.Labelled.{Labelled}
use Rattle.graph.specs.Transactions.{labelled}
use Rattle.graph.specs.Violation.{shortest, cycle_of}
use Rattle.looking.specs.Refusals.{events}
use Rattle.checker.specs.Judged.{refusal, judged}
use Rattle.reasons.specs.declared.Reason.{Reason}
use Rattle.reasons.specs.declared.Reason.TheVariants.{Thread, Variable, Lock, ForkJoin}
use Rattle.reasons.specs.declared.Cause.{Cause}

-- A reason's number, which is its place in 02's order: 0 same thread, 1 variable, 2 lock, 3 fork/join
abbrev pub name_of : Reason → ℕ
name_of (Thread t) = 0
name_of (Variable x) = 1
name_of (Lock m) = 2
name_of (ForkJoin u) = 3

-- and which thread, variable or lock it is; of fork/join, the thread that is forked or joined
abbrev pub number_of : Reason → ℕ
number_of (Thread t) = t
number_of (Variable x) = x
number_of (Lock m) = m
number_of (ForkJoin u) = u

-- A reason, and whether it holds of two operations
pub record Ground : Type 0 where
  pub reason : Reason
  pub holds : Bool

abbrev pub ground_of : Reason → Bool → Ground
ground_of r h = record { reason = r; holds = h }

-- The reasons of a, which stands before b, in 02's order. Where each forks or joins the other's thread, a's target goes first
unfoldable pub grounds : Event → Event → List Ground
grounds a b =
    ground_of (Thread a.thread) (same_thread a b)
    ∷ ground_of (Variable (target a.op)) (same_variable a b)
    ∷ ground_of (Lock (target a.op)) (same_lock a b)
    ∷ ground_of (ForkJoin (target a.op)) (governs a b)
    ∷ ground_of (ForkJoin (target b.op)) (governs b a)
    ∷ ground_of (ForkJoin (target a.op)) (same_child a b)
    ∷ []

-- the first that holds; any where none does
unfoldable pub reason_of : Event → Event → Reason
reason_of a b = (first_of (λ g. g.holds) (ground_of (ForkJoin (target a.op)) false) (grounds a b)).reason

-- what stands past the end of the records, where nobody looks
abbrev pub no_event : Event
no_event = record { thread = 0; op = Yield }

-- record i of the judged prefix, and the records after it
abbrev pub at : List Labelled → ℕ → Labelled
at xs i = get_or xs i (record { transaction = 0; event = no_event })

abbrev pub after : List Labelled → ℕ → List ℕ
after xs i = from (suc i) (length xs - suc i)

-- The records of the judged prefix, and an edge from transaction a to b
module _ (xs : List Labelled) (a b : ℕ) where
  -- whether record i, which stands before record j, makes the edge with it
  unfoldable pub makes_it : ℕ → ℕ → Bool
  makes_it i j = eqb (at xs i).transaction a && (eqb (at xs j).transaction b && conflict (at xs i).event (at xs j).event)

  -- the earliest first record: the first with which a later one makes the edge
  unfoldable pub earliest_first : ℕ
  earliest_first = first_of (λ i. some_of (makes_it i) (after xs i)) 0 (below (length xs))

  -- for a first record, the earliest second
  unfoldable pub earliest_second : ℕ → ℕ
  earliest_second i = first_of (makes_it i) 0 (after xs i)

  -- the two, and the reason
  unfoldable pub cause_of : Cause
  cause_of =
      let i : ℕ = earliest_first in
      let j : ℕ = earliest_second i in
      record { first = i; second = j; reason = reason_of (at xs i).event (at xs j).event }

-- The edge at place p of a cycle goes from its p-th transaction, from 0 on, to the next; the last one's back to T, which is the first
abbrev pub origin_of : List ℕ → ℕ → ℕ
origin_of cycle p = get_or cycle p 0

abbrev pub goal_of : List ℕ → ℕ → ℕ
goal_of cycle p = get_or cycle (suc p) (get_or cycle 0 0)

-- what makes the edge at place p of the cycle that is reported where record k ends the shortest prefix with one
unfoldable pub cause_at : List Event → ℕ → ℕ → Cause
cause_at es k p = let cycle : List ℕ = cycle_of es (suc k) in cause_of (labelled (take (suc k) es)) (origin_of cycle p) (goal_of cycle p)

-- What is told of a possible history: no such edge, if there is no violation or the place isn't below the cycle's length
unfoldable pub told_of : List Event → ℕ → Option Cause
told_of es p =
    elim (shortest es) [
      | zero ↦ None
      | suc k ↦ elim (ltb p (length (cycle_of es (suc k)))) [ true ↦ Some (cause_at es k p) | false ↦ None ]
    ]

-- of any recording: a refusal, as the checker's, goes first
unfoldable pub told : List ℕ → List ℕ → List ℕ → ℕ → Result (Option Cause) Refusal
told input out work p =
    let no : Refusal = refusal input out work in
    elim no.number [ zero ↦ Ok (told_of (events input) p) | suc n ↦ Err no ]

-- A cause by numbers
abbrev pub values_of : Cause → List ℕ
values_of c = c.first ∷ c.second ∷ name_of c.reason ∷ number_of c.reason ∷ []

-- Each case of what is told by numbers: its kind, and its values.
-- 0 because: first record, second record, reason, its number.  1 no such edge.  2 refused, as everywhere: number and record
pub record Numbers : Type 0 where
  pub kind : ℕ
  pub values : List ℕ

abbrev pub numbers : Result (Option Cause) Refusal → Numbers
numbers (Ok (Some c)) = record { kind = 0; values = values_of c }
numbers (Ok None) = record { kind = 1; values = [] }
numbers (Err r) = record { kind = (refused_as r).kind; values = (refused_as r).first ∷ (refused_as r).second ∷ [] }

-- The answer, the output and the work area at the end: the last two as after a plain judgement
pub record Asked : Type 0 where
  pub answer : Numbers
  pub out : List ℕ
  pub work : List ℕ

unfoldable pub asked : List ℕ → List ℕ → List ℕ → ℕ → Asked
asked input out work p =
    record { answer = numbers (told input out work p); out = (judged input out work).out; work = (judged input out work).work }

-- Everything above, opened at once, for a proof by computation: `unfolding opened`
unfoldable pub opened : Unit {0}
unfolding grounds reason_of makes_it earliest_first earliest_second cause_of cause_at told_of told asked
opened = tt
