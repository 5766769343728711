-- What is told of edges, as one table, proved of the definitions by computing them: P2, P3, P6 and P9 of document 01, and cases where several
-- pairs or several reasons make one edge.
use Rattle.std.specs.Prelude.{ℕ, ◌≡◌, refl, List, [], ◌∷◌, map, length, replicate, Ok}
use Rattle.record.specs.declared.Event.{Event}
use Rattle.record.specs.declared.Op.{Op}
use Rattle.record.specs.declared.Op.TheVariants.{Read, Write, Acquire, Release, Fork, Join, Yield}
use Rattle.record.specs.Faults as Faults
use Rattle.record.specs.Record as Record
use Rattle.lists.specs.Lists as Lists
use Rattle.lists.specs.Lists.{below}
use Rattle.trace.specs.Paths as Paths
use Rattle.graph.specs.Conflict as Conflict
use Rattle.graph.specs.Transactions as Transactions
use Rattle.graph.specs.Edges as Edges
use Rattle.graph.specs.Violation as Violation
use Rattle.looking.specs.Refusals as Refusals
use Rattle.checker.specs.Judged as Whole
use Rattle.reasons.specs.Why as Why
use Rattle.reasons.specs.Why.{Numbers, numbers, told_of, asked}

abbrev by : ℕ → Op → Event
by t o = record { thread = t; op = o }

-- the two records, the reason (0 thread, 1 variable, 2 lock, 3 fork/join) and its number; no such edge; refused
abbrev because : ℕ → ℕ → ℕ → ℕ → Numbers
because i j r n = record { kind = 0; values = i ∷ j ∷ r ∷ n ∷ [] }

abbrev none : Numbers
none = record { kind = 1; values = [] }

abbrev refused : ℕ → ℕ → Numbers
refused n k = record { kind = 2; values = n ∷ k ∷ [] }

-- A row: the events, and what is told of places 0, 1, ..
record Example : Type 0 where
  events : List Event
  told : List Numbers

abbrev example : List Event → List Numbers → Example
example es l = record { events = es; told = l }

abbrev table : List Example
table =
    -- P2
    example (by 0 (Write 3 5) ∷ []) (none ∷ none ∷ [])
    -- P3
    ∷ example (by 0 (Fork 1) ∷ by 0 (Read 0 0) ∷ by 1 (Write 0 1) ∷ by 0 (Write 0 1) ∷ [])
    (because 0 2 3 1 ∷ because 2 3 1 0 ∷ none ∷ [])
    -- P6: the first record of the second edge is the acquire, and not the release
    ∷ example (by 0 (Fork 1) ∷ by 0 (Acquire 0) ∷ by 0 (Release 0) ∷ by 1 (Acquire 0) ∷ by 1 (Release 0) ∷ by 0 (Acquire 0) ∷ [])
    (because 0 3 3 1 ∷ because 3 5 2 0 ∷ none ∷ [])
    -- P9
    ∷ example
    (by 0 (Fork 1) ∷ by 0 (Fork 2) ∷ by 0 Yield ∷ by 0 (Write 0 1) ∷ by 1 (Read 0 1) ∷ by 1 (Write 1 1) ∷ by 2 (Read 1 1) ∷ by 2 (Write 2 1) ∷ by 0 (Read 2 1) ∷ [])
    (because 3 4 1 0 ∷ because 5 6 1 1 ∷ because 7 8 1 2 ∷ none ∷ [])
    -- the earliest first record, 2, has its second at 5; the next one has its own before that, at 4
    ∷ example
    (by 0 (Fork 1) ∷ by 0 Yield ∷ by 0 (Write 0 1) ∷ by 0 (Write 1 1) ∷ by 1 (Read 1 1) ∷ by 1 (Read 0 1) ∷ by 1 (Write 2 1) ∷ by 0 (Read 2 1) ∷ [])
    (because 2 5 1 0 ∷ because 6 7 1 2 ∷ none ∷ [])
    -- same thread and same variable: records 3 and 5
    ∷ example
    (by 0 (Fork 1) ∷ by 0 Yield ∷ by 1 (Write 0 1) ∷ by 0 (Write 0 2) ∷ by 0 Yield ∷ by 0 (Write 0 3) ∷ by 0 (Write 1 3) ∷ by 1 (Read 1 3) ∷ [])
    (because 2 3 1 0 ∷ because 3 5 0 0 ∷ because 6 7 1 1 ∷ none ∷ [])
    -- each forks or joins the other's thread: records 3 and 5
    ∷ example
    (by 0 (Fork 2) ∷ by 0 Yield ∷ by 2 (Write 0 1) ∷ by 0 (Fork 1) ∷ by 0 (Read 0 1) ∷ by 1 (Join 0) ∷ by 1 (Write 1 1) ∷ by 2 (Read 1 1) ∷ [])
    (because 2 4 1 0 ∷ because 3 5 3 1 ∷ because 6 7 1 1 ∷ none ∷ [])
    ∷ []

-- the definitions give what a row says
abbrev Right : Example → Type 0
Right x = map (λ p. numbers (Ok (told_of x.events p))) (below (length x.told)) ≡ x.told

abbrev All : (Example → Type 0) → List Example → Type 0
All P [] = Unit {0}
All P (x ∷ xs) = P x × All P xs

pub examples : All Right table
unfolding Record.opened Lists.opened Paths.opened Conflict.opened Transactions.opened Edges.opened Violation.opened Why.opened
examples = (refl, (refl, (refl, (refl, (refl, (refl, (refl, tt)))))))

-- a refusal goes first: 7 bytes
pub refused-first : asked (replicate 7 0) [] [] 0 ≡ record { answer = refused 1 0; out = []; work = [] }
unfolding Faults.opened Lists.opened Refusals.opened Whole.opened Why.opened
refused-first = refl
