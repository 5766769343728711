-- What the checker's private functions promise one another about the end of a judgement.
-- A reader of the public promises need not read this.
use Rattle.std.specs.Prelude.{ℕ, ◌*◌, ◌/◌, ◌≤◌, ◌≡◌, List, [], map, length, take, replicate, T, Result, Ok, Err}
use Rattle.record.specs.declared.Event.{Event}
use Rattle.record.specs.declared.Refusal.{Refusal as Given}
use Rattle.record.specs.Faults.{Refusal}
use Rattle.record.specs.Answers.{refusal_of}
use Rattle.record.specs.Record.{record_size, in_range}
use Rattle.replay.specs.Machine.{fresh, possible}
use Rattle.lists.specs.Lists.{all_of, over}
use Rattle.graph.specs.declared.Labelled.{Labelled}
use Rattle.graph.specs.Transactions.{transaction_limit, labelled, transactions, work_size}
use Rattle.graph.specs.Violation.{shortest}
use Rattle.graph.specs.Named.{named}
use Rattle.ancestors.specs.Ancestors.{Stands, Found}
use Rattle.ancestors.specs.Search.{Searched}
use Rattle.looking.specs.Refusals.{events}
use Rattle.checker.specs.declared.Answer.{Answer}
use Rattle.checker.specs.declared.Answer.TheVariants.{Cooperable, Violation, Refused}
use Rattle.checker.specs.Judged.{refusal}
use Rattle.checker.specs.Left.{records_left}
use Rattle.checker.specs.Verdict.{numbers, verdict}

-- A history that an engine is asked about
pub record Sound (es : List Event) : Type 0 where
  pub most : length es ≤ 1024
  pub few : transactions es ≤ transaction_limit
  pub can-be : T (possible fresh es)
  pub in-range : T (all_of in_range es)

-- What an engine finds is right: it is the shortest prefix with a cycle of every such history, from rows that stand for no edges
abbrev pub FindsShortest : (List ℕ → List Labelled → Searched) → Type 0
FindsShortest finds = (es : List Event) → Sound es → (work : List ℕ) → Stands (transactions es) work [] → Found es work (finds work (labelled es)).prefix (finds work (labelled es)).rows

-- the refusal that looking gives; number 0 where it gives none
abbrev pub refused_in : Result ℕ Given → Refusal
refused_in (Ok n) = record { number = 0; place = 0 }
refused_in (Err r) = refusal_of r

-- What is known of a recording that isn't refused, after looking: how many records it has, what the array holds of them, and how many transactions
pub record Whole (input out work : List ℕ) (xs : List Labelled) (n : ℕ) : Type 0 where
  pub size : length input ≡ record_size * (length input / record_size)
  pub are : take (length input / record_size) xs ≡ labelled (events input)
  pub sound : Sound (events input)
  pub counted : n ≡ transactions (events input)
  pub long : work_size ≤ length work
  pub out-room : length input ≤ length out

-- What looking answers and leaves, with the sizes tried before
pub record LookedAt (input out work : List ℕ) (old : List Labelled) (r : Result ℕ Given) (xs : List Labelled) : Type 0 where
  pub refusal_is : refused_in r ≡ refusal input out work
  pub records-are : xs ≡ records_left input out work old
  pub whole : (n : ℕ) → r ≡ Ok n → Whole input out work xs n

-- the events of records
abbrev pub history : List Labelled → List Event
history xs = map (λ x. x.event) xs

-- The records of a history that isn't refused, searched: the shortest prefix with a cycle and the rows; and room for what is to be written
pub record Ready (xs : List Labelled) (n prefix : ℕ) (work out : List ℕ) : Type 0 where
  pub are : xs ≡ labelled (history xs)
  pub sound : Sound (history xs)
  pub counted : n ≡ transactions (history xs)
  pub found : Found (history xs) work prefix work
  pub long : work_size ≤ length work
  pub out-room : record_size * length xs ≤ length out

-- Its named transactions
pub record Named (xs : List Labelled) (front : List ℕ) (prefix : ℕ) (out : List ℕ) : Type 0 where
  pub are : xs ≡ labelled (history xs)
  pub sound : Sound (history xs)
  pub first : prefix ≡ shortest (history xs)
  pub front-is : front ≡ named (history xs) (shortest (history xs))
  pub out-room : record_size * length xs ≤ length out

-- how many transactions an answer names
abbrev pub named_in : Answer → ℕ
named_in (Cooperable records transactions) = transactions
named_in (Violation place cycle) = cycle
named_in (Refused r) = 0

-- The answer and the output of a possible history
pub record Written (es : List Event) (out : List ℕ) (r : Answer) (out' : List ℕ) : Type 0 where
  pub answer : numbers r ≡ (verdict es).answer
  pub written : out' ≡ over (verdict es).written out

-- and the work area and the order at the end
pub record Concluded (es : List Event) (out work order : List ℕ) (r : Answer) (out' work' order' : List ℕ) : Type 0 where
  pub written : Written es out r out'
  pub cleared : work' ≡ over (replicate work_size 0) work
  pub all_named : order' ≡ over (named es (shortest es)) order
