-- The graph looks at an operation's thread, kind and target and at nothing else: with others that are alike in these the transactions, the edges, the
-- shortest prefix with a cycle, the cycle and the serial order are the same.
use Prim.Native.Nat.{ℕ, zero, suc, pred}
use mathlib.Core.Path.{◌≡◌, refl, ap, ap₂, ◌∙◌, fun_ext}
use mathlib.Core.Bool.{Bool, true, false, cond, not, ◌&&◌, ◌||◌}
use mathlib.Core.List.{List, [], ◌∷◌, ◌++◌, map}
use lib.ListN.{get_or, set, length, take}
use lib.Dec.{eqb}
use Rattle.record.specs.declared.Event.{Event}
use Rattle.record.specs.declared.Op.{Op}
use Rattle.record.specs.declared.Op.TheVariants.{Read, Write, Acquire, Release, Prewait, Postwait, Notify, Fork, Join, Yield}
use Rattle.record.specs.Record.{kind, target, operation}
use Rattle.lists.specs.Lists.{first_of, from}
use Rattle.lists.proofs.Lists.{map-map}
use Rattle.trace.specs.Paths.{Edge, cyclic}
use Rattle.trace.specs.Order.{taking}
use Rattle.graph.specs.Conflict as Conflict
use Rattle.graph.specs.Conflict.{conflict}
use Rattle.graph.specs.declared.Labelled.{Labelled}
use Rattle.graph.specs.declared.Tally.{Tally}
use Rattle.graph.specs.Transactions.{none_yet, current_of, begins, belongs, ends, tallied, labelled, labelled_from, tally_from, transactions}
use Rattle.graph.specs.Edges.{makes, edges_of, edges}
use Rattle.graph.specs.Violation.{edges_up_to, cyclic_up_to, shortest, transaction_at, walk, cycle_of}
use Rattle.graph.specs.Serial.{thread_of, serial_order}
use Rattle.graph.specs.Named.{named}
use Rattle.graph.specs.Held.{labelled_as}
use Rattle.graph.proofs.Clash.{in_words}

-- an operation by its thread, kind and target alone: without its value
abbrev pub shown_of : Event → Event
shown_of e = record { thread = e.thread; op = operation (kind e.op) (target e.op) 0 }

-- two operations that the graph doesn't tell apart
pub record Alike (a b : Event) : Type 0 where
  pub thread : a.thread ≡ b.thread
  pub kind-is : kind a.op ≡ kind b.op
  pub target_is : target a.op ≡ target b.op

pub shown-alike : (e : Event) → Alike (shown_of e) e
unfolding operation
shown-alike e = record {
  thread = refl;
  kind-is = (same e.op).0;
  target_is = (same e.op).1;
}
  where
    same : (o : Op) → (kind (operation (kind o) (target o) 0) ≡ kind o) × (target (operation (kind o) (target o) 0) ≡ target o)
    same (Read x v) = (refl, refl)
    same (Write x v) = (refl, refl)
    same (Acquire m) = (refl, refl)
    same (Release m) = (refl, refl)
    same (Prewait m) = (refl, refl)
    same (Postwait m) = (refl, refl)
    same (Notify m) = (refl, refl)
    same (Fork u) = (refl, refl)
    same (Join u) = (refl, refl)
    same Yield = (refl, refl)

-- operations that are changed, each to one alike
module _ (f : Event → Event) (alike : (e : Event) → Alike (f e) e) where
  abbrev changed : Labelled → Labelled
  changed x = labelled_as x.transaction (f x.event)

  pub conflict-alike : (a b : Event) → conflict (f a) (f b) ≡ conflict a b
  unfolding Conflict.opened
  conflict-alike a b =
      let rule : ℕ → ℕ → ℕ → ℕ → ℕ → ℕ → Bool = λ k l t u x y. in_words k l (eqb t u) (eqb x u) (eqb y t) (eqb x y) in
      ap₂ (λ k l. rule k l (f a).thread (f b).thread (target (f a).op) (target (f b).op)) (alike a).kind-is (alike b).kind-is
      ∙ ap₂ (λ t u. rule (kind a.op) (kind b.op) t u (target (f a).op) (target (f b).op)) (alike a).thread (alike b).thread
      ∙ ap₂ (λ x y. rule (kind a.op) (kind b.op) a.thread b.thread x y) (alike a).target_is (alike b).target_is

  belongs-alike : (s : Tally) (e : Event) → belongs s (f e) ≡ belongs s e
  unfolding belongs begins Conflict.opened
  belongs-alike s e = ap₂ (λ k t. cond (eqb k 9 || eqb (current_of s t) 0) s.count (pred (current_of s t))) (alike e).kind-is (alike e).thread

  tallied-alike : (s : Tally) (e : Event) → tallied s (f e) ≡ tallied s e
  unfolding tallied belongs begins ends Conflict.opened
  tallied-alike s e =
      let begun : ℕ → ℕ → Bool = λ k t. eqb k 9 || eqb (current_of s t) 0 in
      ap₂ {C = Tally} (λ k t. record {
        current = set s.current t (cond (eqb k 10 || eqb k 5) 0 (suc (cond (begun k t) s.count (pred (current_of s t)))));
        count = cond (begun k t) (suc s.count) s.count;
      }) (alike e).kind-is (alike e).thread

  labelled-from : (s : Tally) (es : List Event) → labelled_from s (map f es) ≡ map changed (labelled_from s es)
  unfolding labelled_from
  labelled-from s [] = refl
  labelled-from s (e ∷ es) = ap₂ (λ t r. labelled_as t (f e) ∷ r) (belongs-alike s e) (ap (λ u. labelled_from u (map f es)) (tallied-alike s e) ∙ labelled-from (tallied s e) es)

  -- each operation has the same transaction
  pub labelled-alike : (es : List Event) → labelled (map f es) ≡ map changed (labelled es)
  labelled-alike es = labelled-from none_yet es

  tally-alike : (s : Tally) (es : List Event) → tally_from s (map f es) ≡ tally_from s es
  unfolding tally_from
  tally-alike s [] = refl
  tally-alike s (e ∷ es) = ap (λ u. tally_from u (map f es)) (tallied-alike s e) ∙ tally-alike (tallied s e) es

  pub transactions-alike : (es : List Event) → transactions (map f es) ≡ transactions es
  unfolding transactions
  transactions-alike es = ap (λ s. s.count) (tally-alike none_yet es)

  edges-of : (x : Labelled) (ys : List Labelled) → edges_of (changed x) (map changed ys) ≡ edges_of x ys
  unfolding edges_of makes
  edges-of x [] = refl
  edges-of x (y ∷ ys) =
      ap₂ {C = List Edge} (λ c r. elim (not (eqb x.transaction y.transaction) && c) as (λ _. List Edge) [ true ↦ (record { origin = x.transaction; goal = y.transaction }) ∷ r | false ↦ r ])
      (conflict-alike x.event y.event) (edges-of x ys)

  pub edges-changed : (xs : List Labelled) → edges (map changed xs) ≡ edges xs
  unfolding edges
  edges-changed [] = refl
  edges-changed (x ∷ xs) = ap₂ (λ a b. a ++ b) (edges-of x xs) (edges-changed xs)

  -- the same edges
  pub edges-alike : (es : List Event) → edges (labelled (map f es)) ≡ edges (labelled es)
  edges-alike es = ap edges (labelled-alike es) ∙ edges-changed (labelled es)

  take-map : (k : ℕ) (es : List Event) → take k (map f es) ≡ map f (take k es)
  take-map zero es = refl
  take-map (suc k) [] = refl
  take-map (suc k) (e ∷ es) = ap (λ r. f e ∷ r) (take-map k es)

  length-map : (es : List Event) → length (map f es) ≡ length es
  length-map [] = refl
  length-map (e ∷ es) = ap suc (length-map es)

  pub edges-up-to : (es : List Event) (k : ℕ) → edges_up_to (map f es) k ≡ edges_up_to es k
  unfolding edges_up_to
  edges-up-to es k = ap (λ l. edges (labelled l)) (take-map k es) ∙ edges-alike (take k es)

  -- the same prefix, if any, is the shortest with a cycle
  pub shortest-alike : (es : List Event) → shortest (map f es) ≡ shortest es
  unfolding shortest cyclic_up_to
  shortest-alike es = ap₂ (λ p n. first_of p 0 (from 1 n)) (fun_ext (λ k. ap cyclic (edges-up-to es k))) (length-map es)

  pub transaction-alike : (es : List Event) (k : ℕ) → transaction_at (map f es) k ≡ transaction_at es k
  unfolding transaction_at
  transaction-alike es k = ap (λ l. get_or l k 0) (ap (map (λ x. x.transaction)) (labelled-alike es) ∙ map-map (λ x. x.transaction) changed (labelled es))

  -- the same cycle
  pub cycle-alike : (es : List Event) (k : ℕ) → cycle_of (map f es) k ≡ cycle_of es k
  unfolding cycle_of
  cycle-alike es k =
      ap (λ n. walk n (edges_up_to (map f es) k) (transaction_at (map f es) (pred k)) n (transaction_at (map f es) (pred k))) (transactions-alike es)
      ∙ ap₂ (λ g t. walk (transactions es) g t (transactions es) t) (edges-up-to es k) (transaction-alike es (pred k))

  thread-changed : (xs : List Labelled) (a : ℕ) → thread_of (map changed xs) a ≡ thread_of xs a
  unfolding thread_of
  thread-changed [] a = refl
  thread-changed (x ∷ xs) a = ap₂ {C = ℕ} (λ t r. elim (eqb x.transaction a) as (λ _. ℕ) [ true ↦ t | false ↦ r ]) (alike x.event).thread (thread-changed xs a)

  pub thread-alike : (es : List Event) (a : ℕ) → thread_of (labelled (map f es)) a ≡ thread_of (labelled es) a
  thread-alike es a = ap (λ l. thread_of l a) (labelled-alike es) ∙ thread-changed (labelled es) a

  -- the same serial order
  pub order_alike : (es : List Event) → serial_order (map f es) ≡ serial_order es
  unfolding serial_order
  order_alike es =
      ap₂ (λ n g. taking n (thread_of (labelled (map f es))) g n []) (transactions-alike es) (edges-alike es)
      ∙ ap (λ t. taking (transactions es) t (edges (labelled es)) (transactions es) []) (fun_ext (thread-alike es))

  pub named-alike : (es : List Event) (p : ℕ) → named (map f es) p ≡ named es p
  unfolding named
  named-alike es zero = order_alike es
  named-alike es (suc k) = cycle-alike es (suc k)
