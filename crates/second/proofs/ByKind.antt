-- What the code's proofs cite: the cells that an operation asks and leaves, one after the other.
use Prim.Native.Nat.{ℕ, zero, suc, ◌+◌, ◌-◌, ◌*◌, ◌<◌, ◌≤◌}
use native.Mathlib.Omega.{arith}
use native.Mathlib.Numerals.{add-one}
use mathlib.Core.Path.{◌≡◌, refl, sym, ap, ap₂, ◌∙◌, subst}
use mathlib.Core.Bool.{Bool, true, false, not, cond, ◌||◌, or-false}
use mathlib.Core.Logic.{◌⊎◌, inl, inr}
use mathlib.Core.List.{List, [], ◌∷◌, ◌++◌, map}
use denote.Enum.Bare.{sameb}
use borrow.Rule.Slice.PartMut.{mid_of}
use lib.Dec.{eqb, leb}
use borrow.Author.Tests.{le-leb, lt-leb}
use Rattle.std.proofs.Common.{get_or-drop}
use lib.ListN.{length, get_or, set, take, drop, length-drop}
use lib.Seq.{set_comm, take-suc}
use Rattle.record.specs.declared.Event.{Event}
use Rattle.record.specs.declared.Op.{Op}
use Rattle.record.specs.declared.Op.TheVariants.{Read, Write, Acquire, Release, Prewait, Postwait, Notify, Fork, Join, Yield}
use Rattle.record.specs.Record.{kind, target}
use Rattle.std.specs.List.{list_any}
use Rattle.lists.specs.Lists.{some_of, from, below}
use Rattle.lists.proofs.Tests.{by-same}
use Rattle.lists.proofs.Lists.{some-cons, map-append, map-map, below_more}
use Rattle.rows.specs.Bits.{has}
use Rattle.graph.specs.declared.Labelled.{Labelled}
use Rattle.ancestors.specs.declared.Joined.{Joined}
use Rattle.ancestors.specs.declared.Joined.TheVariants.{Nothing, Source, Cycle}
use Rattle.ancestors.specs.contracts.Joined.{the_type}
use Rattle.ancestors.specs.Others.{others}
use Rattle.ancestors.specs.Sources.{leads, spread_to, more, code, Joins}
use Rattle.ancestors.specs.Search.{closes_cycle}
use Rattle.ancestors.proofs.Joining.{others-none, others-append, some-other, joins-none, joins-then, joins-meeting, joins-closed}
use Rattle.ancestors.proofs.Searching.{closes-under, closes-over, rows_under, rows-over, kept_under, kept-over}
use Rattle.second.specs.declared.Cells.{Cells}
use Rattle.second.specs.Cells.{cells_of, Key, cell, put, put_all, asked, asks, left, readers_of, sources, stored}
use Rattle.second.specs.Edges.{sources_of, stored_of}
use Rattle.second.specs.Taken.{closing, taken_as, taken, readers_in}

-- ---- what a kind number says

-- the cells that an operation of a kind at a target asks, and those that it leaves, in thread t
abbrev pub keys : ℕ → ℕ → ℕ → List Key × List Key
keys k x t =
    cond (leb k 1) (Key.writer x ∷ [], Key.reader x t ∷ [])
    (cond (leb k 2) (Key.writer x ∷ readers_of x, Key.writer x ∷ []) (cond (leb k 7) (Key.lock x ∷ [], Key.lock x ∷ []) (cond (leb k 8) ([], Key.thread x ∷ []) (cond (leb k 9) (Key.thread x ∷ [], []) ([], [])))))

pub keys-are : (t : ℕ) (o : Op) → ◌≡◌ {A = List Key × List Key} (asked o, left t o) (keys (kind o) (target o) t)
unfolding asked left
keys-are t (Read x v) = refl
keys-are t (Write x v) = refl
keys-are t (Acquire m) = refl
keys-are t (Release m) = refl
keys-are t (Prewait m) = refl
keys-are t (Postwait m) = refl
keys-are t (Notify m) = refl
keys-are t (Fork u) = refl
keys-are t (Join u) = refl
keys-are t Yield = refl

-- an operation, as code sees it: its kind's number and its target
module _ (t : ℕ) (o : Op) (k x : ℕ) (k-is : k ≡ kind o) (x-is : x ≡ target o) where
  of-kind : (p : List Key × List Key) → keys k x t ≡ p → (asked o ≡ p.0) × (left t o ≡ p.1)
  of-kind p h =
      let same = keys-are t o ∙ ap₂ (λ m y. keys m y t) (sym k-is) (sym x-is) ∙ h in
      (ap (λ (q : List Key × List Key). q.0) same, ap (λ (q : List Key × List Key). q.1) same)

  pub at-read : k ≤ 1 → (asked o ≡ Key.writer x ∷ []) × (left t o ≡ Key.reader x t ∷ [])
  at-read h = of-kind (Key.writer x ∷ [], Key.reader x t ∷ []) (rw (le-leb k 1 h) refl)

  pub at-write : k ≡ 2 → (asked o ≡ Key.writer x ∷ readers_of x) × (left t o ≡ Key.writer x ∷ [])
  at-write h = of-kind (Key.writer x ∷ readers_of x, Key.writer x ∷ []) (ap (λ m. keys m x t) h)

  pub at-lock : 3 ≤ k → k ≤ 7 → (asked o ≡ Key.lock x ∷ []) × (left t o ≡ Key.lock x ∷ [])
  at-lock g h = of-kind (Key.lock x ∷ [], Key.lock x ∷ []) (rw (lt-leb k 1 (omega arith), lt-leb k 2 (omega arith), le-leb k 7 h) refl)

  pub at-fork : k ≡ 8 → (asked o ≡ []) × (left t o ≡ Key.thread x ∷ [])
  at-fork h = of-kind ([], Key.thread x ∷ []) (ap (λ m. keys m x t) h)

  pub at-join : k ≡ 9 → (asked o ≡ Key.thread x ∷ []) × (left t o ≡ [])
  at-join h = of-kind (Key.thread x ∷ [], []) (ap (λ m. keys m x t) h)

  pub at-yield : 10 ≤ k → (asked o ≡ []) × (left t o ≡ [])
  at-yield h =
      of-kind ([], []) (rw (lt-leb k 1 (omega arith), lt-leb k 2 (omega arith), lt-leb k 7 (omega arith), lt-leb k 8 (omega arith), lt-leb k 9 (omega arith)) refl)

  -- where nothing is asked
  pub asks-none : k ≡ 8 ⊎ 10 ≤ k → asked o ≡ []
  asks-none (inl h) = (at-fork h).0
  asks-none (inr h) = (at-yield h).0

-- ---- what an operation leaves

-- a cell that is put again with the same number
set_both : (l : List ℕ) (i j v : ℕ) → set (set l i v) j v ≡ set (set l j v) i v
set_both l i j v = by-same i j (λ e. ap (λ k. set (set l i v) k v) (sym e) ∙ ap (λ k. set (set l k v) i v) e) (λ ne. set_comm l i j v v ne)

put_both : (s : Cells) (k : Key) (t v : ℕ) → put (put s k v) (Key.thread t) v ≡ put (put s (Key.thread t) v) k v
put_both s (Key.lock m) t v = refl
put_both s (Key.thread u) t v = ap (λ l. cells_of s.locks l s.writers s.readers) (set_both s.threads u t v)
put_both s (Key.writer x) t v = refl
put_both s (Key.reader x u) t v = refl

put_last : (s : Cells) (ks : List Key) (t v : ℕ) → put (put_all s ks v) (Key.thread t) v ≡ put_all (put s (Key.thread t) v) ks v
put_last s [] t v = refl
put_last s (k ∷ ks) t v = put_last (put s k v) ks t v ∙ ap (λ u. put_all u ks v) (put_both s k t v)

-- first the others, and then the thread's own
pub stored_is : (s : Cells) (a : ℕ) (e : Event) → put (put_all s (left e.thread e.op) (a + 1)) (Key.thread e.thread) (a + 1) ≡ stored s a e
unfolding stored
stored_is s a e = put_last s (left e.thread e.op) e.thread (a + 1) ∙ ap (λ n. put_all (put s (Key.thread e.thread) n) (left e.thread e.op) n) (add-one a)

-- ---- whether one is reached

pub leads_one : (p : ℕ → Bool) (c : ℕ) → p c ≡ some_of p (c ∷ [])
unfolding some_of
leads_one p c = sym (some-cons p c [] ∙ or-false (p c))

pub leads-true : (p : ℕ → Bool) (c : ℕ) (cs : List ℕ) → p c ≡ true → true ≡ some_of p (c ∷ cs)
leads-true p c cs e = sym (some-cons p c cs ∙ ap (λ b. b || some_of p cs) e)

pub leads-later : (p : ℕ → Bool) (c : ℕ) (cs : List ℕ) → p c ≡ false → some_of p cs ≡ some_of p (c ∷ cs)
leads-later p c cs e = sym (some-cons p c cs ∙ ap (λ b. b || some_of p cs) e)

-- as code says it
pub some-any : (p : ℕ → Bool) (cs : List ℕ) → list_any p cs ≡ some_of p cs
unfolding some_of
some-any p [] = refl
some-any p (c ∷ cs) = ap (λ b. p c || b) (some-any p cs) ∙ sym (some-cons p c cs)

-- first the thread's own, and then the others
pub closing-is : (s : Cells) (work : List ℕ) (a : ℕ) (e : Event) → closing s work a e ≡ some_of (leads work a) (map (cell s) (asks e))
unfolding closing sources
closing-is s work a e = some-other (λ b. has work b a) a (map (cell s) (asks e))

-- ---- rows joined, one cell after the other

pub joins-cells : (u v w : List ℕ) (a : ℕ) (cs ds : List ℕ) (p q r : ℕ) → Joins u a (others a cs) p v → Joins v a (others a ds) q w → r ≡ more p q → Joins u a (others a (cs ++ ds)) r w
joins-cells u v w a cs ds p q r f g h = subst (λ bs. Joins u a bs r w) (sym (others-append a cs ds)) (joins-then u v w a (others a cs) (others a ds) p q r f g h)

pub joins-nothing : (u : List ℕ) (a : ℕ) → Joins u a (others a []) 0 u
joins-nothing u a = subst (λ bs. Joins u a bs 0 u) (sym (others-none a)) (joins-none u a)

-- first the thread's own, and then the others
pub joins-asks : (s : Cells) (u v w : List ℕ) (a : ℕ) (e : Event) (p q r : ℕ) → Joins u a (others a (cell s (Key.thread e.thread) ∷ [])) p v
    → Joins v a (others a (map (cell s) (asked e.op))) q w → r ≡ more p q → Joins u a (sources s a e) r w
unfolding sources
joins-asks s u v w a e = joins-cells u v w a (cell s (Key.thread e.thread) ∷ []) (map (cell s) (asked e.op))

-- what was found, in numbers
pub is-cycle : (j : Joined) → sameb the_type j Cycle ≡ eqb (code j) 2
is-cycle Nothing = refl
is-cycle Source = refl
is-cycle Cycle = refl

pub is-nothing : (j : Joined) → sameb the_type j Nothing ≡ eqb (code j) 0
is-nothing Nothing = refl
is-nothing Source = refl
is-nothing Cycle = refl

-- ---- the last readers of a variable

-- one more
readers-more : (readers : List ℕ) (x t : ℕ) → readers_in readers x (suc t) ≡ readers_in readers x t ++ (get_or readers (x * 16 + t) 0 ∷ [])
readers-more readers x t =
    ap (map (λ u. get_or readers (x * 16 + u) 0)) (below_more t)
    ∙ map-append (λ u. get_or readers (x * 16 + u) 0) (below t) (t ∷ [])

-- they stand beside one another
readers_beside : (readers : List ℕ) (x n : ℕ) → x * 16 + n ≤ length readers → take n (drop (x * 16) readers) ≡ readers_in readers x n
unfolding from
readers_beside readers x zero h = refl
readers_beside readers x (suc n) h =
    take-suc (drop (x * 16) readers) n 0 (omega (arith, length-drop (x * 16) readers))
    ∙ ap₂ (λ l c. l ++ (c ∷ [])) (readers_beside readers x n (omega arith)) (get_or-drop (x * 16) readers n 0)
    ∙ sym (readers-more readers x n)

pub readers_are : (readers : List ℕ) (x : ℕ) → x < 256 → length readers ≡ 4096 → mid_of (x * 16) (x * 16 + 16 - x * 16) readers ≡ readers_in readers x 16
readers_are readers x in-x size =
    let e : x * 16 + 16 - x * 16 ≡ 16 = omega arith in
    ap (λ n. take n (drop (x * 16) readers)) e ∙ readers_beside readers x 16 (omega arith)

pub readers-asked : (s : Cells) (x : ℕ) → map (cell s) (readers_of x) ≡ readers_in s.readers x 16
readers-asked s x = map-map (cell s) (Key.reader x) (below 16)

-- ---- the whole record taken in

-- there is no row for its transaction
pub taken-over : (s : Cells) (work : List ℕ) (n : ℕ) (x : Labelled) → 512 ≤ x.transaction → taken_as s work ≡ taken s work n x.transaction x.event
unfolding taken
taken-over s work n x h = sym (ap₂ taken_as (kept-over stored_of s x h) (rows-over sources_of s work n x h))

pub closing-over : (s : Cells) (work : List ℕ) (x : Labelled) → 512 ≤ x.transaction → false ≡ closes_cycle sources_of s work x
closing-over s work x h = sym (closes-over sources_of s work 0 x h)

-- there is one, and all sources have come in
module _ (s : Cells) (work : List ℕ) (n : ℕ) (x : Labelled) (v : List ℕ) (r : ℕ) (h : x.transaction < 512) (j : Joins work x.transaction (sources_of s x) r v) where
  pub closing-under : eqb r 2 ≡ closes_cycle sources_of s work x
  closing-under = joins-meeting work x.transaction (sources_of s x) r v j ∙ sym (closes-under sources_of s work n x h)

  pub taken-under : (out : Cells) (w : List ℕ) → out ≡ stored_of s x → w ≡ cond (not (eqb r 0)) (spread_to n v x.transaction) v → taken_as out w ≡ taken s work n x.transaction x.event
  unfolding taken
  taken-under out w is k =
      ap₂ taken_as (is ∙ sym (kept_under stored_of s x h))
      (joins-closed work x.transaction (sources_of s x) r v j n w k ∙ sym (rows_under sources_of s work n x h))
