-- The cells by their keys: which cells an event asks, which hold its transaction from then on, and what is then in each.
use Prim.Native.Nat.{ℕ, zero, suc, ◌+◌, ◌*◌, ◌<◌, ◌≤◌}
use native.Mathlib.Omega.{arith}
use mathlib.Core.Path.{◌≡◌, refl, sym, ap, ap₂, ◌∙◌}
use mathlib.Core.Bool.{Bool, true, false, not, cond, ◌&&◌, ◌||◌, or-false, and-false}
use mathlib.Core.List.{List, [], ◌∷◌, map}
use borrow.Author.Tests.{eq-eqb, ne_eqb}
use lib.ListN.{get_or, set, length, length-set, length-replicate}
use lib.Seq.{get_or-set_same, get_or-set_other}
use lib.Dec.{T, eqb, leb, ltb, eqb→eq, leb→le, le→leb, ltb→lt, lt→ltb}
use Rattle.lists.proofs.Places.{zeros-at}
use Rattle.record.specs.declared.Event.{Event}
use Rattle.record.specs.declared.Op.{Op}
use Rattle.record.specs.declared.Op.TheVariants.{Read, Write, Acquire, Release, Prewait, Postwait, Notify, Fork, Join, Yield}
use Rattle.record.specs.Record.{kind, target, target_limit}
use Rattle.lists.specs.Lists.{from}
use Rattle.lists.proofs.Tests.{by-same, T_of, or_cases, or_left, or_right, and_left, and_right, and_both, same_test}
use Rattle.graph.specs.Conflict.{accesses, writes, locks, forks, joins}
use Rattle.second.specs.declared.Cells.{Cells}
use Rattle.second.specs.Cells.{Key, cell, put, put_all, idle, asked, asks, left, leaves, stored}
use Rattle.second.proofs.Orderly.{ranged, of-thread, of-target}

abbrev pub same_key : Key → Key → Bool
same_key (Key.lock m) (Key.lock n) = eqb m n
same_key (Key.lock m) (Key.thread n) = false
same_key (Key.lock m) (Key.writer n) = false
same_key (Key.lock m) (Key.reader n u) = false
same_key (Key.thread m) (Key.lock n) = false
same_key (Key.thread m) (Key.thread n) = eqb m n
same_key (Key.thread m) (Key.writer n) = false
same_key (Key.thread m) (Key.reader n u) = false
same_key (Key.writer m) (Key.lock n) = false
same_key (Key.writer m) (Key.thread n) = false
same_key (Key.writer m) (Key.writer n) = eqb m n
same_key (Key.writer m) (Key.reader n u) = false
same_key (Key.reader m t) (Key.lock n) = false
same_key (Key.reader m t) (Key.thread n) = false
same_key (Key.reader m t) (Key.writer n) = false
same_key (Key.reader m t) (Key.reader n u) = eqb m n && eqb t u

abbrev pub has_key : Key → List Key → Bool
has_key k [] = false
has_key k (j ∷ js) = same_key k j || has_key k js

-- ---- in words: which cells an event asks, and which hold its transaction from then on

abbrev pub asks_at : Event → Key → Bool
asks_at e (Key.lock m) = locks e.op && eqb m (target e.op)
asks_at e (Key.thread u) = eqb u e.thread || (joins e.op && eqb u (target e.op))
asks_at e (Key.writer x) = accesses e.op && eqb x (target e.op)
asks_at e (Key.reader x u) = writes e.op && (eqb x (target e.op) && leb u 15)

abbrev pub leaves_at : Event → Key → Bool
leaves_at e (Key.lock m) = locks e.op && eqb m (target e.op)
leaves_at e (Key.thread u) = eqb u e.thread || (forks e.op && eqb u (target e.op))
leaves_at e (Key.writer x) = writes e.op && eqb x (target e.op)
leaves_at e (Key.reader x u) = (accesses e.op && not (writes e.op)) && (eqb x (target e.op) && eqb u e.thread)

-- ten cases as one
each-op : (P : Op → Type 0) → ((x v : ℕ) → P (Read x v)) → ((x v : ℕ) → P (Write x v)) → ((m : ℕ) → P (Acquire m)) → ((m : ℕ) → P (Release m)) → ((m : ℕ) → P (Prewait m))
    → ((m : ℕ) → P (Postwait m)) → ((m : ℕ) → P (Notify m)) → ((u : ℕ) → P (Fork u)) → ((u : ℕ) → P (Join u)) → P Yield → (o : Op) → P o
each-op P a b c d e f g h i j (Read x v) = a x v
each-op P a b c d e f g h i j (Write x v) = b x v
each-op P a b c d e f g h i j (Acquire m) = c m
each-op P a b c d e f g h i j (Release m) = d m
each-op P a b c d e f g h i j (Prewait m) = e m
each-op P a b c d e f g h i j (Postwait m) = f m
each-op P a b c d e f g h i j (Notify m) = g m
each-op P a b c d e f g h i j (Fork u) = h u
each-op P a b c d e f g h i j (Join u) = i u
each-op P a b c d e f g h i j Yield = j

left-lock : (t m : ℕ) (o : Op) → has_key (Key.lock m) (left t o) ≡ (locks o && eqb m (target o))
unfolding left locks
left-lock t m = each-op (λ o. has_key (Key.lock m) (left t o) ≡ (locks o && eqb m (target o)))
    (λ x v. refl) (λ x v. refl) (λ x. or-false (eqb m x)) (λ x. or-false (eqb m x)) (λ x. or-false (eqb m x)) (λ x. or-false (eqb m x)) (λ x. or-false (eqb m x)) (λ x. refl) (λ x. refl) refl

asked-lock : (m : ℕ) (o : Op) → has_key (Key.lock m) (asked o) ≡ (locks o && eqb m (target o))
unfolding asked locks from
asked-lock m = each-op (λ o. has_key (Key.lock m) (asked o) ≡ (locks o && eqb m (target o)))
    (λ x v. refl) (λ x v. refl) (λ x. or-false (eqb m x)) (λ x. or-false (eqb m x)) (λ x. or-false (eqb m x)) (λ x. or-false (eqb m x)) (λ x. or-false (eqb m x)) (λ x. refl) (λ x. refl) refl

left-thread : (t u : ℕ) (o : Op) → has_key (Key.thread u) (left t o) ≡ (forks o && eqb u (target o))
unfolding left forks
left-thread t u = each-op (λ o. has_key (Key.thread u) (left t o) ≡ (forks o && eqb u (target o)))
    (λ x v. refl) (λ x v. refl) (λ x. refl) (λ x. refl) (λ x. refl) (λ x. refl) (λ x. refl) (λ x. or-false (eqb u x)) (λ x. refl) refl

asked-thread : (u : ℕ) (o : Op) → has_key (Key.thread u) (asked o) ≡ (joins o && eqb u (target o))
unfolding asked joins from
asked-thread u = each-op (λ o. has_key (Key.thread u) (asked o) ≡ (joins o && eqb u (target o)))
    (λ x v. refl) (λ x v. refl) (λ x. refl) (λ x. refl) (λ x. refl) (λ x. refl) (λ x. refl) (λ x. refl) (λ x. or-false (eqb u x)) refl

left-writer : (t y : ℕ) (o : Op) → has_key (Key.writer y) (left t o) ≡ (writes o && eqb y (target o))
unfolding left writes
left-writer t y = each-op (λ o. has_key (Key.writer y) (left t o) ≡ (writes o && eqb y (target o)))
    (λ x v. refl) (λ x v. or-false (eqb y x)) (λ x. refl) (λ x. refl) (λ x. refl) (λ x. refl) (λ x. refl) (λ x. refl) (λ x. refl) refl

asked-writer : (y : ℕ) (o : Op) → has_key (Key.writer y) (asked o) ≡ (accesses o && eqb y (target o))
unfolding asked accesses from
asked-writer y = each-op (λ o. has_key (Key.writer y) (asked o) ≡ (accesses o && eqb y (target o)))
    (λ x v. or-false (eqb y x)) (λ x v. or-false (eqb y x)) (λ x. refl) (λ x. refl) (λ x. refl) (λ x. refl) (λ x. refl) (λ x. refl) (λ x. refl) refl

left-reader : (t y u : ℕ) (o : Op) → has_key (Key.reader y u) (left t o) ≡ ((accesses o && not (writes o)) && (eqb y (target o) && eqb u t))
unfolding left accesses writes
left-reader t y u = each-op (λ o. has_key (Key.reader y u) (left t o) ≡ ((accesses o && not (writes o)) && (eqb y (target o) && eqb u t)))
    (λ x v. or-false (eqb y x && eqb u t)) (λ x v. refl) (λ x. refl) (λ x. refl) (λ x. refl) (λ x. refl) (λ x. refl) (λ x. refl) (λ x. refl) refl

-- the readers of a variable from thread a on
readers-of : (x y u a n : ℕ) → has_key (Key.reader y u) (map (Key.reader x) (from a n)) ≡ (eqb y x && (leb a u && ltb u (a + n)))
unfolding from
readers-of x y u a zero = sym (ap (λ b. eqb y x && b) (same_test (leb a u && ltb u (a + 0)) false
    (λ t. absurd (go (leb→le a u (and_left (leb a u) (ltb u (a + 0)) t)) (ltb→lt u (a + 0) (and_right (leb a u) (ltb u (a + 0)) t)))) (λ t. absurd t)) ∙ and-false (eqb y x))
  where
    go : a ≤ u → u < a + 0 → ⊥
    go p q = omega arith
readers-of x y u a (suc n) =
    ap (λ b. (eqb y x && eqb u a) || b) (readers-of x y u (suc a) n)
    ∙ pull (eqb y x) (eqb u a) (leb (suc a) u && ltb u (suc a + n)) (leb a u && ltb u (a + suc n)) split
  where
    pull : (p q r s : Bool) → (q || r) ≡ s → ((p && q) || (p && r)) ≡ (p && s)
    pull true q r s e = e
    pull false q r s e = refl

    inside : a ≤ u → u < a + suc n → T (leb a u && ltb u (a + suc n))
    inside p q = and_both (leb a u) (ltb u (a + suc n)) (le→leb a u p) (lt→ltb u (a + suc n) q)

    split : (eqb u a || (leb (suc a) u && ltb u (suc a + n))) ≡ (leb a u && ltb u (a + suc n))
    split = same_test (eqb u a || (leb (suc a) u && ltb u (suc a + n))) (leb a u && ltb u (a + suc n))
        (λ t. or_cases (eqb u a) (leb (suc a) u && ltb u (suc a + n)) t
        (λ e. let q : u ≡ a = eqb→eq u a e in inside (omega arith) (omega arith))
        (λ e. let p : suc a ≤ u = leb→le (suc a) u (and_left (leb (suc a) u) (ltb u (suc a + n)) e) in
        let q : u < suc a + n = ltb→lt u (suc a + n) (and_right (leb (suc a) u) (ltb u (suc a + n)) e) in
        inside (omega arith) (omega arith)))
        (λ t. let p : a ≤ u = leb→le a u (and_left (leb a u) (ltb u (a + suc n)) t) in
        let q : u < a + suc n = ltb→lt u (a + suc n) (and_right (leb a u) (ltb u (a + suc n)) t) in
        by-same u a
        (λ e. or_left (eqb u a) (leb (suc a) u && ltb u (suc a + n)) (T_of (eq-eqb u a e)))
        (λ ne. or_right (eqb u a) (leb (suc a) u && ltb u (suc a + n))
        (and_both (leb (suc a) u) (ltb u (suc a + n)) (le→leb (suc a) u (omega arith)) (lt→ltb u (suc a + n) (omega arith)))))

asked-reader : (y u : ℕ) (o : Op) → has_key (Key.reader y u) (asked o) ≡ (writes o && (eqb y (target o) && leb u 15))
unfolding asked writes
asked-reader y u = each-op (λ o. has_key (Key.reader y u) (asked o) ≡ (writes o && (eqb y (target o) && leb u 15)))
    (λ x v. refl) (λ x v. readers-of x y u 0 16 ∙ ap (λ b. eqb y x && b) below-16) (λ x. refl) (λ x. refl) (λ x. refl) (λ x. refl) (λ x. refl) (λ x. refl) (λ x. refl) refl
  where
    below-16 : (leb 0 u && ltb u (0 + 16)) ≡ leb u 15
    below-16 = same_test (leb 0 u && ltb u (0 + 16)) (leb u 15)
        (λ t. let h : u < 0 + 16 = ltb→lt u (0 + 16) (and_right (leb 0 u) (ltb u (0 + 16)) t) in le→leb u 15 (omega arith))
        (λ t. let h : u ≤ 15 = leb→le u 15 t in and_both (leb 0 u) (ltb u (0 + 16)) (le→leb 0 u (omega arith)) (lt→ltb u (0 + 16) (omega arith)))

pub leaves-is : (e : Event) (k : Key) → has_key k (leaves e) ≡ leaves_at e k
leaves-is e (Key.lock m) = left-lock e.thread m e.op
leaves-is e (Key.thread u) = ap (λ b. eqb u e.thread || b) (left-thread e.thread u e.op)
leaves-is e (Key.writer x) = left-writer e.thread x e.op
leaves-is e (Key.reader x u) = left-reader e.thread x u e.op

pub asks-is : (e : Event) (k : Key) → has_key k (asks e) ≡ asks_at e k
asks-is e (Key.lock m) = asked-lock m e.op
asks-is e (Key.thread u) = ap (λ b. eqb u e.thread || b) (asked-thread u e.op)
asks-is e (Key.writer x) = asked-writer x e.op
asks-is e (Key.reader x u) = asked-reader x u e.op

-- ---- what is in a cell after a store

pub record Sized (s : Cells) : Type 0 where
  pub of-locks : length s.locks ≡ 32
  pub of-threads : length s.threads ≡ 16
  pub of-writers : length s.writers ≡ 256
  pub of-readers : length s.readers ≡ 4096

-- a cell that there is
abbrev pub inside : Key → Bool
inside (Key.lock m) = leb m 31
inside (Key.thread t) = leb t 15
inside (Key.writer x) = leb x 255
inside (Key.reader x t) = leb x 255 && leb t 15

pub sized-idle : Sized idle
unfolding idle
sized-idle = record {
  of-locks = length-replicate {A = ℕ} 32 0;
  of-threads = length-replicate {A = ℕ} 16 0;
  of-writers = length-replicate {A = ℕ} 256 0;
  of-readers = length-replicate {A = ℕ} 4096 0;
}

sized-put : (s : Cells) (k : Key) (v : ℕ) → Sized s → Sized (put s k v)
sized-put s (Key.lock m) v z = record { of-locks = length-set s.locks m v ∙ z.of-locks; of-threads = z.of-threads; of-writers = z.of-writers; of-readers = z.of-readers }
sized-put s (Key.thread t) v z = record { of-locks = z.of-locks; of-threads = length-set s.threads t v ∙ z.of-threads; of-writers = z.of-writers; of-readers = z.of-readers }
sized-put s (Key.writer x) v z = record { of-locks = z.of-locks; of-threads = z.of-threads; of-writers = length-set s.writers x v ∙ z.of-writers; of-readers = z.of-readers }
sized-put s (Key.reader x t) v z = record { of-locks = z.of-locks; of-threads = z.of-threads; of-writers = z.of-writers; of-readers = length-set s.readers (x * 16 + t) v ∙ z.of-readers }

sized-all : (s : Cells) (ks : List Key) (v : ℕ) → Sized s → Sized (put_all s ks v)
sized-all s [] v z = z
sized-all s (k ∷ ks) v z = sized-all (put s k v) ks v (sized-put s k v z)

set_at : (l : List ℕ) (i j v n : ℕ) → length l ≡ n → j < n → get_or (set l i v) j 0 ≡ cond (eqb j i) v (get_or l j 0)
set_at l i j v n z h = by-same j i
    (λ q. ap (λ k. get_or (set l i v) k 0) q ∙ get_or-set_same l i v 0 (omega arith) ∙ sym (ap (λ b. cond b v (get_or l j 0)) (eq-eqb j i q)))
    (λ ne. get_or-set_other l i j v 0 ne ∙ sym (ap (λ b. cond b v (get_or l j 0)) (ne_eqb j i ne)))

-- places of the readers
place : (x t y u : ℕ) → T (leb t 15) → T (leb u 15) → eqb (x * 16 + t) (y * 16 + u) ≡ (eqb x y && eqb t u)
place x t y u ht hu =
    let a : t ≤ 15 = leb→le t 15 ht in
    let b : u ≤ 15 = leb→le u 15 hu in
    same_test (eqb (x * 16 + t) (y * 16 + u)) (eqb x y && eqb t u)
    (λ e. let q : x * 16 + t ≡ y * 16 + u = eqb→eq (x * 16 + t) (y * 16 + u) e in
    and_both (eqb x y) (eqb t u) (T_of (eq-eqb x y (omega arith))) (T_of (eq-eqb t u (omega arith))))
    (λ e. let q1 : x ≡ y = eqb→eq x y (and_left (eqb x y) (eqb t u) e) in
    let q2 : t ≡ u = eqb→eq t u (and_right (eqb x y) (eqb t u) e) in
    T_of (eq-eqb (x * 16 + t) (y * 16 + u) (ap₂ (λ m n. m * 16 + n) q1 q2)))

cell-put : (s : Cells) (j k : Key) (v : ℕ) → Sized s → T (inside j) → T (inside k) → cell (put s j v) k ≡ cond (same_key k j) v (cell s k)
cell-put s (Key.lock m) (Key.lock n) v z hj hk = set_at s.locks m n v 32 z.of-locks (omega (arith, leb→le n 31 hk))
cell-put s (Key.lock m) (Key.thread n) v z hj hk = refl
cell-put s (Key.lock m) (Key.writer n) v z hj hk = refl
cell-put s (Key.lock m) (Key.reader n u) v z hj hk = refl
cell-put s (Key.thread m) (Key.lock n) v z hj hk = refl
cell-put s (Key.thread m) (Key.thread n) v z hj hk = set_at s.threads m n v 16 z.of-threads (omega (arith, leb→le n 15 hk))
cell-put s (Key.thread m) (Key.writer n) v z hj hk = refl
cell-put s (Key.thread m) (Key.reader n u) v z hj hk = refl
cell-put s (Key.writer m) (Key.lock n) v z hj hk = refl
cell-put s (Key.writer m) (Key.thread n) v z hj hk = refl
cell-put s (Key.writer m) (Key.writer n) v z hj hk = set_at s.writers m n v 256 z.of-writers (omega (arith, leb→le n 255 hk))
cell-put s (Key.writer m) (Key.reader n u) v z hj hk = refl
cell-put s (Key.reader m t) (Key.lock n) v z hj hk = refl
cell-put s (Key.reader m t) (Key.thread n) v z hj hk = refl
cell-put s (Key.reader m t) (Key.writer n) v z hj hk = refl
cell-put s (Key.reader m t) (Key.reader n u) v z hj hk =
    set_at s.readers (m * 16 + t) (n * 16 + u) v 4096 z.of-readers
    (omega (arith, leb→le n 255 (and_left (leb n 255) (leb u 15) hk), leb→le u 15 (and_right (leb n 255) (leb u 15) hk)))
    ∙ ap (λ b. cond b v (get_or s.readers (n * 16 + u) 0)) (place n u m t (and_right (leb n 255) (leb u 15) hk) (and_right (leb m 255) (leb t 15) hj))

abbrev AllInside : List Key → Type 0
AllInside [] = Unit {0}
AllInside (k ∷ ks) = T (inside k) × AllInside ks

cell-all : (s : Cells) (ks : List Key) (k : Key) (v : ℕ) → Sized s → AllInside ks → T (inside k) → cell (put_all s ks v) k ≡ cond (has_key k ks) v (cell s k)
cell-all s [] k v z h hk = refl
cell-all s (j ∷ ks) k v z h hk =
    cell-all (put s j v) ks k v (sized-put s j v z) h.1 hk
    ∙ ap (λ c. cond (has_key k ks) v c) (cell-put s j k v z h.0 hk) ∙ merge (has_key k ks) (same_key k j)
  where
    merge : (a b : Bool) → cond a v (cond b v (cell s k)) ≡ cond (b || a) v (cell s k)
    merge true true = refl
    merge true false = refl
    merge false true = refl
    merge false false = refl

left-inside : (t : ℕ) (o : Op) → T (leb t 15) → T (leb (target o) (target_limit (kind o))) → AllInside (left t o)
unfolding left target_limit
left-inside t (Read x v) ht h = (and_both (leb x 255) (leb t 15) h ht, tt)
left-inside t (Write x v) ht h = (h, tt)
left-inside t (Acquire m) ht h = (h, tt)
left-inside t (Release m) ht h = (h, tt)
left-inside t (Prewait m) ht h = (h, tt)
left-inside t (Postwait m) ht h = (h, tt)
left-inside t (Notify m) ht h = (h, tt)
left-inside t (Fork u) ht h = (h, tt)
left-inside t (Join u) ht h = tt
left-inside t Yield ht h = tt

-- what a cell holds after an event of transaction a
pub cell-stored : (s : Cells) (a : ℕ) (e : Event) (k : Key) → Sized s → T (ranged e) → T (inside k) → cell (stored s a e) k ≡ cond (leaves_at e k) (suc a) (cell s k)
unfolding stored
cell-stored s a e k z r hk =
    cell-all s (leaves e) k (suc a) z (of-thread e r, left-inside e.thread e.op (of-thread e r) (of-target e r)) hk
    ∙ ap (λ b. cond b (suc a) (cell s k)) (leaves-is e k)

pub sized-stored : (s : Cells) (a : ℕ) (e : Event) → Sized s → Sized (stored s a e)
unfolding stored
sized-stored s a e z = sized-all s (leaves e) (suc a) z

-- at the start every cell is empty
pub cell-idle : (k : Key) → cell idle k ≡ 0
unfolding idle
cell-idle (Key.lock m) = zeros-at 32 m
cell-idle (Key.thread t) = zeros-at 16 t
cell-idle (Key.writer x) = zeros-at 256 x
cell-idle (Key.reader x t) = zeros-at 4096 (x * 16 + t)
