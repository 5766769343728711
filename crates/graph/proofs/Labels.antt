-- What swaps do to the numbers of transactions. A swap of two neighbours exchanges their labels, but for the numbers of two transactions that both begin
-- there. So the labels of a trace that swaps reach are the labels of the recording, carried along by swaps and renamed.
use Prim.Native.Nat.{ℕ, zero, suc, pred, ◌<◌, ◌≤◌}
use native.Mathlib.Omega.{arith}
use mathlib.Core.Path.{◌≡◌, refl, sym, ap, ap₂, ◌∙◌, subst}
use mathlib.Core.Logic.{◌≢◌}
use mathlib.Core.Bool.{Bool, true, false, not, cond, ◌||◌}
use mathlib.Core.List.{List, [], ◌∷◌, map}
use lib.ListN.{get_or, set, get_or-map}
use lib.Seq.{set_comm}
use lib.Dec.{T, T_not, eqb, eqb→eq, eqb_refl, eqb-suc-zero}
use Rattle.record.specs.declared.Event.{Event}
use Rattle.trace.specs.Swaps.{Swap, Swaps}
use Rattle.graph.specs.Conflict.{joins, conflict}
use Rattle.graph.specs.declared.Labelled.{Labelled}
use Rattle.graph.specs.declared.Tally.{Tally}
use Rattle.graph.specs.Transactions.{none_yet, current_of, begins, belongs, ends, tallied, labelled_from, labelled}
use Rattle.lists.proofs.Tests.{by, T_of, T-is}
use Rattle.lists.proofs.Lists.{map-map}
use Rattle.trace.proofs.Swaps.{swaps-lift}
use Rattle.graph.proofs.Clash.{conflict-own}
use Rattle.graph.proofs.Ends.{clash}
use Rattle.graph.proofs.Numbers.{Sane, sane-none, open_of, belongs-first, belongs-open, count-begun, count-unbegun, belongs-lt, count-rises, sane-tallied, current-other}
use Rattle.trace.specs.Swaps.Swap.{first, later}
use Rattle.trace.specs.Swaps.Swaps.{done, swap}

map-set : {A B : Type 0} (f : A → B) (l : List A) (i : ℕ) (v : A) → map f (set l i v) ≡ set (map f l) i (f v)
map-set f [] i v = refl
map-set f (x ∷ l) zero v = refl
map-set f (x ∷ l) (suc i) v = ap (λ r. f x ∷ r) (map-set f l i v)

-- a renaming of transactions, of a thread's code and of a labelled event
abbrev hat : (ℕ → ℕ) → ℕ → ℕ
hat π zero = zero
hat π (suc k) = suc (π k)

abbrev pub ev : Labelled → Event
ev x = x.event

abbrev pub rename : (ℕ → ℕ) → Labelled → Labelled
rename π x = record { transaction = π x.transaction; event = x.event }

record Renames (π : ℕ → ℕ) (s s' : Tally) : Type 0 where
  currents : s'.current ≡ map (hat π) s.current
  counts : s'.count ≡ s.count
  later_same : (k : ℕ) → s.count ≤ k → π k ≡ k

module _ (π : ℕ → ℕ) where
  current-hat : (s s' : Tally) → Renames π s s' → (t : ℕ) → current_of s' t ≡ hat π (current_of s t)
  current-hat s s' r t = ap (λ l. get_or l t 0) r.currents ∙ get_or-map (hat π) s.current t 0

  hat-zero : (k : ℕ) → eqb (hat π k) 0 ≡ eqb k 0
  hat-zero zero = refl
  hat-zero (suc k) = eqb-suc-zero (π k) ∙ sym (eqb-suc-zero k)

  hat-pred : (k : ℕ) → eqb k 0 ≡ false → pred (hat π k) ≡ π (pred k)
  hat-pred zero e = absurd (subst T e (eqb_refl 0))
  hat-pred (suc k) e = refl

  begins-same : (s s' : Tally) → Renames π s s' → (e : Event) → begins s' e ≡ begins s e
  unfolding begins
  begins-same s s' r e = ap (λ b. joins e.op || b) (ap (λ c. eqb c 0) (current-hat s s' r e.thread) ∙ hat-zero (current_of s e.thread))

  belongs-same : (s s' : Tally) → Renames π s s' → (e : Event) → belongs s' e ≡ π (belongs s e)
  unfolding belongs
  belongs-same s s' r e = by (begins s e)
      (λ b. ap (λ c. cond c s'.count (pred (current_of s' e.thread))) (begins-same s s' r e ∙ b) ∙ r.counts ∙ sym (r.later_same s.count (omega arith))
      ∙ sym (ap (λ c. π (cond c s.count (pred (current_of s e.thread)))) b))
      (λ b. ap (λ c. cond c s'.count (pred (current_of s' e.thread))) (begins-same s s' r e ∙ b)
      ∙ ap pred (current-hat s s' r e.thread) ∙ hat-pred (current_of s e.thread) (open_of s e b)
      ∙ sym (ap (λ c. π (cond c s.count (pred (current_of s e.thread)))) b))

  tallied-same : (s s' : Tally) → Renames π s s' → (e : Event) → Renames π (tallied s e) (tallied s' e)
  unfolding tallied
  tallied-same s s' r e = record {
    currents = ap₂ (λ l v. set l e.thread v) r.currents (by (ends e)
        (λ b. ap (λ c. cond c 0 (suc (belongs s' e))) b ∙ sym (ap (λ c. hat π (cond c 0 (suc (belongs s e)))) b))
        (λ b. ap (λ c. cond c 0 (suc (belongs s' e))) b ∙ ap suc (belongs-same s s' r e) ∙ sym (ap (λ c. hat π (cond c 0 (suc (belongs s e)))) b)))
        ∙ sym (map-set (hat π) s.current e.thread (cond (ends e) 0 (suc (belongs s e))));
    counts = ap₂ (λ b c. cond b (suc c) c) (begins-same s s' r e) r.counts;
    later_same = λ k h. r.later_same k (omega (arith, count-rises s e));
  }

  relabel : (s s' : Tally) → Renames π s s' → (es : List Event) → labelled_from s' es ≡ map (rename π) (labelled_from s es)
  unfolding labelled_from
  relabel s s' r [] = refl
  relabel s s' r (e ∷ es) = ap₂ (λ n l. record { transaction = n; event = e } ∷ l) (belongs-same s s' r e) (relabel (tallied s e) (tallied s' e) (tallied-same s s' r e) es)

-- ---- c and c + 1 exchanged

unfoldable τ : ℕ → ℕ → ℕ
τ c k = cond (eqb k c) (suc c) (cond (eqb k (suc c)) c k)

eqb_no : (m n : ℕ) → m ≢ n → eqb m n ≡ false
eqb_no m n d = by (eqb m n) (λ e. absurd (d (eqb→eq m n (T_of e)))) (λ e. e)

module _ (c : ℕ) where
  τ-left : τ c c ≡ suc c
  unfolding τ
  τ-left = ap (λ b. cond b (suc c) (cond (eqb c (suc c)) c c)) (T-is (eqb c c) (eqb_refl c))

  τ-right : τ c (suc c) ≡ c
  unfolding τ
  τ-right = ap (λ b. cond b (suc c) (cond (eqb (suc c) (suc c)) c (suc c))) (eqb_no (suc c) c (λ e. omega arith))
      ∙ ap (λ b. cond b c (suc c)) (T-is (eqb (suc c) (suc c)) (eqb_refl (suc c)))

  τ-other : (k : ℕ) → k ≢ c → k ≢ suc c → τ c k ≡ k
  unfolding τ
  τ-other k p q = ap (λ b. cond b (suc c) (cond (eqb k (suc c)) c k)) (eqb_no k c p) ∙ ap (λ b. cond b c k) (eqb_no k (suc c) q)

  τ-twice : (k : ℕ) → τ c (τ c k) ≡ k
  τ-twice k = by (eqb k c)
      (λ e. let q : k ≡ c = eqb→eq k c (T_of e) in ap (λ j. τ c (τ c j)) q ∙ ap (τ c) τ-left ∙ τ-right ∙ sym q)
      (λ e. by (eqb k (suc c))
      (λ f. let q : k ≡ suc c = eqb→eq k (suc c) (T_of f) in ap (λ j. τ c (τ c j)) q ∙ ap (τ c) τ-right ∙ τ-left ∙ sym q)
      (λ f. let o : τ c k ≡ k = τ-other k (λ q. subst T e (subst (λ j. T (eqb k j)) q (eqb_refl k))) (λ q. subst T f (subst (λ j. T (eqb k j)) q (eqb_refl k))) in ap (τ c) o ∙ o))

  τ-one-one : (j k : ℕ) → τ c j ≡ τ c k → j ≡ k
  τ-one-one j k e = sym (τ-twice j) ∙ ap (τ c) e ∙ τ-twice k

  hat-old : (l : List ℕ) → ((t : ℕ) → get_or l t 0 ≤ c) → map (hat (τ c)) l ≡ l
  hat-old [] h = refl
  hat-old (x ∷ l) h = ap₂ (λ y r. y ∷ r) (one x (h 0)) (hat-old l (λ t. h (suc t)))
    where
      one : (x : ℕ) → x ≤ c → hat (τ c) x ≡ x
      one zero h = refl
      one (suc x) h = ap suc (τ-other x (λ e. omega arith) (λ e. omega arith))

-- ---- what a swap does to the labels

-- the labels of a trace are xs, renamed, and numbers that were there before have kept their names
record Turned (s : Tally) (xs : List Labelled) (es : List Event) : Type 0 where
  π : ℕ → ℕ
  one-one : (j k : ℕ) → π j ≡ π k → j ≡ k
  old : (k : ℕ) → k < s.count → π k ≡ k
  turned : labelled_from s es ≡ map (rename π) xs

pub map-rename : (l : List Labelled) → map (rename (λ k. k)) l ≡ l
map-rename [] = refl
map-rename (x ∷ l) = ap (λ r. x ∷ r) (map-rename l)

module _ (s : Tally) (a b : Event) (apart : b.thread ≢ a.thread) where
  begins-other : begins (tallied s a) b ≡ begins s b
  unfolding begins
  begins-other = ap (λ c. joins b.op || eqb c 0) (current-other s a b.thread apart)

  belongs-begun : begins s b ≡ true → belongs (tallied s a) b ≡ (tallied s a).count
  belongs-begun e = belongs-first (tallied s a) b (begins-other ∙ e)

  -- b's label is the same behind a, unless both begin
  belongs-still : (begins s b ≡ false) → belongs (tallied s a) b ≡ belongs s b
  belongs-still e = belongs-open (tallied s a) b (begins-other ∙ e) ∙ ap pred (current-other s a b.thread apart) ∙ sym (belongs-open s b e)

  belongs-other : (begins s a ≡ false) → belongs (tallied s a) b ≡ belongs s b
  belongs-other e = by (begins s b)
      (λ f. belongs-begun f ∙ count-unbegun s a e ∙ sym (belongs-first s b f))
      (λ f. belongs-still f)

bump : (x y : Bool) (n : ℕ) → cond x (suc (cond y (suc n) n)) (cond y (suc n) n) ≡ cond y (suc (cond x (suc n) n)) (cond x (suc n) n)
bump true true n = refl
bump true false n = refl
bump false true n = refl
bump false false n = refl

abbrev tally : List ℕ → ℕ → Tally
tally l n = record { current = l; count = n }

abbrev label : ℕ → Event → Labelled
label n e = record { transaction = n; event = e }

module _ (s : Tally) (sane : Sane s) (a b : Event) (free : T (not (conflict a b))) where
  apart : b.thread ≢ a.thread
  apart e = T_not (conflict a b) free (conflict-own a b (sym e))

  apart' : a.thread ≢ b.thread
  apart' e = apart (sym e)

  counts_same : (tallied (tallied s b) a).count ≡ (tallied (tallied s a) b).count
  unfolding tallied
  counts_same =
      ap (λ c. cond c (suc (tallied s b).count) (tallied s b).count) (begins-other s b a apart')
      ∙ bump (begins s a) (begins s b) s.count
      ∙ sym (ap (λ c. cond c (suc (tallied s a).count) (tallied s a).count) (begins-other s a b apart))

  -- the labels, with those of a and b exchanged
  abbrev exchanged : List Event → List Labelled
  exchanged es = label (belongs (tallied s a) b) b ∷ (label (belongs s a) a ∷ labelled_from (tallied (tallied s a) b) es)

  -- where the labels of both are the same in either order, so is what follows
  same-either : belongs (tallied s a) b ≡ belongs s b → belongs (tallied s b) a ≡ belongs s a → (es : List Event) → Turned s (exchanged es) (b ∷ (a ∷ es))
  unfolding labelled_from tallied
  same-either eb ea es = record {
    π = λ k. k;
    one-one = λ j k q. q;
    old = λ k h. refl;
    turned =
        ap₂ (λ n l. label (belongs s b) b ∷ (label n a ∷ l)) ea (ap (λ t. labelled_from t es) states)
        ∙ ap (λ n. label n b ∷ (label (belongs s a) a ∷ labelled_from (tallied (tallied s a) b) es)) (sym eb)
        ∙ sym (map-rename (exchanged es));
  }
    where
      states : tallied (tallied s b) a ≡ tallied (tallied s a) b
      states = ap₂ tally
          (ap (λ n. set (set s.current b.thread (cond (ends b) 0 (suc (belongs s b)))) a.thread (cond (ends a) 0 (suc n))) ea
          ∙ set_comm s.current b.thread a.thread (cond (ends b) 0 (suc (belongs s b))) (cond (ends a) 0 (suc (belongs s a))) apart
          ∙ ap (λ n. set (set s.current a.thread (cond (ends a) 0 (suc (belongs s a)))) b.thread (cond (ends b) 0 (suc n))) (sym eb))
          counts_same

  -- where both begin, their two numbers are exchanged from there on
  module _ (ba : begins s a ≡ true) (bb : begins s b ≡ true) where
    first-a : belongs s a ≡ s.count
    first-a = belongs-first s a ba

    first-b : belongs s b ≡ s.count
    first-b = belongs-first s b bb

    second-b : belongs (tallied s a) b ≡ suc s.count
    second-b = belongs-begun s a b apart bb ∙ count-begun s a ba

    second-a : belongs (tallied s b) a ≡ suc s.count
    second-a = belongs-begun s b a apart' ba ∙ count-begun s b bb

    hat-cond : (x : Bool) (n m : ℕ) → τ s.count n ≡ m → hat (τ s.count) (cond x 0 (suc n)) ≡ cond x 0 (suc m)
    hat-cond true n m e = refl
    hat-cond false n m e = ap suc e

    states-renamed : Renames (τ s.count) (tallied (tallied s a) b) (tallied (tallied s b) a)
    unfolding tallied
    states-renamed = record {
      currents =
          set_comm s.current b.thread a.thread (cond (ends b) 0 (suc (belongs s b))) (cond (ends a) 0 (suc (belongs (tallied s b) a))) apart
          ∙ sym (map-set (hat (τ s.count)) (set s.current a.thread (cond (ends a) 0 (suc (belongs s a)))) b.thread (cond (ends b) 0 (suc (belongs (tallied s a) b)))
          ∙ ap₂ (λ l v. set l b.thread v)
          (map-set (hat (τ s.count)) s.current a.thread (cond (ends a) 0 (suc (belongs s a)))
          ∙ ap₂ (λ l v. set l a.thread v) (hat-old s.count s.current sane)
          (hat-cond (ends a) (belongs s a) (belongs (tallied s b) a) (ap (τ s.count) first-a ∙ τ-left s.count ∙ sym second-a)))
          (hat-cond (ends b) (belongs (tallied s a) b) (belongs s b) (ap (τ s.count) second-b ∙ τ-right s.count ∙ sym first-b)));
      counts = counts_same;
      later_same = λ k h. τ-other s.count k (λ e. omega (arith, both-count)) (λ e. omega (arith, both-count));
    }
      where
        both-count : (tallied (tallied s a) b).count ≡ suc (suc s.count)
        both-count = count-begun (tallied s a) b (begins-other s a b apart ∙ bb) ∙ ap suc (count-begun s a ba)

    both-turned : (es : List Event) → Turned s (exchanged es) (b ∷ (a ∷ es))
    unfolding labelled_from
    both-turned es = record {
      π = τ s.count;
      one-one = τ-one-one s.count;
      old = λ k h. τ-other s.count k (λ e. omega arith) (λ e. omega arith);
      turned =
          ap₂ (λ n l. label n b ∷ l) (first-b ∙ sym (τ-right s.count) ∙ ap (τ s.count) (sym second-b))
          (ap₂ (λ n l. label n a ∷ l) (second-a ∙ sym (τ-left s.count) ∙ ap (τ s.count) (sym first-a))
          (relabel (τ s.count) (tallied (tallied s a) b) (tallied (tallied s b) a) states-renamed es));
    }

  head-turned : (es : List Event) → Turned s (exchanged es) (b ∷ (a ∷ es))
  head-turned es = by (begins s a)
      (λ ea. by (begins s b)
      (λ eb. both-turned ea eb es)
      (λ eb. same-either (belongs-still s a b apart eb) (belongs-other s b a apart' eb) es))
      (λ ea. same-either (belongs-other s a b apart ea) (belongs-still s b a apart' ea) es)

-- the first two exchanged, the number of the first, and the rest
abbrev swap_two : List Labelled → List Labelled
swap_two [] = []
swap_two (x ∷ []) = x ∷ []
swap_two (x ∷ (y ∷ l)) = y ∷ (x ∷ l)

abbrev number : List Labelled → ℕ
number [] = 0
number (x ∷ l) = x.transaction

abbrev rest : List Labelled → List Labelled
rest [] = []
rest (x ∷ l) = l

turn : (s : Tally) → Sane s → {xs zs : List Labelled} → Swap clash xs zs → (ρ : ℕ → ℕ) → labelled_from s (map ev xs) ≡ map (rename ρ) xs → Turned s (map (rename ρ) zs) (map ev zs)
unfolding labelled_from
turn s h (first {a = x} {b = y} {l} free) ρ q =
    let r = head-turned s h x.event y.event free (map ev l) in
    record { π = r.π; one-one = r.one-one; old = r.old; turned = r.turned ∙ ap (λ k. map (rename r.π) (swap_two k)) q }
turn s h (later {a = x} w) ρ q =
    let e : Event = x.event in
    let r = turn (tallied s e) (sane-tallied s e h) w ρ (ap rest q) in
    record {
      π = r.π;
      one-one = r.one-one;
      old = λ k g. r.old k (omega (arith, count-rises s e));
      turned = ap₂ (λ n l. label n e ∷ l) (sym (r.old (belongs s e) (belongs-lt s e h)) ∙ ap r.π (ap number q)) r.turned;
    }

-- ---- what swaps do to the labels

-- the labels of a trace are those of zs, renamed
pub record Named (zs : List Labelled) : Type 0 where
  pub ρ : ℕ → ℕ
  pub one-one : (j k : ℕ) → ρ j ≡ ρ k → j ≡ k
  pub is : labelled (map ev zs) ≡ map (rename ρ) zs

named-swaps : {xs zs : List Labelled} → Swaps clash xs zs → Named xs → Named zs
named-swaps done c = c
named-swaps (swap {k} s r) c =
    let t = turn none_yet sane-none s c.ρ c.is in
    named-swaps r (record {
      ρ = λ n. t.π (c.ρ n);
      one-one = λ i j q. c.one-one i j (t.one-one (c.ρ i) (c.ρ j) q);
      is = t.turned ∙ map-map (rename t.π) (rename c.ρ) k;
    })

pub labelled-events : (s : Tally) (es : List Event) → map ev (labelled_from s es) ≡ es
unfolding labelled_from
labelled-events s [] = refl
labelled-events s (e ∷ es) = ap (λ r. e ∷ r) (labelled-events (tallied s e) es)

-- a trace's own labels, carried along by swaps, are renamed
pub named : (es : List Event) {zs : List Labelled} → Swaps clash (labelled es) zs → Named zs
named es s = named-swaps s (record { ρ = λ n. n; one-one = λ j k q. q; is = ap labelled (labelled-events none_yet es) ∙ sym (map-rename (labelled es)) })

-- the trace that swaps of events reach, with the labels carried along
pub record Carried (es es' : List Event) : Type 0 where
  pub zs : List Labelled
  pub swaps : Swaps clash (labelled es) zs
  pub ρ : ℕ → ℕ
  pub one-one : (j k : ℕ) → ρ j ≡ ρ k → j ≡ k
  pub is : labelled es' ≡ map (rename ρ) zs

pub carried : {es es' : List Event} → Swaps conflict es es' → Carried es es'
carried {es} s =
    let m = swaps-lift ev conflict s (labelled es) (labelled-events none_yet es) in
    let c = named es m.1 in
    record { zs = m.0; swaps = m.1; ρ = c.ρ; one-one = c.one-one; is = ap labelled (sym m.2) ∙ c.is }
