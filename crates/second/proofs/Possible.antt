-- A possible history is orderly: what the replay machine knows of each thread's life tells what has been done before.
use Prim.Native.Nat.{ℕ, ◌<◌}
use native.Mathlib.Omega.{arith}
use mathlib.Core.Path.{◌≡◌, refl, sym, ap, ◌∙◌, subst}
use mathlib.Core.Logic.{◌≢◌}
use mathlib.Core.Bool.{Bool, false, cond, ◌&&◌, ◌||◌}
use mathlib.Core.List.{List, [], ◌∷◌}
use borrow.Author.Tests.{eqb-true}
use lib.Dec.{T, eqb, leb, eqb→eq, leb→le}
use lib.ListN.{length, get_or, set, length-set}
use lib.Seq.{get_or-set_same, get_or-set_other}
use Rattle.record.specs.declared.Event.{Event}
use Rattle.record.specs.declared.Op.{Op}
use Rattle.record.specs.declared.Op.TheVariants.{Read, Write, Acquire, Release, Prewait, Postwait, Notify, Fork, Join, Yield}
use Rattle.record.specs.Faults.{first_fault}
use Rattle.record.specs.Record.{kind, target, value, target_limit, in_range}
use Rattle.record.proofs.Laws.{none_first}
use Rattle.replay.specs.declared.State.{State}
use Rattle.replay.specs.Machine.{fresh, unforked, forked, joined, life_of, wait_of, wait_before, finds, checks, fault_of, act, next, possible}
use Rattle.lists.specs.Lists.{all_of}
use Rattle.lists.proofs.Tests.{by, by-same, T_of, T-is, or_left, or_right, and_left, and_right, and_both}
use Rattle.lists.proofs.Lists.{Among, Before, among-cons, all-has}
use Rattle.graph.specs.Conflict.{forks, joins}
use Rattle.graph.proofs.Steps.{among_none}
use Rattle.second.proofs.Orderly.{ranged, Fits, Orderly, of-target, of-child}

-- ---- what a possible event finds

-- its thread is forked and waits on what the event needs, and the operation's own checks are passed
pub record Met (s : State) (e : Event) : Type 0 where
  pub life : life_of s e.thread ≡ forked
  pub wait : wait_of s e.thread ≡ wait_before e.op
  pub own : first_fault (finds s e.thread e.op) ≡ 0

pub met : (s : State) (e : Event) → fault_of s e ≡ 0 → Met s e
unfolding fault_of checks
met s e fine =
    let a = none_first 8 0 (eqb (life_of s e.thread) forked) _ (omega arith) fine in
    let b = none_first 9 0 (eqb (wait_of s e.thread) (wait_before e.op)) _ (omega arith) a.1 in
    record {
      life = eqb-true (life_of s e.thread) forked a.0;
      wait = eqb-true (wait_of s e.thread) (wait_before e.op) b.0;
      own = b.1;
    }

pub first_fine : (s : State) (e : Event) (es : List Event) → T (possible s (e ∷ es)) → (fault_of s e ≡ 0) × T (possible (next s e) es)
unfolding possible
first_fine s e es p = (eqb→eq (fault_of s e) 0 (and_left (eqb (fault_of s e) 0) (possible (next s e) es) p), and_right (eqb (fault_of s e) 0) (possible (next s e) es) p)

-- who is forked was not
unforked-before : (s : State) (t : ℕ) (o : Op) → first_fault (finds s t o) ≡ 0 → T (forks o) → life_of s (target o) ≡ unforked
unfolding finds forks
unforked-before s t (Fork u) h f = eqb-true (life_of s u) unforked (none_first 11 0 (eqb (life_of s u) unforked) [] (omega arith) h).0
unforked-before s t (Read x v) h f = absurd f
unforked-before s t (Write x v) h f = absurd f
unforked-before s t (Acquire m) h f = absurd f
unforked-before s t (Release m) h f = absurd f
unforked-before s t (Prewait m) h f = absurd f
unforked-before s t (Postwait m) h f = absurd f
unforked-before s t (Notify m) h f = absurd f
unforked-before s t (Join u) h f = absurd f
unforked-before s t Yield h f = absurd f

-- what an operation makes of the lives
abbrev lives_after : List ℕ → Op → List ℕ
lives_after lives o = cond (forks o) (set lives (target o) forked) (cond (joins o) (set lives (target o) joined) lives)

lives-after : (s : State) (t : ℕ) (o : Op) → (act s t o).lives ≡ lives_after s.lives o
unfolding act forks joins
lives-after s t (Read x v) = refl
lives-after s t (Write x v) = refl
lives-after s t (Acquire m) = refl
lives-after s t (Release m) = refl
lives-after s t (Prewait m) = refl
lives-after s t (Postwait m) = refl
lives-after s t (Notify m) = refl
lives-after s t (Fork u) = refl
lives-after s t (Join u) = refl
lives-after s t Yield = refl

-- ---- what the lives tell of the events behind

abbrev life_in : List ℕ → ℕ → ℕ
life_in lives t = get_or lives t unforked

record Told (past : List Event) (lives : List ℕ) : Type 0 where
  size : length lives ≡ 16
  acted : (x : Event) → Among x past → life_in lives x.thread ≢ unforked
  forked-is : (x : Event) → Among x past → T (forks x.op) → life_in lives (target x.op) ≢ unforked
  joined_is : (x : Event) → Among x past → T (joins x.op) → life_in lives (target x.op) ≡ joined

join-no-fork : (o : Op) → T (joins o) → forks o ≡ false
unfolding joins forks
join-no-fork o j = ap (λ k. eqb k 8) (eqb→eq (kind o) 9 j)

-- one event more, possible and in range
module _ (past : List Event) (s : State) (y : Event) (told : Told past s.lives) (r : T (ranged y)) (m : Met s y) where
  abbrev o : Op
  o = y.op

  abbrev u : ℕ
  u = target o

  abbrev after : List ℕ
  after = lives_after s.lives o

  free : T (forks o) → life_in s.lives u ≡ unforked
  free = unforked-before s y.thread o m.own

  -- it fits to each behind it
  fits : (x : Event) → Among x past → Fits x y
  fits x i = record {
    joined = λ j e. let z : ◌≡◌ {A = ℕ} 2 1 = sym (told.joined_is x i j) ∙ ap (life_in s.lives) e ∙ m.life in omega arith;
    acted = λ f e. told.acted x i (ap (life_in s.lives) e ∙ free f);
    forked = λ f g e. told.forked-is x i g (ap (life_in s.lives) e ∙ free f);
    ended = λ f j e. let z : ◌≡◌ {A = ℕ} 2 0 = sym (told.joined_is x i j) ∙ ap (life_in s.lives) e ∙ free f in omega arith;
  }

  inside : T (forks o || joins o) → u < length s.lives
  inside c = omega (arith, told.size, leb→le u 15 (of-child o c (of-target y r)))

  after-fork : T (forks o) → after ≡ set s.lives u forked
  after-fork f = ap (λ b. cond b (set s.lives u forked) (cond (joins o) (set s.lives u joined) s.lives)) (T-is (forks o) f)

  after-other : forks o ≡ false → after ≡ cond (joins o) (set s.lives u joined) s.lives
  after-other f = ap (λ b. cond b (set s.lives u forked) (cond (joins o) (set s.lives u joined) s.lives)) f

  after-join : T (joins o) → after ≡ set s.lives u joined
  after-join j = after-other (join-no-fork o j) ∙ ap (λ b. cond b (set s.lives u joined) s.lives) (T-is (joins o) j)

  -- by what it does
  by_after : {C : Type 0} → (T (forks o) → after ≡ set s.lives u forked → C) → (T (joins o) → after ≡ set s.lives u joined → C) → (after ≡ s.lives → C) → C
  by_after f g h = by (forks o)
      (λ a. f (T_of a) (after-fork (T_of a)))
      (λ a. by (joins o)
      (λ c. g (T_of c) (after-join (T_of c)))
      (λ c. h (after-other a ∙ ap (λ b. cond b (set s.lives u joined) s.lives) c)))

  set_keeps : (v k : ℕ) → u < length s.lives → v ≢ unforked → life_in s.lives k ≢ unforked → life_in (set s.lives u v) k ≢ unforked
  set_keeps v k h nv nk z = by-same k u
      (λ e. nv (sym (get_or-set_same s.lives u v 0 h) ∙ ap (life_in (set s.lives u v)) (sym e) ∙ z))
      (λ ne. nk (sym (get_or-set_other s.lives u k v 0 ne) ∙ z))

  -- one that isn't unforked never is again, and one that was joined stays so
  stays : (k : ℕ) → life_in s.lives k ≢ unforked → life_in after k ≢ unforked
  stays k n = by_after
      (λ f q. subst (λ l. life_in l k ≢ unforked) (sym q) (set_keeps forked k (inside (or_left (forks o) (joins o) f)) (λ z. omega arith) n))
      (λ j q. subst (λ l. life_in l k ≢ unforked) (sym q) (set_keeps joined k (inside (or_right (forks o) (joins o) j)) (λ z. omega arith) n))
      (λ q. subst (λ l. life_in l k ≢ unforked) (sym q) n)

  stays-joined : (k : ℕ) → life_in s.lives k ≡ joined → life_in after k ≡ joined
  stays-joined k h = by_after
      (λ f q. ap (λ l. life_in l k) q ∙ get_or-set_other s.lives u k forked 0 (λ e. other f e) ∙ h)
      (λ j q. ap (λ l. life_in l k) q ∙ by-same k u
      (λ e. ap (life_in (set s.lives u joined)) e ∙ get_or-set_same s.lives u joined 0 (inside (or_right (forks o) (joins o) j)))
      (λ ne. get_or-set_other s.lives u k joined 0 ne ∙ h))
      (λ q. ap (λ l. life_in l k) q ∙ h)
    where
      other : T (forks o) → k ≡ u → ⊥
      other f e = let z : ◌≡◌ {A = ℕ} 2 0 = sym h ∙ ap (life_in s.lives) e ∙ free f in omega arith

  now-forked : T (forks o) → life_in after u ≢ unforked
  now-forked f z =
      let w : ◌≡◌ {A = ℕ} 1 0 = sym (ap (λ l. life_in l u) (after-fork f) ∙ get_or-set_same s.lives u forked 0 (inside (or_left (forks o) (joins o) f))) ∙ z in omega arith

  now-joined : T (joins o) → life_in after u ≡ joined
  now-joined j = ap (λ l. life_in l u) (after-join j) ∙ get_or-set_same s.lives u joined 0 (inside (or_right (forks o) (joins o) j))

  more : Told (y ∷ past) (next s y).lives
  more = subst (Told (y ∷ past)) (sym (lives-after s y.thread o)) (record {
    size = by_after
        (λ f q. ap length q ∙ length-set s.lives u forked ∙ told.size)
        (λ j q. ap length q ∙ length-set s.lives u joined ∙ told.size)
        (λ q. ap length q ∙ told.size);
    acted = λ x i. among-cons i
        (λ q. subst (λ z. life_in after z.thread ≢ unforked) (sym q) (stays y.thread (λ z. let w : ◌≡◌ {A = ℕ} 1 0 = sym m.life ∙ z in omega arith)))
        (λ n. stays x.thread (told.acted x n));
    forked-is = λ x i f. among-cons i
        (λ q. subst (λ z. life_in after (target z.op) ≢ unforked) (sym q) (now-forked (subst (λ z. T (forks z.op)) q f)))
        (λ n. stays (target x.op) (told.forked-is x n f));
    joined_is = λ x i j. among-cons i
        (λ q. subst (λ z. life_in after (target z.op) ≡ joined) (sym q) (now-joined (subst (λ z. T (joins z.op)) q j)))
        (λ n. stays-joined (target x.op) (told.joined_is x n j));
  })

-- ---- all of them

-- each event to come fits to each behind it; and so among themselves
record Ahead (past es : List Event) : Type 0 where
  across : (x y : Event) → Among x past → Among y es → Fits x y
  within : (x y : Event) → Before x y es → Fits x y

ahead : (past : List Event) (s : State) (es : List Event) → Told past s.lives → ((e : Event) → Among e es → T (ranged e)) → T (possible s es) → Ahead past es
ahead past s [] told r p = record { across = λ x y i j. absurd (among_none j); within = λ x y b. absurd (nowhere b) }
  where
    nowhere : {x y : Event} → Before x y [] → ⊥
    nowhere = elim [ ]
ahead past s (y ∷ es) told r p =
    let fine = first_fine s y es p in
    let m : Met s y = met s y fine.0 in
    let rest : Ahead (y ∷ past) es = ahead (y ∷ past) (next s y) es (more past s y told (r y Among.top) m) (λ e i. r e (Among.deeper i)) fine.1 in
    record {
      across = λ x z i j. among-cons j
          (λ q. subst (λ v. Fits x v) (sym q) (fits past s y told (r y Among.top) m x i))
          (λ k. rest.across x z (Among.deeper i) k);
      within = λ x z b. split b rest;
    }
  where
    split : {x y z : Event} → Before x z (y ∷ es) → Ahead (y ∷ past) es → Fits x z
    split {x} {z} (Before.now j) rest = rest.across x z Among.top j
    split {x} {z} (Before.under b) rest = rest.within x z b

-- thread and target of an event in range are in theirs
in-range : (e : Event) → T (in_range e) → T (ranged e)
unfolding in_range ranged
in-range e r =
    let a : Bool = leb e.thread 15 in
    let b : Bool = leb (target e.op) (target_limit (kind e.op)) in
    let c : Bool = leb (value e.op) 65535 in
    and_both a b (and_left a (b && c) r) (and_left b c (and_right a (b && c) r))

-- A possible history whose fields are in range is orderly
pub history-orderly : (es : List Event) → T (possible fresh es) → ((e : Event) → Among e es → T (in_range e)) → Orderly es
unfolding fresh
history-orderly es p r =
    let ranges : (e : Event) → Among e es → T (ranged e) = λ e i. in-range e (r e i) in
    let told : Told [] fresh.lives = record {
      size = refl;
      acted = λ x i. absurd (among_none i);
      forked-is = λ x i. absurd (among_none i);
      joined_is = λ x i. absurd (among_none i);
    } in
    record { ranges = ranges; pairs = (ahead [] fresh es told ranges p).within }

pub possible-orderly : (es : List Event) → T (possible fresh es) → T (all_of in_range es) → Orderly es
possible-orderly es p r = history-orderly es p (λ e i. all-has in_range e es r i)
