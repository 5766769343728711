-- Operations that don't conflict can be exchanged: the machine finds both possible in either order, and ends in the same state. By the cells that they touch.
use Prim.Native.Nat.{ℕ}
use native.Mathlib.Omega.{arith}
use mathlib.Core.Path.{◌≡◌, refl, sym, ap, ◌∙◌, subst}
use mathlib.Core.Logic.{◌≢◌}
use mathlib.Core.Bool.{Bool, true, false, not, ◌&&◌, ◌||◌}
use mathlib.Core.List.{List, [], ◌∷◌}
use lib.Dec.{T, eqb, eqb→eq, eqb_refl}
use Rattle.record.specs.declared.Event.{Event}
use Rattle.record.specs.declared.Op.{Op}
use Rattle.record.specs.declared.Op.TheVariants.{Read, Write, Acquire, Release, Prewait, Postwait, Notify, Fork, Join, Yield}
use Rattle.record.specs.Record.{target}
use Rattle.replay.specs.declared.State.{State}
use Rattle.replay.specs.Machine.{unknown, known, unforked, forked, joined, fault_of, next, after, possible}
use Rattle.graph.specs.Conflict as Conflict
use Rattle.graph.specs.Conflict.{conflict}
use Rattle.graph.specs.Swaps.{Swaps}
use Rattle.lists.proofs.Tests.{by-same, and_left, and_right, and_both, or_cases, or_left, or_right}
use Rattle.lists.proofs.Lists.{Every, every-pair}
use Rattle.trace.proofs.Runs.{Runs, Exchange, swaps-run, parts-exchange}
use Rattle.trace.proofs.Runs.Runs.{stops, goes}
use Rattle.trace.proofs.Cells.{Cell, Touch, cell, changes, can, does, readers-exchange, apart-exchange, twins-exchange}
use Rattle.replay.proofs.Cells.{machine, variable, lock, life, wait, waiting, forks, joins, main, readings, touches, event-runs, runs-event}
use Rattle.graph.proofs.Apart.{Apart, apart}

abbrev Swappable : Touch → Touch → Type 0
Swappable = Exchange (can machine) (does machine)

-- ---- what the small steps of an operation o of thread t are about

-- a thread's life: it is forked, it is joined, or it is the acting thread's own and isn't changed
data OnLife (t : ℕ) (o : Op) (p : Touch) : Type 0 where
  forking : T (Conflict.forks o) → p ≡ forks (target o) → OnLife t o p
  joining : T (Conflict.joins o) → p ≡ joins t (target o) → OnLife t o p
  own : cell p ≡ life t → changes p ≡ false → OnLife t o p

-- a variable: it is read, or it is written
data OnVariable (o : Op) (p : Touch) : Type 0 where
  reading : (v : ℕ) → p ≡ readings (target o) v → OnVariable o p
  writing : T (Conflict.writes o) → cell p ≡ variable (target o) → OnVariable o p

-- a variable, a lock, a life, or the acting thread's own wait
data About (t : ℕ) (o : Op) (p : Touch) : Type 0 where
  on-variable : T (Conflict.accesses o) → OnVariable o p → About t o p
  on-lock : T (Conflict.locks o) → cell p ≡ lock (target o) → About t o p
  on-life : OnLife t o p → About t o p
  on-wait : cell p ≡ wait t → About t o p

main-about : (t : ℕ) (o : Op) → About t o (main t o)
unfolding Conflict.opened
main-about t (Read x v) = About.on-variable tt (OnVariable.reading v refl)
main-about t (Write x v) = About.on-variable tt (OnVariable.writing tt refl)
main-about t (Acquire m) = About.on-lock tt refl
main-about t (Release m) = About.on-lock tt refl
main-about t (Prewait m) = About.on-lock tt refl
main-about t (Postwait m) = About.on-lock tt refl
main-about t (Notify m) = About.on-lock tt refl
main-about t (Fork u) = About.on-life (OnLife.forking tt refl)
main-about t (Join u) = About.on-life (OnLife.joining tt refl)
main-about t Yield = About.on-life (OnLife.own refl refl)

waiting-about : (t : ℕ) (o : Op) → About t o (waiting t o)
waiting-about t (Read x v) = About.on-wait refl
waiting-about t (Write x v) = About.on-wait refl
waiting-about t (Acquire m) = About.on-wait refl
waiting-about t (Release m) = About.on-wait refl
waiting-about t (Prewait m) = About.on-wait refl
waiting-about t (Postwait m) = About.on-wait refl
waiting-about t (Notify m) = About.on-wait refl
waiting-about t (Fork u) = About.on-wait refl
waiting-about t (Join u) = About.on-wait refl
waiting-about t Yield = About.on-wait refl

abouts : (e : Event) → Every (About e.thread e.op) (touches e)
abouts e = (About.on-life (OnLife.own refl refl), (waiting-about e.thread e.op, (main-about e.thread e.op, tt)))

-- ---- cells that differ: in their tables, or in their places

tables : {c d : Cell} {f i g j : ℕ} → c ≡ (f, i) → d ≡ (g, j) → f ≢ g → c ≢ d
tables p q n e = n (ap (λ c. c.0) (sym p ∙ e ∙ q))

places : {c d : Cell} {f i g j : ℕ} → c ≡ (f, i) → d ≡ (g, j) → i ≢ j → c ≢ d
places p q n e = n (ap (λ c. c.1) (sym p ∙ e ∙ q))

life-cell : {t : ℕ} {o : Op} {p : Touch} → OnLife t o p → (u : ℕ) × (cell p ≡ life u)
life-cell {o} (OnLife.forking f e) = (target o, ap cell e)
life-cell {o} (OnLife.joining j e) = (target o, ap cell e)
life-cell {t} (OnLife.own e n) = (t, e)

variable-cell : {o : Op} {p : Touch} → OnVariable o p → cell p ≡ variable (target o)
variable-cell (OnVariable.reading v e) = ap cell e
variable-cell (OnVariable.writing w e) = e

-- ---- two reads of one variable, two forks or two joins of one thread are twins

-- the one after the other finds the value known, and so the same
read-read : (x v w : ℕ) → Swappable (readings x v) (readings x w)
read-read x v w = twins-exchange machine (variable x) (λ n. eqb n unknown || eqb n (known v)) (λ n. known v) (λ n. eqb n unknown || eqb n (known w)) (λ n. known w) (λ n h k.
    let same : known v ≡ known w = or_cases (eqb (known v) unknown) (eqb (known v) (known w)) k (λ t. absurd (omega (arith, eqb→eq (known v) unknown t))) (λ t. eqb→eq (known v) (known w) t) in (
      subst (λ m. T (eqb n unknown || eqb n m)) same h,
      or_right (eqb (known w) unknown) (eqb (known w) (known v)) (subst (λ m. T (eqb (known w) m)) (sym same) (eqb_refl (known w))),
      sym same,
    ))

fork-fork : (x : ℕ) → Swappable (forks x) (forks x)
fork-fork x = twins-exchange machine (life x) (λ l. eqb l unforked) (λ l. forked) (λ l. eqb l unforked) (λ l. forked) (λ v h k. absurd k)

join-join : (t u x : ℕ) → Swappable (joins t x) (joins u x)
join-join t u x = twins-exchange machine (life x) (λ l. not (eqb x t) && not (eqb l unforked)) (λ l. joined) (λ l. not (eqb x u) && not (eqb l unforked)) (λ l. joined) (λ v h k. (
  and_both (not (eqb x u)) (not (eqb v unforked)) (and_left (not (eqb x u)) true k) (and_right (not (eqb x t)) (not (eqb v unforked)) h),
  and_both (not (eqb x t)) true (and_left (not (eqb x t)) (not (eqb v unforked)) h) tt,
  refl,
))

-- ---- small steps of operations that have everything apart can be exchanged

module _ (a b : Event) (f : Apart a b) (p q : Touch) where
  abbrev A : Op
  A = a.op

  abbrev B : Op
  B = b.op

  different : cell p ≢ cell q → Swappable p q
  different = apart-exchange machine p q

  lives-exchange : OnLife a.thread a.op p → OnLife b.thread b.op q → Swappable p q
  lives-exchange (OnLife.forking i e) (OnLife.forking j d) = by-same (target A) (target B)
      (λ z. subst (λ r. Swappable r q) (sym e) (subst (λ r. Swappable (forks (target A)) r) (sym (d ∙ ap forks (sym z))) (fork-fork (target A))))
      (λ z. different (places (ap cell e) (ap cell d) z))
  lives-exchange (OnLife.forking i e) (OnLife.joining j d) = different (places (ap cell e) (ap cell d) (f.fork-join i j))
  lives-exchange (OnLife.forking i e) (OnLife.own d m) = different (places (ap cell e) d (f.governed (or_left (Conflict.forks A) (Conflict.joins A) i)))
  lives-exchange (OnLife.joining i e) (OnLife.forking j d) = different (places (ap cell e) (ap cell d) (f.join-fork i j))
  lives-exchange (OnLife.joining i e) (OnLife.joining j d) = by-same (target A) (target B)
      (λ z. subst (λ r. Swappable r q) (sym e) (subst (λ r. Swappable (joins a.thread (target A)) r) (sym (d ∙ ap (joins b.thread) (sym z))) (join-join a.thread b.thread (target A))))
      (λ z. different (places (ap cell e) (ap cell d) z))
  lives-exchange (OnLife.joining i e) (OnLife.own d m) = different (places (ap cell e) d (f.governed (or_right (Conflict.forks A) (Conflict.joins A) i)))
  lives-exchange (OnLife.own e n) (OnLife.forking j d) = different (places e (ap cell d) (λ z. f.governing (or_left (Conflict.forks B) (Conflict.joins B) j) (sym z)))
  lives-exchange (OnLife.own e n) (OnLife.joining j d) = different (places e (ap cell d) (λ z. f.governing (or_right (Conflict.forks B) (Conflict.joins B) j) (sym z)))
  lives-exchange (OnLife.own e n) (OnLife.own d m) = readers-exchange machine p q n m

  variables-exchange : T (Conflict.accesses A) → T (Conflict.accesses B) → OnVariable A p → OnVariable B q → Swappable p q
  variables-exchange i j (OnVariable.reading v e) (OnVariable.reading w d) = by-same (target A) (target B)
      (λ z. subst (λ r. Swappable r q) (sym e) (subst (λ r. Swappable (readings (target A) v) r) (sym (d ∙ ap (λ x. readings x w) (sym z))) (read-read (target A) v w)))
      (λ z. different (places (ap cell e) (ap cell d) z))
  variables-exchange i j (OnVariable.reading v e) (OnVariable.writing w d) = different (places (ap cell e) d (f.variables i j (or_right (Conflict.writes A) (Conflict.writes B) w)))
  variables-exchange i j (OnVariable.writing w e) v = different (places e (variable-cell v) (f.variables i j (or_left (Conflict.writes A) (Conflict.writes B) w)))

  steps-exchange : About a.thread a.op p → About b.thread b.op q → Swappable p q
  steps-exchange (About.on-variable i v) (About.on-variable j w) = variables-exchange i j v w
  steps-exchange (About.on-variable i v) (About.on-lock j d) = different (tables (variable-cell v) d (λ z. omega arith))
  steps-exchange (About.on-variable i v) (About.on-life l) = different (tables (variable-cell v) (life-cell l).1 (λ z. omega arith))
  steps-exchange (About.on-variable i v) (About.on-wait d) = different (tables (variable-cell v) d (λ z. omega arith))
  steps-exchange (About.on-lock i e) (About.on-variable j v) = different (tables e (variable-cell v) (λ z. omega arith))
  steps-exchange (About.on-lock i e) (About.on-lock j d) = different (places e d (f.locking i j))
  steps-exchange (About.on-lock i e) (About.on-life l) = different (tables e (life-cell l).1 (λ z. omega arith))
  steps-exchange (About.on-lock i e) (About.on-wait d) = different (tables e d (λ z. omega arith))
  steps-exchange (About.on-life l) (About.on-variable j v) = different (tables (life-cell l).1 (variable-cell v) (λ z. omega arith))
  steps-exchange (About.on-life l) (About.on-lock j d) = different (tables (life-cell l).1 d (λ z. omega arith))
  steps-exchange (About.on-life l) (About.on-life k) = lives-exchange l k
  steps-exchange (About.on-life l) (About.on-wait d) = different (tables (life-cell l).1 d (λ z. omega arith))
  steps-exchange (About.on-wait e) (About.on-variable j v) = different (tables e (variable-cell v) (λ z. omega arith))
  steps-exchange (About.on-wait e) (About.on-lock j d) = different (tables e d (λ z. omega arith))
  steps-exchange (About.on-wait e) (About.on-life l) = different (tables e (life-cell l).1 (λ z. omega arith))
  steps-exchange (About.on-wait e) (About.on-wait d) = different (places e d f.threads)

-- ---- events, and runs of them

-- whether an event is possible
abbrev fine : State → Event → Bool
fine s e = eqb (fault_of s e) 0

-- Two neighbours that don't conflict can be exchanged
pub exchanged : (a b : Event) → T (not (conflict a b)) → Exchange fine next a b
exchanged a b n =
    let f : Apart a b = apart a b n in
    parts-exchange fine next (can machine) (does machine) touches event-runs runs-event a b
    (every-pair (λ p q i j. steps-exchange a b f p q i j) (touches a) (touches b) (abouts a) (abouts b))

runs_of : (s : State) (l : List Event) → T (possible s l) → Runs fine next s l (after s l)
unfolding possible after
runs_of s [] t = stops
runs_of s (e ∷ l) t = goes (and_left (fine s e) (possible (next s e) l) t) (runs_of (next s e) l (and_right (fine s e) (possible (next s e) l) t))

of-runs : {s t : State} {l : List Event} → Runs fine next s l t → T (possible s l) × (after s l ≡ t)
unfolding possible after
of-runs stops = (tt, refl)
of-runs (goes {s} {x} {l} h r) = let q = of-runs r in (and_both (fine s x) (possible (next s x) l) h q.0, q.1)

-- A possible history that swaps turn into another: that one is possible too, and ends in the same state
pub swaps-replay : (s : State) {l k : List Event} → Swaps l k → T (possible s l) → T (possible s k) × (after s l ≡ after s k)
swaps-replay s {l} {k} w t = let q = of-runs (swaps-run fine next conflict exchanged w (runs_of s l t)) in (q.0, sym q.1)
