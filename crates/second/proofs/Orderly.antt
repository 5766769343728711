-- What the second engine needs of operations: thread and target are in range, a thread is forked once, does nothing before its fork and nothing after its
-- join, and isn't forked after its join. Of values, locks and waits it needs nothing.
use mathlib.Core.Logic.{◌≢◌}
use mathlib.Core.Bool.{Bool, ◌&&◌, ◌||◌}
use mathlib.Core.List.{List, ◌++◌}
use lib.Dec.{T, leb}
use Rattle.record.specs.declared.Event.{Event}
use Rattle.record.specs.declared.Op.{Op}
use Rattle.record.specs.declared.Op.TheVariants.{Read, Write, Acquire, Release, Prewait, Postwait, Notify, Fork, Join, Yield}
use Rattle.record.specs.Record.{kind, target, target_limit}
use Rattle.lists.proofs.Tests.{and_left, and_right}
use Rattle.lists.proofs.Lists.{Among, Before}
use Rattle.graph.specs.Conflict.{accesses, locks, forks, joins}
use Rattle.graph.proofs.Steps.{among_first, before-first}

-- thread and target are in the ranges of a record
unfoldable pub ranged : Event → Bool
ranged e = leb e.thread 15 && leb (target e.op) (target_limit (kind e.op))

-- x stands before y
pub record Fits (x y : Event) : Type 0 where
  -- a thread does nothing after its join
  pub joined : T (joins x.op) → target x.op ≢ y.thread
  -- nor before its fork, which comes once, and before its join
  pub acted : T (forks y.op) → x.thread ≢ target y.op
  pub forked : T (forks y.op) → T (forks x.op) → target x.op ≢ target y.op
  pub ended : T (forks y.op) → T (joins x.op) → target x.op ≢ target y.op

-- each is in range, and each two fit
pub record Orderly (es : List Event) : Type 0 where
  pub ranges : (x : Event) → Among x es → T (ranged x)
  pub pairs : (x y : Event) → Before x y es → Fits x y

-- ---- ranges

pub of-thread : (e : Event) → T (ranged e) → T (leb e.thread 15)
unfolding ranged
of-thread e r = and_left (leb e.thread 15) (leb (target e.op) (target_limit (kind e.op))) r

pub of-target : (e : Event) → T (ranged e) → T (leb (target e.op) (target_limit (kind e.op)))
unfolding ranged
of-target e r = and_right (leb e.thread 15) (leb (target e.op) (target_limit (kind e.op))) r

pub of-variable : (o : Op) → T (accesses o) → T (leb (target o) (target_limit (kind o))) → T (leb (target o) 255)
unfolding accesses target_limit
of-variable (Read x v) a h = h
of-variable (Write x v) a h = h
of-variable (Acquire m) a h = absurd a
of-variable (Release m) a h = absurd a
of-variable (Prewait m) a h = absurd a
of-variable (Postwait m) a h = absurd a
of-variable (Notify m) a h = absurd a
of-variable (Fork u) a h = absurd a
of-variable (Join u) a h = absurd a
of-variable Yield a h = absurd a

pub of-lock : (o : Op) → T (locks o) → T (leb (target o) (target_limit (kind o))) → T (leb (target o) 31)
unfolding locks target_limit
of-lock (Read x v) a h = absurd a
of-lock (Write x v) a h = absurd a
of-lock (Acquire m) a h = h
of-lock (Release m) a h = h
of-lock (Prewait m) a h = h
of-lock (Postwait m) a h = h
of-lock (Notify m) a h = h
of-lock (Fork u) a h = absurd a
of-lock (Join u) a h = absurd a
of-lock Yield a h = absurd a

pub of-child : (o : Op) → T (forks o || joins o) → T (leb (target o) (target_limit (kind o))) → T (leb (target o) 15)
unfolding forks joins target_limit
of-child (Read x v) a h = absurd a
of-child (Write x v) a h = absurd a
of-child (Acquire m) a h = absurd a
of-child (Release m) a h = absurd a
of-child (Prewait m) a h = absurd a
of-child (Postwait m) a h = absurd a
of-child (Notify m) a h = absurd a
of-child (Fork u) a h = h
of-child (Join u) a h = h
of-child Yield a h = absurd a

-- ---- the first of orderly ones

pub orderly-first : (es rest : List Event) → Orderly (es ++ rest) → Orderly es
orderly-first es rest ok = record {
  ranges = λ x m. ok.ranges x (among_first es rest m);
  pairs = λ x y o. ok.pairs x y (before-first es rest o);
}
