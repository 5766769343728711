-- `replay::State::lock` meets its contract: each operation of a lock does what it says. Assumes nothing.
use Prim.Native.Nat.{◌<◌}
use mathlib.Core.Path.{ap}
use native.Mathlib.Omega.{arith}
use native.Mathlib.Numerals.{add-one}
use Rattle.replay.specs.Machine.{waitless, waits_on, with_wait, finds, act}
use Rattle.replay.proofs.Laws.{held-within, found, refused-too}
use Rattle.replay.proofs.State.lock.Goals as goal

pub returns-in_err-release-in-Prewait : goal.returns-in_err-release-in-Prewait
unfolding finds act
returns-in_err-release-in-Prewait c =
    rw c.in-Prewait.is (refused-too _ _ _ _ _ _ _ c.in_err-release-in-Prewait.ensures c.from_residual.ensures.1)

pub overflow_add-self : goal.overflow_add-self
overflow_add-self c =
    let inside : c.in-Prewait.lock < 32 = held-within c.args.self.now.holders _ _ 32 (found _ _ c.in_ok-release-in-Prewait.ensures.0) (omega arith) in
    omega arith

pub returns-in_err-acquire-in-Postwait : goal.returns-in_err-acquire-in-Postwait
unfolding finds act
returns-in_err-acquire-in-Postwait c =
    rw c.in-Postwait.is (refused-too _ _ _ _ _ _ _ c.in_err-acquire-in-Postwait.ensures c.from_residual-in_err-acquire-in-Postwait.ensures.1)

pub returns-in-Acquire : goal.returns-in-Acquire
unfolding finds act
returns-in-Acquire c = rw c.in-Acquire.is c.acquire.ensures

pub returns-in-Release : goal.returns-in-Release
unfolding finds act
returns-in-Release c = rw c.in-Release.is c.release.ensures

pub returns-in_ok-release-in-Prewait : goal.returns-in_ok-release-in-Prewait
unfolding finds act
returns-in_ok-release-in-Prewait c =
    let freed = c.in_ok-release-in-Prewait.ensures in
    rw (c.in-Prewait.is, add-one) (freed.0, ap (λ s. with_wait s c.args.t (waits_on c.in-Prewait.lock)) freed.1)

pub returns-in_ok-acquire-in-Postwait : goal.returns-in_ok-acquire-in-Postwait
unfolding finds act
returns-in_ok-acquire-in-Postwait c =
    let taken = c.in_ok-acquire-in-Postwait.ensures in
    rw c.in-Postwait.is (taken.0, ap (λ s. with_wait s c.args.t waitless) taken.1)

pub returns-in-Notify : goal.returns-in-Notify
unfolding finds act
returns-in-Notify c = rw c.in-Notify.is c.held.ensures
