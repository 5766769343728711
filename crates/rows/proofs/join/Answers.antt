-- `rows::join` meets its contract: after n turns the first n numbers are joined.
use Prim.Native.Nat.{ℕ, ◌+◌, ◌*◌}
use native.Mathlib.Omega.{arith}
use native.Mathlib.Numerals.{add-one}
use mathlib.Core.Path.{◌≡◌, refl, sym, ap, ◌∙◌}
use mathlib.Core.List.{List}
use lib.Bits.{bit_or}
use lib.ListN.{get_or, set}
use Rattle.rows.specs.Bits.{joined_to}
use Rattle.rows.proofs.Laws.{joined_in, joined-out-first, joined-out-second}
use Rattle.rows.proofs.join.Goals.{then-w-to-via-then-w-to, then-w-to-via-else-w-to+then-w-from}
use Rattle.rows.proofs.join.Goals as goal

pub returns-then-w-to : goal.returns-then-w-to
returns-then-w-to c =
    let a = c.args in
    elim c.then-w-to.branch [
      | then-w-to-via-then-w-to w ↦ sym (joined-out-first a.w.now a.x a.y (omega arith))
      | then-w-to-via-else-w-to+then-w-from w ↦ sym (joined-out-second a.w.now a.x a.y (omega arith))
    ]

pub loop-n-init : goal.loop-n-init
unfolding joined_to
loop-n-init c = refl

pub loop-n-preserved : goal.loop-n-preserved
unfolding joined_to
loop-n-preserved c = rw add-one (ap (λ (l : List ℕ). set l i (bit_or (get_or l i 0) (get_or l j 0))) c.loop-n.invariant)
  where
    i : ℕ
    i = c.args.x * 8 + c.loop-n.n

    j : ℕ
    j = c.args.y * 8 + c.loop-n.n

pub returns : goal.returns
returns c =
    let a = c.args in
    let e : c.loop-n.n ≡ 8 = omega arith in
    c.loop-n.invariant ∙ ap (λ (k : ℕ). joined_to k a.w.now a.x a.y) e ∙ sym (joined_in a.w.now a.x a.y (omega arith) (omega arith))
