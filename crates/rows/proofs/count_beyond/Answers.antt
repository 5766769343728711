-- `rows::count_beyond` meets its contract: after k turns the bits of the first k numbers are counted.
use Prim.Native.Nat.{ℕ, suc, ◌<◌, ◌+◌, ◌*◌, ◌^◌}
use native.Mathlib.Omega.{arith}
use native.Mathlib.Numerals.{add-one}
use mathlib.Core.Path.{◌≡◌, refl, sym, ap, ◌∙◌}
use lib.ListN.{get_or}
use lib.Count.{ones}
use Rattle.rows.specs.Bits.{only, beyond_to}
use Rattle.rows.proofs.Laws.{beyond-in, beyond-out-first, beyond-out-second, beyond-le}
use Rattle.rows.proofs.count_beyond.Goals.{then-w-of-via-then-w-of, then-w-of-via-else-w-of+then-v-to}
use Rattle.rows.proofs.count_beyond.Goals as goal

pub returns-then-w-of : goal.returns-then-w-of
returns-then-w-of c =
    let a = c.args in
    elim c.then-w-of.branch [
      | then-w-of-via-then-w-of w ↦ sym (beyond-out-first a.w.now a.a a.v.now a.b (omega arith))
      | then-w-of-via-else-w-of+then-v-to w ↦ sym (beyond-out-second a.w.now a.a a.v.now a.b (omega arith))
    ]

pub loop-k-init : goal.loop-k-init
unfolding beyond_to
loop-k-init c = refl

pub overflow_add-count-in-loop-k : goal.overflow_add-count-in-loop-k
unfolding beyond_to
overflow_add-count-in-loop-k c =
    let a = c.args in
    let small-w : (i : ℕ) → get_or a.w.now i 0 < 2 ^ 64 = λ i. omega (arith, c.type_inv.w i) in
    let small-v : (i : ℕ) → get_or a.v.now i 0 < 2 ^ 64 = λ i. omega (arith, c.type_inv.v i) in
    omega (arith, beyond-le a.w.now a.a a.v.now a.b small-w small-v (suc c.loop-k.k), c.loop-k.invariant)

pub loop-k-preserved : goal.loop-k-preserved
unfolding beyond_to
loop-k-preserved c =
    let a = c.args in
    let k = c.loop-k.k in
    rw add-one (ap (λ (n : ℕ). n + ones (only (get_or a.w.now (a.a * 8 + k) 0) (get_or a.v.now (a.b * 8 + k) 0))) c.loop-k.invariant)

pub returns : goal.returns
returns c =
    let a = c.args in
    let e : c.loop-k.k ≡ 8 = omega arith in
    c.loop-k.invariant ∙ ap (λ (n : ℕ). beyond_to n a.w.now a.a a.v.now a.b) e ∙ sym (beyond-in a.w.now a.a a.v.now a.b (omega arith) (omega arith))
