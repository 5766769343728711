-- `rows::mark` meets its contract: `1 << k` is 2 ^ k, and past the end nothing is set.
use native.Mathlib.Omega.{arith}
use Prim.Native.Nat.{ℕ, ◌%◌, ◌^◌}
use mathlib.Core.Path.{sym}
use mathlib.Core.List.{List}
use lib.Bits.{bit_or}
use lib.ListN.{get_or}
use lib.Seq.{set_out}
use Rattle.rows.specs.Bits.{word_at, marked}
use Rattle.rows.proofs.Laws.{one_shl}
use Rattle.rows.proofs.mark.Goals as goal

pub returns-then-i-w : goal.returns-then-i-w
unfolding marked
returns-then-i-w c = rw (one_shl (c.args.b % 64) (omega arith))

pub returns-else-i-w : goal.returns-else-i-w
unfolding marked
returns-else-i-w c =
    let a = c.args in
    let w : List ℕ = a.w.now in
    sym (set_out w (word_at a.a a.b) (bit_or (get_or w (word_at a.a a.b) 0) (2 ^ (a.b % 64))) (omega arith))
