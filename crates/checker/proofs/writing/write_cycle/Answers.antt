-- `checker::writing::write_cycle` meets its contract: two stores for each transaction.
use Prim.Native.Nat.{ℕ, ◌+◌, ◌*◌, ◌/◌, ◌%◌, ◌≤◌}
use native.Mathlib.Omega.{arith}
use mathlib.Core.Path.{refl}
use lib.ListN.{length, get_or}
use Rattle.record.specs.Record.{in_two}
use Rattle.lists.specs.Lists.{each}
use Rattle.checker.proofs.Written.{going_start, going-room, going_more, going_end, two-stores, length-each}
use Rattle.checker.proofs.writing.write_cycle.Goals.{In-loop-k}
use Rattle.checker.proofs.writing.write_cycle.Goals as goal

-- the whole cycle fits
fits : (c : In-loop-k) → length (each in_two c.args.cycle.now) ≤ length c.args.out.now
fits c = omega (arith, c.requires, length-each in_two 2 (λ a. refl) c.args.cycle.now)

-- and there is room for two bytes more
room : (c : In-loop-k) → 2 * c.loop-k.k + 2 ≤ length c.loop-k.out
room c =
    let a = c.args in
    going-room in_two a.cycle.now a.out.now c.loop-k.out (2 * c.loop-k.k) c.loop-k.k (fits c)
    (omega arith) c.loop-k.invariant

pub loop-k-init : goal.loop-k-init
loop-k-init c = going_start in_two c.args.cycle.now c.args.out.now

pub loop-k-preserved : goal.loop-k-preserved
loop-k-preserved c =
    let a = c.args in
    let n : ℕ = get_or a.cycle.now c.loop-k.k 0 in
    going_more in_two a.cycle.now a.out.now c.loop-k.out (2 * c.loop-k.k) c.loop-k.k _ (2 * (c.loop-k.k + 1)) (fits (goal.at.loop-k-preserved c).In-loop-k) (omega arith) c.loop-k.invariant
    (two-stores c.loop-k.out (2 * c.loop-k.k) (n % 256) (n / 256) (room (goal.at.loop-k-preserved c).In-loop-k)) (omega arith)

pub returns : goal.returns
returns c =
    let a = c.args in
    going_end in_two a.cycle.now a.out.now c.loop-k.out (2 * c.loop-k.k) c.loop-k.k (omega arith) c.loop-k.invariant
