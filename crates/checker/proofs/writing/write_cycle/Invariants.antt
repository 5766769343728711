-- `checker::writing::write_cycle` meets its contract: two stores for each transaction.
use Prim.Native.Nat.{◌*◌}
use Rattle.record.specs.Record.{in_two}
use Rattle.checker.proofs.Written.{Going}
use Rattle.checker.proofs.writing.write_cycle.Given as goal

abbrev pub invariant-loop-k : goal.invariant-loop-k
invariant-loop-k l = Going in_two l.cycle l.initial.out l.out (2 * l.k) l.k
