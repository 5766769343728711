-- `checker::writing::write_serial` meets its contract: one transaction's bytes after the other's.
use Rattle.checker.specs.Writing.{bytes_of}
use Rattle.checker.proofs.Written.{Going}
use Rattle.checker.proofs.writing.write_serial.Given as goal

abbrev pub invariant-loop-a : goal.invariant-loop-a
invariant-loop-a l = Going (bytes_of l.records) l.order l.initial.out l.out l.n l.a-index
