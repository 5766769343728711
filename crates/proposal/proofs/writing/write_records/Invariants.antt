-- `proposal::writing::write_records` meets its contract: one event after the other.
use Prim.Native.Nat.{◌*◌, ◌≤◌}
use mathlib.Core.Path.{◌≡◌}
use lib.ListN.{length, drop}
use Rattle.looking.specs.Refusals.{events}
use Rattle.proposal.proofs.Weaving.{Written}
use Rattle.proposal.proofs.writing.write_records.Given as goal

abbrev pub invariant-loop-i : goal.invariant-loop-i
invariant-loop-i l =
    record {
      goes : (goal.iterator-loop-i).can_next l.i-iterator;
      ends : (goal.iterator-loop-i).is_finite l.i-iterator;
      size : l.i-iterator.iter.size ≡ 8;
      rest : l.i-iterator.iter.rest.now ≡ drop (8 * l.i-iterator.count) l.input;
      within : 8 * l.i-iterator.count ≤ length l.input;
      written : Written (events l.input) l.marks l.initial.out l.out l.end l.i-iterator.count;
    }
