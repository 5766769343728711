-- `looking::seeing::see_all` meets its contract: after so many turns, that many records have led to what the array holds.
use Prim.Native.Nat.{◌*◌, ◌≤◌}
use mathlib.Core.Path.{◌≡◌}
use lib.ListN.{length, drop}
use Rattle.looking.proofs.Scanned.{Under}
use Rattle.looking.proofs.seeing.see_all.Given as goal

abbrev pub invariant-loop-place : goal.invariant-loop-place
invariant-loop-place l =
    record {
      goes : (goal.iterator-loop-place).can_next l.place-iterator;
      ends : (goal.iterator-loop-place).is_finite l.place-iterator;
      size : l.place-iterator.iter.size ≡ 8;
      rest : l.place-iterator.iter.rest.now ≡ drop (8 * l.place-iterator.count) l.input;
      within : 8 * l.place-iterator.count ≤ length l.input;
      under : Under l.input l.fn.records l.run l.records l.place-iterator.count;
    }
