-- `proposal::walking::walk` meets its contract: a step for each event.
use Prim.Native.Nat.{◌*◌, ◌≤◌}
use mathlib.Core.Path.{◌≡◌}
use lib.ListN.{length, drop}
use Rattle.looking.specs.Refusals.{events}
use Rattle.proposal.specs.Keeping.{kept_of}
use Rattle.proposal.proofs.Underway.{Under}
use Rattle.proposal.proofs.walking.walk.Given as goal

abbrev pub invariant-loop-i : goal.invariant-loop-i
invariant-loop-i l =
    record {
      goes : (goal.iterator-loop-i).can_next l.i-iterator;
      ends : (goal.iterator-loop-i).is_finite l.i-iterator;
      size : l.i-iterator.iter.size ≡ 8;
      rest : l.i-iterator.iter.rest.now ≡ drop (8 * l.i-iterator.count) l.input;
      within : 8 * l.i-iterator.count ≤ length l.input;
      most : l.builder.built ≤ 2 * l.i-iterator.count;
      marks-size : length l.marks ≡ 1024;
      same_work : l.builder.work.ghost_name ≡ l.initial.builder.work.ghost_name;
      under : Under (events l.input) l.marks l.initial.builder.work.now (kept_of l.builder) l.builder.built l.i-iterator.count;
    }
