-- `picture::putting::Text::put_rows` meets its contract: the lines of the edges from those below a are put.
use Prim.Native.Nat.{◌+◌, ◌-◌, ◌*◌, ◌≤◌}
use mathlib.Core.Path.{◌≡◌}
use Rattle.lists.specs.Lists.{each, from, below}
use Rattle.picture.specs.Putting.{row_lines}
use Rattle.picture.proofs.Pieces.{Goes}
use Rattle.picture.proofs.putting.Text.put_rows.Given as goal

abbrev pub invariant-loop-a : goal.invariant-loop-a
invariant-loop-a l = record {
  same_output : l.self.out.ghost_name ≡ l.initial.self.out.ghost_name;
  most : l.self.end ≤ l.initial.self.end + 6144 * l.a;
  goes : Goes (each (row_lines l.work l.n) (below l.n)) l.initial.self.end l.initial.self.out.now (each (row_lines l.work l.n) (from l.a (l.n - l.a))) l.self.end l.self.out.now;
}
