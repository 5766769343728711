-- `picture::putting::Text::put_row` meets its contract: the lines of the edges to those below b are put.
use Prim.Native.Nat.{◌+◌, ◌*◌, ◌≤◌}
use mathlib.Core.Path.{◌≡◌}
use Rattle.picture.proofs.Texts.{row_from}
use Rattle.picture.specs.Putting.{row_lines}
use Rattle.picture.proofs.Pieces.{Goes}
use Rattle.picture.proofs.putting.Text.put_row.Given as goal

abbrev pub invariant-loop-b : goal.invariant-loop-b
invariant-loop-b l = record {
  same_output : l.self.out.ghost_name ≡ l.initial.self.out.ghost_name;
  most : l.self.end ≤ l.initial.self.end + 12 * l.b;
  goes : Goes (row_lines l.work l.n l.a) l.initial.self.end l.initial.self.out.now (row_from l.work l.n l.a l.b) l.self.end l.self.out.now;
}
