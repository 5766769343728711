-- `picture::putting::Text::put_transactions` meets its contract: the lines of those below a are put.
use Prim.Native.Nat.{◌+◌, ◌-◌, ◌*◌, ◌≤◌}
use mathlib.Core.Path.{◌≡◌}
use Rattle.lists.specs.Lists.{each, from, below}
use Rattle.picture.specs.Picture.{transaction_line}
use Rattle.picture.proofs.Pieces.{Goes}
use Rattle.picture.proofs.putting.Text.put_transactions.Given as goal

abbrev pub invariant-loop-a : goal.invariant-loop-a
invariant-loop-a l = record {
  same_output : l.self.out.ghost_name ≡ l.initial.self.out.ghost_name;
  most : l.self.end ≤ l.initial.self.end + 5 * l.a;
  goes : Goes (each transaction_line (below l.n)) l.initial.self.end l.initial.self.out.now (each transaction_line (from l.a (l.n - l.a))) l.self.end l.self.out.now;
}
