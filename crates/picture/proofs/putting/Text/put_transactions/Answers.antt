-- `picture::putting::Text::put_transactions` meets its contract: the lines of those below a are put.
use Prim.Native.Nat.{◌+◌, ◌-◌}
use native.Mathlib.Omega.{arith}
use mathlib.Core.Path.{refl, sym, ◌∙◌}
use Rattle.lists.specs.Lists.{each, from, below}
use Rattle.picture.specs.Picture.{transaction_line}
use Rattle.picture.proofs.Pieces.{puts-as, goes-more, goes_end}
use Rattle.picture.proofs.Texts.{transactions-next, none-next, below-whole}
use Rattle.picture.proofs.putting.Text.put_transactions.Goals as goal

pub loop-a-init : goal.loop-a-init
loop-a-init c =
    let g = c.args in
    record { same_output = refl; most = omega arith; goes = λ m r p. puts-as g.self.now.end r g.self.now.out.now m (sym (below-whole transaction_line g.n)) p }

pub loop-a-preserved : goal.loop-a-preserved
loop-a-preserved c =
    let g = c.args in
    let i = c.loop-a.invariant in
    record {
      same_output = c.put_transaction.ensures.same_output ∙ i.same_output;
      most = omega (arith, c.put_transaction.ensures.most);
      goes = goes-more (each transaction_line (below g.n)) g.self.now.end g.self.now.out.now (transaction_line c.loop-a.a) (each transaction_line (from c.loop-a.a (g.n - c.loop-a.a)))
          (each transaction_line (from (c.loop-a.a + 1) (g.n - (c.loop-a.a + 1)))) _ _ _ _ (transactions-next g.n c.loop-a.a (omega arith)) c.put_transaction.ensures.put i.goes;
    }

pub returns : goal.returns
returns c =
    let g = c.args in
    let i = c.loop-a.invariant in
    record {
      same_output = i.same_output;
      put = goes_end (each transaction_line (below g.n)) g.self.now.end g.self.now.out.now (each transaction_line (from c.loop-a.a (g.n - c.loop-a.a))) _ _ (none-next transaction_line g.n c.loop-a.a (omega arith)) i.goes;
      most = omega arith;
    }
