-- `picture::putting::Text::put_transaction` meets its contract: the number, and then the end of the line.
use native.Mathlib.Omega.{arith}
use mathlib.Core.Path.{◌∙◌}
use Rattle.decimal.specs.Decimal.{decimal}
use Rattle.decimal.proofs.Decimals.{size-three}
use Rattle.picture.specs.Picture.{line_end, transaction_line}
use Rattle.picture.proofs.Pieces.{puts-both}
use Rattle.picture.proofs.Texts.{transaction-size}
use Rattle.picture.proofs.putting.Text.put_transaction.Goals as goal

pub put-requires : goal.put-requires
put-requires c =
    let a = c.args in
    (omega arith, omega (arith, c.put_number.ensures.put.end, size-three a.a (omega arith)))

pub returns : goal.returns
unfolding transaction_line
returns c =
    let a = c.args in
    let all = puts-both (decimal a.a) line_end a.self.now.end c.put_number.new.self.end c.put.new.self.end a.self.now.out.now _ _ c.put_number.ensures.put c.put.ensures.put in
    record {
      same_output = c.put.ensures.same_output ∙ c.put_number.ensures.same_output;
      put = all;
      most = omega (arith, all.end, transaction-size a.a (omega arith));
    }
