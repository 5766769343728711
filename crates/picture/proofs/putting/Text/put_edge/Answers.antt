-- `picture::putting::Text::put_edge` meets its contract: the first number, the arrow, the second number, and the end of the line.
use native.Mathlib.Omega.{arith}
use mathlib.Core.List.{◌++◌}
use Rattle.decimal.specs.Decimal.{decimal}
use Rattle.decimal.proofs.Decimals.{size-three}
use Rattle.picture.specs.Picture.{arrow, line_end, edge, edge_line}
use Rattle.picture.specs.Putting.{Puts}
use Rattle.picture.proofs.Pieces.{puts-both}
use Rattle.picture.proofs.Texts.{edge-size}
use Rattle.picture.proofs.putting.Text.put_edge.Goals as goal

pub put-requires : goal.put-requires
put-requires c =
    let a = c.args in
    (omega arith, omega (arith, c.put_number.ensures.put.end, size-three a.a (omega arith)))

pub put_number-requires-2 : goal.put_number-requires-2
put_number-requires-2 c =
    let a = c.args in
    omega (arith, c.put.ensures.put.end, c.put_number.ensures.put.end, size-three a.a (omega arith))

pub put-requires-2 : goal.put-requires-2
put-requires-2 c =
    let a = c.args in
    (omega arith, omega (arith, c.put_number-2.ensures.put.end, c.put.ensures.put.end, c.put_number.ensures.put.end, size-three a.a (omega arith), size-three a.b (omega arith)))

pub returns-clause-put : goal.returns-clause-put
unfolding edge_line
returns-clause-put c =
    let a = c.args in
    let last = puts-both (decimal a.b) line_end c.put.new.self.end c.put_number-2.new.self.end c.put-2.new.self.end _ _ _ c.put_number-2.ensures.put c.put-2.ensures.put in
    let later = puts-both arrow (decimal a.b ++ line_end) c.put_number.new.self.end c.put.new.self.end c.put-2.new.self.end _ _ _ c.put.ensures.put last in
    puts-both (decimal a.a) (arrow ++ (decimal a.b ++ line_end)) a.self.now.end c.put_number.new.self.end c.put-2.new.self.end a.self.now.out.now _ _ c.put_number.ensures.put later

pub returns-clause-most : goal.returns-clause-most
returns-clause-most c =
    let a = c.args in
    let all : Puts (edge_line (edge a.a a.b)) a.self.now.end a.self.now.out.now c.put-2.new.self.out.now c.put-2.new.self.end = returns-clause-put c in
    omega (arith, all.end, edge-size a.a a.b (omega arith) (omega arith))
