-- `picture::putting::Text::put` meets its contract: the bytes are copied where they fit.
use Rattle.picture.proofs.Pieces.{puts-part}
use Rattle.picture.proofs.putting.Text.put.Goals as goal

pub returns-then-self-clause-put : goal.returns-then-self-clause-put
returns-then-self-clause-put c =
    let a = c.args in
    puts-part a.bytes.now c.copy_from_slice.new.self a.self.now.out.now a.self.now.end c.copy_from_slice.ensures.after c.if-self.true
