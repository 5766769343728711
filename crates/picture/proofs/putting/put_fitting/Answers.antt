-- `picture::putting::put_fitting` meets its contract: 3, or the text.
use native.Mathlib.Omega.{arith}
use Prim.Native.Nat.{◌≤◌}
use mathlib.Core.Path.{◌≡◌}
use lib.ListN.{length}
use Rattle.picture.specs.Putting.{text_of}
use Rattle.picture.proofs.Endings.{fitted-not, fitted-all}
use Rattle.picture.proofs.putting.put_fitting.Goals as goal

pub returns-then-out-put_text : goal.returns-then-out-put_text
returns-then-out-put_text c =
    let a = c.args in
    rw c.into.ensures (fitted-not (text_of a.work.now a.n) a.out.now (omega (arith, c.put_text.ensures.end)))

pub returns : goal.returns
returns c =
    let a = c.args in
    let n : c.put_text-2.result ≡ length (text_of a.work.now a.n) = omega (arith, c.put_text-2.ensures.end) in
    let fits : length (text_of a.work.now a.n) ≤ length a.out.now = omega (arith, c.put_text.ensures.end) in
    fitted-all (text_of a.work.now a.n) a.out.now _ c.put_text-2.result n (omega (arith, n)) (c.put_text-2.ensures.put (omega arith))
