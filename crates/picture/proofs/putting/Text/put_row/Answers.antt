-- `picture::putting::Text::put_row` meets its contract: the lines of the edges to those below b are put.
use Prim.Native.Nat.{ℕ, ◌+◌}
use native.Mathlib.Omega.{arith}
use mathlib.Core.Path.{refl, sym, ◌∙◌}
use mathlib.Core.List.{List}
use Rattle.picture.specs.Putting.{link_line, row_lines}
use Rattle.picture.proofs.Pieces.{puts_none, puts-as, goes-more, goes_end}
use Rattle.picture.proofs.Texts.{link-some, link-none, row_from, row-whole, row_next, row-end}
use Rattle.picture.proofs.putting.Text.put_row.Goals.{then-test, else-test}
use Rattle.picture.proofs.putting.Text.put_row.Goals as goal

pub loop-b-init : goal.loop-b-init
loop-b-init c =
    let g = c.args in
    record { same_output = refl; most = omega arith; goes = λ m r p. puts-as g.self.now.end r g.self.now.out.now m (sym (row-whole g.work.now g.n g.a)) p }

pub loop-b-preserved : goal.loop-b-preserved
loop-b-preserved c =
    let g = c.args in
    let i = c.loop-b.invariant in
    let more = λ (at : ℕ) (out : List ℕ). goes-more (row_lines g.work.now g.n g.a) g.self.now.end g.self.now.out.now (link_line g.work.now g.a c.loop-b.b) (row_from g.work.now g.n g.a c.loop-b.b)
    (row_from g.work.now g.n g.a (c.loop-b.b + 1)) c.loop-b.self.end at c.loop-b.self.out.now out (row_next g.work.now g.n g.a c.loop-b.b (omega arith)) in
    elim c.if-test.branch [
      | then-test w ↦ rw w.self-is (record {
        same_output = w.put_edge.ensures.same_output ∙ i.same_output;
        most = omega (arith, w.put_edge.ensures.most);
        goes = more _ _ (puts-as _ _ _ _ (sym (link-some g.work.now g.a c.loop-b.b (sym c.test.ensures ∙ w.if-test.true))) w.put_edge.ensures.put) i.goes;
      })
      | else-test w ↦ rw w.self-is (record {
        same_output = i.same_output;
        most = omega arith;
        goes = more _ _ (puts-as _ _ _ _ (sym (link-none g.work.now g.a c.loop-b.b (sym c.test.ensures ∙ w.if-test.false))) (puts_none _ _)) i.goes;
      })
    ]

pub returns : goal.returns
returns c =
    let g = c.args in
    let i = c.loop-b.invariant in
    record {
      same_output = i.same_output;
      put = goes_end (row_lines g.work.now g.n g.a) g.self.now.end g.self.now.out.now (row_from g.work.now g.n g.a c.loop-b.b) _ _ (row-end g.work.now g.n g.a c.loop-b.b (omega arith)) i.goes;
      most = omega arith;
    }
