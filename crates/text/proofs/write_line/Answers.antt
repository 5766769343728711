-- `text::write_line`: the bytes of the line, where they fit.
use native.Mathlib.Omega.{arith}
use mathlib.Core.Path.{sym, ap, ap₂, ◌∙◌}
use mathlib.Core.List.{◌++◌}
use lib.ListN.{length, drop}
use Rattle.lists.specs.Lists.{over}
use Rattle.text.proofs.Wholes.{line-fits, line-unfit}
use Rattle.text.proofs.write_line.Goals as goal

pub returns-then-out-size : goal.returns-then-out-size
returns-then-out-size c =
    let a = c.args in
    let u = line-unfit a.e a.out.now (omega (arith, c.len-size.ensures.size, ap length c.line_of-line.ensures)) in
    (sym u.0, sym u.1)

pub returns : goal.returns
unfolding over
returns c =
    let a = c.args in
    let n = c.len-size.ensures.size ∙ ap length c.line_of-line.ensures in
    let u = line-fits a.e a.out.now (omega (arith, n)) in
    (n ∙ sym u.0, ap₂ (λ x i. x ++ drop i a.out.now) (c.copy_from_slice.ensures.after ∙ c.as_slice.ensures ∙ c.line_of-line.ensures) n ∙ sym u.1)
