-- `ancestors::begun_with` meets its contract.
use native.Mathlib.Numerals.{add-one}
use mathlib.Core.Path.{sym, ◌∙◌}
use Rattle.ancestors.proofs.Joining.{begun_first, begun-other, begun-over}
use Rattle.ancestors.proofs.begun_with.Goals.{else-a-n-via-then-a-n+else-a-lt512, else-a-n-via-else-a-n}
use Rattle.ancestors.proofs.begun_with.Goals as goal

pub returns-then-a-lt512 : goal.returns-then-a-lt512
returns-then-a-lt512 c = add-one _ ∙ sym (begun_first _ _ c.if-a-n.true c.if-a-lt512.true)

pub returns-else-a-n : goal.returns-else-a-n
returns-else-a-n c =
    elim c.else-a-n.branch [
      | else-a-n-via-then-a-n+else-a-lt512 w ↦ sym (begun-over _ _ w.if-a-lt512.false)
      | else-a-n-via-else-a-n w ↦ sym (begun-other _ _ w.if-a-n.false)
    ]
