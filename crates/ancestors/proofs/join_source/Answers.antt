-- `ancestors::join_source` meets its contract.
use mathlib.Core.Path.{sym, ap, ◌∙◌}
use mathlib.Core.Bool.{Bool, cond}
use Rattle.ancestors.proofs.Joining.{joins-old, joins-new}
use Rattle.ancestors.proofs.join_source.Goals as goal

pub returns-then-test : goal.returns-then-test
returns-then-test c = joins-old _ _ _ (sym c.test.ensures ∙ c.if-test.true)

pub returns-then-back : goal.returns-then-back
returns-then-back c =
    joins-new _ _ _ _ _ (sym c.test.ensures ∙ c.if-test.false)
    (sym (ap (λ (b : Bool). cond b 2 1) (sym c.test-back.ensures ∙ c.if-back.true))) c.join.ensures

pub returns-else-back : goal.returns-else-back
returns-else-back c =
    joins-new _ _ _ _ _ (sym c.test.ensures ∙ c.if-test.false)
    (sym (ap (λ (b : Bool). cond b 2 1) (sym c.test-back.ensures ∙ c.if-back.false))) c.join.ensures
