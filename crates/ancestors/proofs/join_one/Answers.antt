-- `ancestors::join_one` meets its contract.
use mathlib.Core.Path.{sym, ◌∙◌}
use Rattle.ancestors.proofs.Joining.{other-some, joins-held, joins-own}
use Rattle.ancestors.proofs.join_one.Goals as goal

pub overflow_sub-held : goal.overflow_sub-held
overflow_sub-held c = other-some _ _ (sym c.is_other.ensures ∙ c.if-is_other.true)

pub returns-then-is_other : goal.returns-then-is_other
returns-then-is_other c = joins-held _ _ _ _ _ (sym c.is_other.ensures ∙ c.if-is_other.true) c.join_source.ensures

pub returns : goal.returns
returns c = joins-own _ _ _ (sym c.is_other.ensures ∙ c.if-is_other.false)
