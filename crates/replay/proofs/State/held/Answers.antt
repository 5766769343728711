-- `replay::State::held` meets its contract. Assumes nothing.
use mathlib.Core.Path.{refl, sym, ◌∙◌}
use native.Mathlib.Numerals.{add-one}
use Rattle.replay.proofs.Laws.{finds-same, finds-other}
use Rattle.replay.proofs.State.held.Goals as goal

pub returns-then-holder-t : goal.returns-then-holder-t
returns-then-holder-t c = (finds-other _ _ _ (λ e. c.if-holder-t.true (c.holder.ensures ∙ e ∙ sym (add-one _))), refl)

pub returns : goal.returns
returns c = (finds-same _ _ _ (sym c.holder.ensures ∙ c.if-holder-t.false ∙ add-one _), refl)
