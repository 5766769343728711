-- `replay::State::acquire` meets its contract. Assumes nothing.
use mathlib.Core.Path.{refl, sym, ◌∙◌}
use native.Mathlib.Numerals.{add-one}
use Rattle.replay.proofs.Laws.{finds-same, finds-other}
use Rattle.replay.proofs.State.acquire.Goals as goal

pub returns-then-holder-ne0 : goal.returns-then-holder-ne0
returns-then-holder-ne0 c = (finds-other _ _ _ (λ e. c.if-holder-ne0.true (c.holder.ensures ∙ e)), refl)

pub returns : goal.returns
returns c = (finds-same _ _ _ (sym c.holder.ensures ∙ c.if-holder-ne0.false), rw (← add-one _) c.set_holder.ensures)
