-- `replay::State::fork` meets its contract. Assumes nothing.
use mathlib.Core.Path.{refl, sym, ◌∙◌}
use Rattle.replay.proofs.Laws.{finds-same, finds-other}
use Rattle.replay.proofs.State.fork.Goals as goal

pub returns-then-life-ne0 : goal.returns-then-life-ne0
returns-then-life-ne0 c = (finds-other _ _ _ (λ e. c.if-life-ne0.true (c.life.ensures ∙ e)), refl)

pub returns : goal.returns
returns c = (finds-same _ _ _ (sym c.life.ensures ∙ c.if-life-ne0.false), c.set_life.ensures)
