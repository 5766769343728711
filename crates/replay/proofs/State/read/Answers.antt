-- `replay::State::read` meets its contract. Assumes nothing.
use mathlib.Core.Path.{refl, sym, ◌∙◌}
use mathlib.Core.Logic.{inl, inr}
use native.Mathlib.Numerals.{add-one}
use Rattle.replay.proofs.Laws.{read-wrong, read-right}
use Rattle.replay.proofs.State.read.Goals.{else-held-ne0-via-then-held-ne0+else-held-given, else-held-ne0-via-else-held-ne0}
use Rattle.replay.proofs.State.read.Goals as goal

pub returns-then-held-given : goal.returns-then-held-given
returns-then-held-given c = (read-wrong _ _ c.if-held-ne0.true (λ e. c.if-held-given.true (e ∙ sym (add-one _))), refl)

pub returns : goal.returns
returns c = (
  elim c.else-held-ne0.branch [
    | else-held-ne0-via-then-held-ne0+else-held-given w ↦ read-right _ _ (inr (w.if-held-given.false ∙ add-one _))
    | else-held-ne0-via-else-held-ne0 w ↦ read-right _ _ (inl w.if-held-ne0.false)
  ],
  rw add-one refl,
)
