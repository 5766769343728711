-- `replay::State::join` meets its contract. Assumes nothing.
use mathlib.Core.Path.{refl, sym, ◌∙◌}
use borrow.Author.Tests.{eq-eqb, ne_eqb}
use Rattle.record.specs.Faults.{first_fault}
use Rattle.replay.proofs.State.join.Goals.{then-child-t-via-then-child-t, then-child-t-via-else-child-t+then-life-eq0}
use Rattle.replay.proofs.State.join.Goals as goal

pub returns-then-child-t : goal.returns-then-child-t
unfolding first_fault
returns-then-child-t c =
    elim c.then-child-t.branch [
      | then-child-t-via-then-child-t w ↦ (rw (eq-eqb _ _ w.if-child-t.true), refl)
      | then-child-t-via-else-child-t+then-life-eq0 w ↦ (rw (ne_eqb _ _ w.if-child-t.false, eq-eqb _ _ (sym w.life.ensures ∙ w.if-life-eq0.true)), refl)
    ]

pub returns : goal.returns
unfolding first_fault
returns c = (rw (ne_eqb _ _ c.if-child-t.false, ne_eqb _ _ (λ e. c.if-life-eq0.false (c.life.ensures ∙ e))), c.set_life.ensures)
