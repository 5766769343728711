-- `replay::State::step` meets its contract: the thread's life and wait, and then what its operation's part of the machine says. Assumes nothing.
use mathlib.Core.Path.{◌≡◌, sym, ◌∙◌}
use native.Mathlib.Omega.{arith}
use Rattle.replay.specs.Machine.{forked, life_of, wait_of, wait_before}
use Rattle.replay.proofs.Laws.{lives-within, life-wrong, wait-wrong, rights}
use Rattle.replay.proofs.State.step.Goals.{Else-life-ne1, Else-wait-wait_before}
use Rattle.replay.proofs.State.step.Goals as goal

-- past the first test the thread lives, and past the second it waits on what its operation asks
life : (c : Else-life-ne1) → life_of c.args.self.now c.args.e.thread ≡ forked
life c = sym c.life.ensures ∙ c.if-life-ne1.false

wait : (c : Else-wait-wait_before) → wait_of c.args.self.now c.args.e.thread ≡ wait_before c.args.e.op
wait c = sym c.wait.ensures ∙ c.if-wait-wait_before.false ∙ c.wait_before.ensures

pub returns-then-life-ne1 : goal.returns-then-life-ne1
returns-then-life-ne1 c = life-wrong _ _ (λ e. c.if-life-ne1.true (c.life.ensures ∙ e))

pub returns-then-wait-wait_before : goal.returns-then-wait-wait_before
returns-then-wait-wait_before c = wait-wrong _ _ (life (goal.at.returns-then-wait-wait_before c).Else-life-ne1) (λ e. c.if-wait-wait_before.true (c.wait.ensures ∙ e ∙ sym c.wait_before.ensures))

pub act-requires : goal.act-requires
act-requires c = lives-within c.args.self.now.lives _ 16 (life (goal.at.act-requires c).Else-life-ne1) (omega arith)

pub returns : goal.returns
returns c = rights _ _ _ _ (life (goal.at.returns c).Else-life-ne1) (wait (goal.at.returns c).Else-wait-wait_before) c.act.ensures
