-- `naming::cycle::candidate` meets its contract.
use mathlib.Core.Path.{sym, ap, ◌∙◌}
use mathlib.Core.Bool.{not}
use borrow.Author.Tests.{eq-eqb, ne_eqb, lt-ltb, le-ltb}
use Rattle.naming.proofs.Lowest.{candidate-some, candidate-own, candidate-away, candidate-beyond}
use Rattle.naming.proofs.cycle.candidate.Goals.{else-b-lt512-via-then-b-lt512+then-b-t+else-test, else-b-lt512-via-then-b-lt512+else-b-t, else-b-lt512-via-else-b-lt512}
use Rattle.naming.proofs.cycle.candidate.Goals as goal

pub returns-then-test : goal.returns-then-test
returns-then-test c =
    sym (candidate-some c.args.work.now c.args.t c.args.b (lt-ltb c.args.b 512 c.if-b-lt512.true) (ap not (ne_eqb c.args.b c.args.t c.if-b-t.true)) (sym c.test.ensures ∙ c.if-test.true))

pub returns : goal.returns
returns c =
    sym (elim c.else-b-lt512.branch [
      | else-b-lt512-via-then-b-lt512+then-b-t+else-test w ↦ candidate-away c.args.work.now c.args.t c.args.b (sym w.test.ensures ∙ w.if-test.false)
      | else-b-lt512-via-then-b-lt512+else-b-t w ↦ candidate-own c.args.work.now c.args.t c.args.b (ap not (eq-eqb c.args.b c.args.t w.if-b-t.false))
      | else-b-lt512-via-else-b-lt512 w ↦ candidate-beyond c.args.work.now c.args.t c.args.b (le-ltb c.args.b 512 w.if-b-lt512.false)
    ])
