use mathlib.Core.Path.{sym, ◌∙◌}
use Rattle.plain.proofs.Pairs.{joins-same, joins-over, joins-known, joins-apart, joins-edge}
use Rattle.plain.proofs.comparing.join_edge.Goals.{else-b-a-via-then-b-a+then-b-lt512+then-not-test+else-conflicts, else-b-a-via-then-b-a+then-b-lt512+else-not-test, else-b-a-via-then-b-a+else-b-lt512, else-b-a-via-else-b-a}
use Rattle.plain.proofs.comparing.join_edge.Goals as goal

pub returns-then-conflicts : goal.returns-then-conflicts
returns-then-conflicts c = joins-edge _ _ _ c.if-b-a.true c.if-b-lt512.true (sym c.conflicts.ensures ∙ c.if-conflicts.true) _ _ c.join_source.ensures

pub returns : goal.returns
returns c = elim c.else-b-a.branch [
  | else-b-a-via-then-b-a+then-b-lt512+then-not-test+else-conflicts w ↦ joins-apart _ _ _ w.if-b-a.true (sym w.conflicts.ensures ∙ w.if-conflicts.false)
  | else-b-a-via-then-b-a+then-b-lt512+else-not-test w ↦ joins-known _ _ _ (sym w.test.ensures ∙ w.if-not-test.false)
  | else-b-a-via-then-b-a+else-b-lt512 w ↦ joins-over _ _ _ w.if-b-lt512.false
  | else-b-a-via-else-b-a w ↦ joins-same _ _ _ w.if-b-a.false
]
