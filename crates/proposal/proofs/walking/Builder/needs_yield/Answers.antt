-- `proposal::walking::Builder::needs_yield` meets its contract: a join and a thread's first begin a transaction; any other is asked of the cells and rows.
use mathlib.Core.Path.{◌≡◌, sym, ◌∙◌}
use Rattle.graph.specs.Conflict.{joins}
use Rattle.proposal.proofs.Putting.{is-join, no-join, needing-join, needing-first, needing-open}
use Rattle.proposal.proofs.walking.Builder.needs_yield.Goals.{in-Join, in_default, then-matches-via-then-matches, then-matches-via-else-matches+then-own-eq0}
use Rattle.proposal.proofs.walking.Builder.needs_yield.Goals as goal

pub returns-then-matches : goal.returns-then-matches
returns-then-matches c =
    let e = c.args.e in
    let joined : c.match-matches.matches ≡ joins e.op =
    elim c.match-matches.branch [
      | in-Join w ↦ w.matches-is ∙ sym (is-join e.op _ w.in-Join.is)
      | in_default w ↦ w.matches-is ∙ sym (no-join e.op w.in_default.not-Join)
    ] in
    elim c.then-matches.branch [
      | then-matches-via-then-matches w ↦ needing-join _ _ _ e (sym joined ∙ w.if-matches.true)
      | then-matches-via-else-matches+then-own-eq0 w ↦ needing-first _ _ _ e (sym joined ∙ w.if-matches.false) w.if-own-eq0.true
    ]

pub returns : goal.returns
returns c =
    let e = c.args.e in
    let joined : c.match-matches.matches ≡ joins e.op =
    elim c.match-matches.branch [
      | in-Join w ↦ w.matches-is ∙ sym (is-join e.op _ w.in-Join.is)
      | in_default w ↦ w.matches-is ∙ sym (no-join e.op w.in_default.not-Join)
    ] in
    c.closes.ensures ∙ needing-open _ _ _ e (sym joined ∙ c.if-matches.false) c.if-own-eq0.false
