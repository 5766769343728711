-- `proposal::walking::Builder::make_room` meets its contract: with a yield or without, each with room or without.
use mathlib.Core.Path.{sym, ◌∙◌}
use Rattle.record.proofs.Laws.{number-some}
use Rattle.proposal.proofs.Putting.{yield-fits, ready-short, ready-yield, ready-short-alone, ready-alone}
use Rattle.proposal.proofs.walking.Builder.make_room.Goals as goal

pub returns-then-self-gt1023-clause-readies : goal.returns-then-self-gt1023-clause-readies
returns-then-self-gt1023-clause-readies c = ready-short-alone _ _ _ (sym c.needs_yield.ensures ∙ c.if-not-needs_yield.true) c.if-self-gt1023.true

pub returns-then-not-needs_yield-clause-readies : goal.returns-then-not-needs_yield-clause-readies
returns-then-not-needs_yield-clause-readies c = ready-alone _ _ _ (sym c.needs_yield.ensures ∙ c.if-not-needs_yield.true) c.if-self-gt1023.false

pub returns-then-self-gt1022-clause-readies : goal.returns-then-self-gt1022-clause-readies
returns-then-self-gt1022-clause-readies c = ready-short _ _ _ (sym c.needs_yield.ensures ∙ c.if-not-needs_yield.false) c.if-self-gt1022.true

pub returns-in_err-put-clause-readies : goal.returns-in_err-put-clause-readies
returns-in_err-put-clause-readies c =
    absurd (number-some c.in_err-put.field-0.0 (c.in_err-put.ensures.puts.0 ∙ yield-fits _ _ c.args.self.now.built (sym c.needs_yield.ensures ∙ c.if-not-needs_yield.false)))

pub returns-clause-readies : goal.returns-clause-readies
returns-clause-readies c = ready-yield _ _ _ (sym c.needs_yield.ensures ∙ c.if-not-needs_yield.false) _ c.if-self-gt1022.false c.put.ensures.puts.1
