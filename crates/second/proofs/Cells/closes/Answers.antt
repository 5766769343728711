use mathlib.Core.Path.{sym, ap, ◌∙◌}
use mathlib.Core.List.{map}
use Rattle.ancestors.specs.Sources.{leads}
use Rattle.second.specs.Cells.{cell, asked}
use Rattle.second.proofs.ByKind.{closing-is, leads-true, leads-later}
use Rattle.second.proofs.Cells.closes.Goals as goal

pub returns-then-leads : goal.returns-then-leads
returns-then-leads c =
    let a = c.args in
    c.if-leads.true ∙ leads-true _ _ (map (cell a.self.now) (asked a.e.op)) (sym (c.leads.ensures ∙ ap (leads a.work.now a.a) c.entry.ensures) ∙ c.if-leads.true) ∙ sym (closing-is a.self.now a.work.now a.a a.e)

pub returns-else-leads : goal.returns-else-leads
returns-else-leads c =
    let a = c.args in
    c.target_leads.ensures
    ∙ leads-later _ _ _ (sym (c.leads.ensures ∙ ap (leads a.work.now a.a) c.entry.ensures) ∙ c.if-leads.false)
    ∙ sym (closing-is a.self.now a.work.now a.a a.e)
