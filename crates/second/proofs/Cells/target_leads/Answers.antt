-- `second::Cells::target_leads` meets its contract: what each kind asks.
use native.Mathlib.Omega.{arith}
use mathlib.Core.Logic.{inl, inr}
use mathlib.Core.Path.{refl, sym, ap, ◌∙◌}
use Rattle.lists.specs.Lists.{some_of}
use Rattle.lists.proofs.Tests.{by-same}
use Rattle.ancestors.specs.Sources.{leads}
use Rattle.second.proofs.ByKind.{at-read, at-write, at-lock, at-join, asks-none, leads_one, leads-true, leads-later, readers-asked, some-any}
use Rattle.second.proofs.Cells.target_leads.Goals as goal

pub returns-in-0-to-1 : goal.returns-in-0-to-1
returns-in-0-to-1 c = rw ((at-read 0 c.args.op c.kind_of.result c.target-at.result c.kind_of.ensures c.target-at.ensures (omega arith)).0) (c.leads-in-0-to-1.ensures ∙ leads_one _ _)

pub returns-then-leads : goal.returns-then-leads
returns-then-leads c =
    rw ((at-write 0 c.args.op c.kind_of.result c.target-at.result c.kind_of.ensures c.target-at.ensures (omega arith)).0) (c.if-leads.true ∙ leads-true _ _ _ (sym c.leads.ensures ∙ c.if-leads.true))

pub returns-else-leads : goal.returns-else-leads
returns-else-leads c =
    rw ((at-write 0 c.args.op c.kind_of.result c.target-at.result c.kind_of.ensures c.target-at.ensures (omega arith)).0)
    (c.reader_leads.ensures ∙ some-any _ _ ∙ ap (some_of (leads c.args.work.now c.args.a)) (sym (readers-asked c.args.self.now c.target-at.result)) ∙ leads-later _ _ _ (sym c.leads.ensures ∙ c.if-leads.false))

pub returns-in-3-to-7 : goal.returns-in-3-to-7
returns-in-3-to-7 c =
    rw ((at-lock 0 c.args.op c.kind_of.result c.target-at.result c.kind_of.ensures c.target-at.ensures (omega arith) (omega arith)).0)
    (c.leads-in-3-to-7.ensures ∙ ap (leads c.args.work.now c.args.a) c.entry-in-3-to-7.ensures ∙ leads_one _ _)

pub returns-in-9 : goal.returns-in-9
returns-in-9 c =
    rw ((at-join 0 c.args.op c.kind_of.result c.target-at.result c.kind_of.ensures c.target-at.ensures (omega arith)).0)
    (c.leads-in-9.ensures ∙ ap (leads c.args.work.now c.args.a) c.entry.ensures ∙ leads_one _ _)

pub returns-in_default : goal.returns-in_default
unfolding some_of
returns-in_default c = rw (asks-none 0 c.args.op c.kind_of.result c.target-at.result c.kind_of.ensures c.target-at.ensures (by-same c.kind_of.result 8 inl (λ ne. inr (omega (arith, ne))))) refl
