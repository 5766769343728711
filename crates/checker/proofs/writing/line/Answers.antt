-- `checker::writing::line` meets its contract: by the transaction's first record.
use mathlib.Core.Path.{sym, ap, ◌∙◌}
use Rattle.graph.specs.declared.Labelled.{Labelled}
use Rattle.graph.specs.Held.{record_past_end}
use Rattle.checker.proofs.Linking.{first-linked, line, line_some, line_none}
use Rattle.checker.proofs.writing.line.Goals as goal

pub returns-in-Some : goal.returns-in-Some
returns-in-Some c =
    let a = c.args in
    let found = c.in-Some.ensures.lookup.3 in
    ap (λ (x : Labelled). line a.a x.event.thread c.first_of-first.result) (found.1 record_past_end)
    ∙ sym (line_some a.records.now c.requires.0 a.a c.first_of-first.result (c.first_of-first.ensures ∙ first-linked a.records.now a.chains.now.firsts a.chains.now.nexts c.requires.1 c.requires.2 a.a) found.0)

pub returns-in-None : goal.returns-in-None
returns-in-None c =
    let a = c.args in
    sym (line_none a.records.now c.requires.0 a.a c.first_of-first.result (c.first_of-first.ensures ∙ first-linked a.records.now a.chains.now.firsts a.chains.now.nexts c.requires.1 c.requires.2 a.a) c.in-None.ensures.lookup.3)
