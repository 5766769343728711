-- `scan::kind_named`: the word is no name of a kind below `kind`.
use native.Mathlib.Omega.{arith}
use mathlib.Core.Path.{refl, sym, ap, ◌∙◌}
use Rattle.text.specs.Line.{kind_named, same_word}
use Rattle.text.proofs.Scans.{same-pointwise, named_here, named-on, named_none}
use Rattle.text.proofs.scan.kind_named.Goals as goal

pub loop-kind-init : goal.loop-kind-init
unfolding kind_named
loop-kind-init c = refl

pub returns-then-eq-clause-named : goal.returns-then-eq-clause-named
returns-then-eq-clause-named c =
    let word = c.args.word.now in
    let k = c.loop-kind.kind in
    let same = ap (same_word word) (sym c.name.ensures) ∙ sym (c.eq.ensures ∙ same-pointwise word c.name.result.now) in
    sym (c.loop-kind.invariant ∙ named_here word k (omega arith) (omega arith) (same ∙ c.if-eq.true))

pub loop-kind-preserved : goal.loop-kind-preserved
loop-kind-preserved c =
    let word = c.args.word.now in
    let k = c.loop-kind.kind in
    let same = ap (same_word word) (sym c.name.ensures) ∙ sym (c.eq.ensures ∙ same-pointwise word c.name.result.now) in
    c.loop-kind.invariant ∙ named-on word k (omega arith) (omega arith) (same ∙ c.if-eq.false)

pub returns-clause-named : goal.returns-clause-named
returns-clause-named c = sym (c.loop-kind.invariant ∙ named_none c.args.word.now c.loop-kind.kind (omega arith))
