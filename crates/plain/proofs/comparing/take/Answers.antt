use Prim.Native.Nat.{ℕ}
use mathlib.Core.Path.{sym, ap, ◌∙◌}
use mathlib.Core.Bool.{Bool, not, cond}
use mathlib.Core.List.{List}
use Rattle.graph.specs.declared.Labelled.{Labelled}
use Rattle.ancestors.specs.Sources.{spread_to, code}
use Rattle.ancestors.proofs.Joining.{joins-meeting, joins-closed}
use Rattle.ancestors.proofs.Searching.{closes-under, closes-over, rows_under, rows-over}
use Rattle.plain.specs.Plain.{sources, few}
use Rattle.plain.proofs.Pairs.{is-cycle, is-nothing}
use Rattle.plain.proofs.comparing.take.Goals.{then-ne, else-ne}
use Rattle.plain.proofs.comparing.take.Goals as goal

pub returns-then-x-ge512 : goal.returns-then-x-ge512
returns-then-x-ge512 c =
    let a = c.args in
    let ys : List Labelled = few a.earlier.now in
    (sym (closes-over sources ys a.work.now a.n a.x c.if-x-ge512.true), sym (rows-over sources ys a.work.now a.n a.x c.if-x-ge512.true))

pub returns : goal.returns
returns c =
    let a = c.args in
    let t : ℕ = a.x.transaction in
    let ys : List Labelled = few a.earlier.now in
    let found = c.join_earlier-found.result in
    let v : List ℕ = c.join_earlier-found.new.work in
    let some = c.ne.ensures ∙ ap not (is-nothing found) in (
      c.eq.ensures ∙ is-cycle found ∙ joins-meeting a.work.now t (sources ys a.x) (code found) v c.join_earlier-found.ensures ∙ sym (closes-under sources ys a.work.now a.n a.x c.if-x-ge512.false),
      joins-closed a.work.now t (sources ys a.x) (code found) v c.join_earlier-found.ensures a.n c.if-ne.work
          (elim c.if-ne.branch [
            | then-ne w ↦ w.work-is ∙ w.spread.ensures ∙ sym (ap (λ (b : Bool). cond b (spread_to a.n v t) v) (sym some ∙ w.if-ne.true))
            | else-ne w ↦ w.work-is ∙ sym (ap (λ (b : Bool). cond b (spread_to a.n v t) v) (sym some ∙ w.if-ne.false))
          ])
          ∙ sym (rows_under sources ys a.work.now a.n a.x c.if-x-ge512.false),
    )
