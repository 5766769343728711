-- `picture::draw` meets its contract: the sizes, all records, the rows of edges, the text, and the rows cleared.
use native.Mathlib.Omega.{arith}
use mathlib.Core.Path.{sym, ap, ◌∙◌}
use lib.Seq.{length-take-le}
use Rattle.record.specs.Answers.{refused_as, refusal_in}
use Rattle.record.proofs.Laws.{number-some}
use Rattle.picture.proofs.Endings.{work-long, left, refused_by_fault, drawn-unsized, drawn-faulty, most, all_few, count-few, drawn-put}
use Rattle.picture.proofs.draw.Goals as goal

pub returns-in_err-check_sizes : goal.returns-in_err-check_sizes
returns-in_err-check_sizes c =
    let a = c.args in
    let f = c.in_err-check_sizes.field-0.0 in
    ap (λ n. left n a.out.now a.work.now) (refused_by_fault c.from_residual.result f c.from_residual.ensures.1)
    ∙ drawn-unsized a.input.now a.out.now a.work.now _ c.in_err-check_sizes.ensures (number-some f)

pub returns-in-Some : goal.returns-in-Some
returns-in-Some c =
    let a = c.args in
    let e = ap refusal_in c.in-Some.is in
    ap (λ r. left (refused_as r) a.out.now a.work.now) (sym e)
    ∙ drawn-faulty a.input.now a.out.now a.work.now (sym c.in_ok-check_sizes.ensures) _ _ c.look-looked.ensures
    (λ z. number-some c.in-Some.refusal.fault (sym (ap (λ r. r.number) e) ∙ z))

pub slice_bounds-records-end : goal.slice_bounds-records-end
slice_bounds-records-end c =
    let a = c.args in
    omega (arith, most a.input.now a.out.now a.work.now (sym c.in_ok-check_sizes.ensures) _ _ c.look-looked.ensures (ap (λ r. (refusal_in r).number) c.in_default.is))

pub slice_bounds-link_all-end : goal.slice_bounds-link_all-end
slice_bounds-link_all-end c =
    let a = c.args in
    let few = most a.input.now a.out.now a.work.now (sym c.in_ok-check_sizes.ensures) _ _ c.look-looked.ensures (ap (λ r. (refusal_in r).number) c.in_default.is) in
    sym (length-take-le _ c.look-looked.new.records (omega (arith, few)))

pub link_all-requires : goal.link_all-requires
link_all-requires c =
    let a = c.args in (
      all_few a.input.now a.out.now a.work.now (sym c.in_ok-check_sizes.ensures) _ _ c.look-looked.ensures (ap (λ r. (refusal_in r).number) c.in_default.is),
      work-long a.input.now a.work.now (sym c.in_ok-check_sizes.ensures),
    )

pub put_fitting-answer-requires : goal.put_fitting-answer-requires
put_fitting-answer-requires c =
    let a = c.args in
    count-few a.input.now a.out.now a.work.now (sym c.in_ok-check_sizes.ensures) _ _ c.look-looked.ensures (ap (λ r. (refusal_in r).number) c.in_default.is)

pub returns : goal.returns
returns c =
    let a = c.args in
    drawn-put a.input.now a.out.now a.work.now (sym c.in_ok-check_sizes.ensures) _ _ c.look-looked.ensures (ap (λ r. (refusal_in r).number) c.in_default.is)
    _ c.link_all.ensures.0 c.link_all.ensures.1 _ _ _ c.put_fitting-answer.ensures c.clear.ensures
