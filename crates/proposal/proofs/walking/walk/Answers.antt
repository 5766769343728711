-- `proposal::walking::walk` meets its contract: a step for each event.
use Prim.Native.Nat.{ℕ, ◌<◌}
use native.Mathlib.Omega.{arith}
use native.Mathlib.Numerals.{add-one}
use mathlib.Core.Path.{◌≡◌, refl, sym, ap, ◌∙◌, subst}
use mathlib.Core.Bool.{Bool}
use lib.ListN.{length, set, drop, length-set, length-drop}
use Rattle.std.proofs.Common.{rules}
use Rattle.std.proofs.Common.{Ok, Err}
use Rattle.record.specs.Answers.{number}
use Rattle.record.proofs.Laws.{number-some}
use Rattle.rows.specs.Bits.{begun}
use Rattle.rows.proofs.Laws.{rest-begun}
use Rattle.looking.specs.Refusals.{events}
use Rattle.looking.proofs.Scanned.{Cut, cut_at, events-size}
use Rattle.proposal.specs.Keeping.{Kept, kept_of, step_as}
use Rattle.proposal.proofs.Keeping.{represents-none}
use Rattle.proposal.proofs.Underway.{event-is, Under, bit-small, under_none, thread-small, step_right, under_next, walked_stop, walked_end, walked_from}
use Rattle.proposal.proofs.walking.walk.Goals.{At-loop-i}
use Rattle.proposal.proofs.walking.walk.Goals as goal

-- at the loop the rows are as many as there were, and those past the square are as they were
begun-rows : (c : At-loop-i) → c.new-builder.result.work.now ≡ begun 512 c.args.work.now
begun-rows c = ap (λ k. k.rows) c.new-builder.ensures.starts.0

rows-rest : (c : At-loop-i) → drop 4096 c.new-builder.result.work.now ≡ drop 4096 c.args.work.now
rows-rest c = ap (drop 4096) (begun-rows c) ∙ rest-begun 512 c.args.work.now c.requires.1

pub loop-i-init : goal.loop-i-init
loop-i-init c =
    let a = c.args in
    let pre = c.requires in
    let k : Kept = kept_of c.new-builder.result in
    let starts = c.new-builder.ensures.starts in
    let none : c.into_iter-i-iterator.result.count ≡ 0 = cc in
    record {
      goes = search rules;
      ends = search rules;
      size = search rules;
      rest = rw none (search rules);
      within = omega arith;
      most = omega (arith, starts.1);
      marks-size = c.told-marks;
      same_work = refl;
      under = rw none (subst (λ n. Under (events a.input.now) a.marks.now k.rows k n 0) (sym starts.1)
          (under_none (events a.input.now) k.rows a.marks.now k pre.2 pre.3
          (represents-none k a.work.now pre.1 (ap (λ b. b.cells) starts.0) (ap (λ b. b.rows) starts.0) (ap (λ b. b.tally) starts.0)) refl));
    }

pub place-requires : goal.place-requires
place-requires c =
    let at = c.loop-i in
    let s = c.in-Some.ensures.steps in
    let i = c.loop-i.invariant in
    let n : ℕ = c.loop-i.i-iterator.count in
    let t : Cut c.args.input.now c.in-Some.bytes.now c.next.new.self.iter.rest.now n =
    cut_at _ _ _ _ _ i.rest s.0.1.0 (s.0.1.1 ∙ i.size) i.within in
    thread-small (events c.args.input.now) c.new-builder.result.work.now at.marks (kept_of at.builder) at.builder.built n
    i.under (omega (arith, events-size c.args.input.now, t.within)) _ (event-is c.args.input.now c.in-Some.bytes.now n t.within t.is _ c.event_of.ensures)

pub bounds-marks-i : goal.bounds-marks-i
bounds-marks-i c =
    let s = c.in-Some.ensures.steps in
    let i = c.loop-i.invariant in
    let n : ℕ = c.loop-i.i-iterator.count in
    let t : Cut c.args.input.now c.in-Some.bytes.now c.next.new.self.iter.rest.now n =
    cut_at _ _ _ _ _ i.rest s.0.1.0 (s.0.1.1 ∙ i.size) i.within in
    omega (arith, t.within, s.1, i.marks-size, c.requires.0)

pub returns-in-Err : goal.returns-in-Err
returns-in-Err c =
    let at = c.loop-i in
    let es = events c.args.input.now in
    let f : ℕ = number c.in-Err.fault in
    let k : Kept = kept_of at.builder in
    let r = step_as (Err f) (kept_of c.place.new.self) in
    let s = c.in-Some.ensures.steps in
    let i = c.loop-i.invariant in
    let n : ℕ = c.loop-i.i-iterator.count in
    let t : Cut c.args.input.now c.in-Some.bytes.now c.next.new.self.iter.rest.now n =
    cut_at _ _ _ _ _ i.rest s.0.1.0 (s.0.1.1 ∙ i.size) i.within in
    let inside : n < length es = omega (arith, events-size c.args.input.now, t.within) in
    let own = event-is c.args.input.now c.in-Some.bytes.now n t.within t.is c.event_of.result c.event_of.ensures in
    let names = c.new-builder.ensures.same_work in
    let kept = i.same_work in
    let again = c.in-Err.ensures.same_work in
    let walk = walked_from es at.marks c.args.work.now c.new-builder.result.work.now c.place.new.self.work.now _ (rows-rest (goal.at.returns-in-Err c).At-loop-i)
    (walked_stop es c.new-builder.result.work.now at.marks k at.builder.built n i.under inside r
    (step_right es c.new-builder.result.work.now at.marks k at.builder.built n i.under inside _ own r c.in-Err.ensures.steps) f refl (number-some c.in-Err.fault)) in
    rw s.1 (grind arith)

pub loop-i-preserved : goal.loop-i-preserved
loop-i-preserved c =
    let es = events c.args.input.now in
    let at = c.loop-i in
    let mark : Bool = c.in-Ok.mark in
    let k : Kept = kept_of at.builder in
    let r = step_as (Ok mark) (kept_of c.place.new.self) in
    let counts = c.in-Ok.ensures.counts in
    let s = c.in-Some.ensures.steps in
    let i = c.loop-i.invariant in
    let n : ℕ = c.loop-i.i-iterator.count in
    let t : Cut c.args.input.now c.in-Some.bytes.now c.next.new.self.iter.rest.now n =
    cut_at _ _ _ _ _ i.rest s.0.1.0 (s.0.1.1 ∙ i.size) i.within in
    let inside : n < length es = omega (arith, events-size c.args.input.now, t.within) in
    let own = event-is c.args.input.now c.in-Some.bytes.now n t.within t.is c.event_of.result c.event_of.ensures in
    record {
      goes = search rules;
      ends = search rules;
      size = search rules;
      rest = rw s.2 t.rest;
      within = omega arith;
      most = omega (arith, counts, bit-small mark, i.most, s.2);
      marks-size = length-set at.marks c.in-Some.i mark ∙ i.marks-size;
      same_work = c.place.ensures.same_work ∙ i.same_work;
      under = rw (s.1, s.2) (subst (Under es (set at.marks n mark) c.new-builder.result.work.now r.kept c.place.new.self.built) (sym (add-one n))
          (under_next es c.new-builder.result.work.now at.marks k at.builder.built n i.under inside r
          (step_right es c.new-builder.result.work.now at.marks k at.builder.built n i.under inside _ own r c.in-Ok.ensures.steps)
          mark refl (omega (arith, i.marks-size, t.within, c.requires.0)) c.place.new.self.built counts));
    }

pub returns : goal.returns
returns c =
    let at = c.loop-i in
    let i = c.loop-i.invariant in
    let s = c.in-None.ensures.steps in
    let n : ℕ = c.loop-i.i-iterator.count in
    let es = events c.args.input.now in
    let names = c.new-builder.ensures.same_work in
    let kept = i.same_work in
    let walk = walked_from es at.marks c.args.work.now c.new-builder.result.work.now at.builder.work.now _ (rows-rest (goal.at.returns c).At-loop-i)
    (walked_end es c.new-builder.result.work.now at.marks (kept_of at.builder) at.builder.built n i.under (omega (arith, events-size c.args.input.now, ap length i.rest, length-drop {A = ℕ}))) in
    grind arith
