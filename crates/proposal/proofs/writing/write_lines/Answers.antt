-- `proposal::writing::write_lines` meets its contract: a store for each yield.
use Prim.Native.Nat.{ℕ}
use native.Mathlib.Omega.{arith}
use native.Mathlib.Numerals.{add-one}
use mathlib.Core.Path.{◌≡◌, sym, ap, ◌∙◌, subst, subst₂}
use mathlib.Core.List.{List}
use lib.ListN.{length, get_or, set, length-drop}
use mathlib.Core.Bool.{false}
use Rattle.std.proofs.Common.{rules}
use Rattle.record.specs.declared.Event.{Event}
use Rattle.lists.specs.Lists.{over}
use Rattle.looking.specs.Refusals.{events}
use Rattle.looking.proofs.Scanned.{Cut, cut_at, events-size}
use Rattle.proposal.proofs.Underway.{event-is}
use Rattle.proposal.specs.Proposed.{yields_in, lines_from}
use Rattle.proposal.specs.Weaving.{woven}
use Rattle.proposal.proofs.Weaving.{Told, told_none, told-unmarked, told-marked}
use Rattle.proposal.proofs.writing.write_lines.Goals as goal

pub loop-i-init : goal.loop-i-init
loop-i-init c =
    let none : c.into_iter-i-iterator.result.count ≡ 0 = cc in
    record {
      goes = search rules;
      ends = search rules;
      size = search rules;
      rest = rw none (search rules);
      within = omega arith;
      told = rw none (told_none (events c.args.input.now) c.args.marks.now c.args.lines.now);
    }

pub bounds-marks-i : goal.bounds-marks-i
bounds-marks-i c =
    let s = c.in-Some.ensures.steps in
    let i = c.loop-i.invariant in
    let n : ℕ = c.loop-i.i-iterator.count in
    let t : Cut c.args.input.now c.in-Some.bytes.now c.next.new.self.iter.rest.now n =
    cut_at _ _ _ _ _ i.rest s.0.1.0 (s.0.1.1 ∙ i.size) i.within in
    omega (arith, t.within, s.1, c.requires, c.told-marks)

pub bounds-lines-yields : goal.bounds-lines-yields
bounds-lines-yields c =
    let s = c.in-Some.ensures.steps in
    let i = c.loop-i.invariant in
    let n : ℕ = c.loop-i.i-iterator.count in
    let t : Cut c.args.input.now c.in-Some.bytes.now c.next.new.self.iter.rest.now n =
    cut_at _ _ _ _ _ i.rest s.0.1.0 (s.0.1.1 ∙ i.size) i.within in
    omega (arith, t.within, i.told.most, c.requires, c.told-lines)

pub loop-i-preserved-then-marks-i : goal.loop-i-preserved-then-marks-i
loop-i-preserved-then-marks-i c =
    let a = c.args in
    let at = c.loop-i in
    let es : List Event = events a.input.now in
    let own : Event = c.event_of.result in
    let s = c.in-Some.ensures.steps in
    let i = c.loop-i.invariant in
    let n : ℕ = c.loop-i.i-iterator.count in
    let t : Cut c.args.input.now c.in-Some.bytes.now c.next.new.self.iter.rest.now n =
    cut_at _ _ _ _ _ i.rest s.0.1.0 (s.0.1.1 ∙ i.size) i.within in
    record {
      goes = search rules;
      ends = search rules;
      size = search rules;
      rest = rw s.2 t.rest;
      within = omega arith;
      told = rw (s.1, s.2) (subst₂ (λ (j k : ℕ). Told es a.marks.now a.lines.now (set at.lines at.yields (record { thread = own.thread; before = n })) j k) (sym (add-one at.yields)) (sym (add-one n))
          (told-marked es a.marks.now a.lines.now at.lines at.yields n i.told own (event-is a.input.now c.in-Some.bytes.now n t.within t.is own c.event_of.ensures)
          (ap (λ k. get_or a.marks.now k false) (sym s.1) ∙ c.if-marks-i.true) (omega (arith, t.within, i.told.size, i.told.most, c.requires, c.told-lines))));
    }

pub loop-i-preserved : goal.loop-i-preserved
loop-i-preserved c =
    let a = c.args in
    let at = c.loop-i in
    let es : List Event = events a.input.now in
    let s = c.in-Some.ensures.steps in
    let i = c.loop-i.invariant in
    let n : ℕ = c.loop-i.i-iterator.count in
    let t : Cut c.args.input.now c.in-Some.bytes.now c.next.new.self.iter.rest.now n =
    cut_at _ _ _ _ _ i.rest s.0.1.0 (s.0.1.1 ∙ i.size) i.within in
    record {
      goes = search rules;
      ends = search rules;
      size = search rules;
      rest = rw s.2 t.rest;
      within = omega arith;
      told = rw s.2 (subst (Told es a.marks.now a.lines.now at.lines at.yields) (sym (add-one n))
          (told-unmarked es a.marks.now a.lines.now at.lines at.yields n i.told (ap (λ k. get_or a.marks.now k false) (sym s.1) ∙ c.if-marks-i.false)));
    }

pub returns : goal.returns
returns c =
    let a = c.args in
    let i = c.loop-i.invariant in
    let s = c.in-None.ensures.steps in
    let es : List Event = events a.input.now in
    let all_done : c.loop-i.i-iterator.count ≡ length es = omega (arith, events-size a.input.now, ap length i.rest, length-drop {A = ℕ}) in (
      i.told.count ∙ ap (λ k. length (yields_in (woven k es a.marks.now))) all_done,
      i.told.made ∙ ap (λ k. over (lines_from 0 (woven k es a.marks.now)) a.lines.now) all_done,
    )
