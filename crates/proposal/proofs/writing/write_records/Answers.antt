-- `proposal::writing::write_records` meets its contract: one event after the other.
use Prim.Native.Nat.{ℕ, ◌+◌}
use mathlib.Core.Bool.{false}
use Rattle.std.proofs.Common.{rules}
use Rattle.record.specs.declared.Event.{Event}
use native.Mathlib.Omega.{arith}
use native.Mathlib.Numerals.{add-one}
use mathlib.Core.Path.{◌≡◌, sym, ap, ◌∙◌, subst}
use lib.ListN.{length, get_or, length-drop}
use Rattle.lists.specs.Lists.{over, written_at}
use Rattle.looking.specs.Refusals.{events}
use Rattle.looking.proofs.Scanned.{Cut, cut_at, events-size}
use Rattle.proposal.proofs.Underway.{event-is}
use Rattle.proposal.specs.Weaving.{placed_as, woven, bytes_in}
use Rattle.proposal.proofs.Weaving.{Written, written_none, written-room, written_next}
use Rattle.proposal.proofs.writing.write_records.Goals as goal

pub loop-i-init : goal.loop-i-init
loop-i-init c =
    let none : c.into_iter-i-iterator.result.count ≡ 0 = cc in
    record {
      goes = search rules;
      ends = search rules;
      size = search rules;
      rest = rw none (search rules);
      within = omega arith;
      written = rw none (written_none (events c.args.input.now) c.args.marks.now c.args.out.now);
    }

pub bounds-marks-i : goal.bounds-marks-i
bounds-marks-i c =
    let s = c.in-Some.ensures.steps in
    let i = c.loop-i.invariant in
    let n : ℕ = c.loop-i.i-iterator.count in
    let t : Cut c.args.input.now c.in-Some.bytes.now c.next.new.self.iter.rest.now n =
    cut_at _ _ _ _ _ i.rest s.0.1.0 (s.0.1.1 ∙ i.size) i.within in
    omega (arith, t.within, s.1, c.requires.0, c.told-marks)

pub write_placed-end-requires : goal.write_placed-end-requires
write_placed-end-requires c =
    let a = c.args in
    let s = c.in-Some.ensures.steps in
    let i = c.loop-i.invariant in
    let n : ℕ = c.loop-i.i-iterator.count in
    let t : Cut c.args.input.now c.in-Some.bytes.now c.next.new.self.iter.rest.now n =
    cut_at _ _ _ _ _ i.rest s.0.1.0 (s.0.1.1 ∙ i.size) i.within in
    rw s.1 (written-room (events a.input.now) a.marks.now a.out.now (length (events a.input.now)) c.loop-i.out c.loop-i.end n c.requires.1
    (omega (arith, events-size a.input.now, t.within)) i.written _ (event-is a.input.now c.in-Some.bytes.now n t.within t.is _ c.event_of.ensures))

pub loop-i-preserved : goal.loop-i-preserved
loop-i-preserved c =
    let a = c.args in
    let e : Event = c.event_of.result in
    let s = c.in-Some.ensures.steps in
    let i = c.loop-i.invariant in
    let n : ℕ = c.loop-i.i-iterator.count in
    let t : Cut c.args.input.now c.in-Some.bytes.now c.next.new.self.iter.rest.now n =
    cut_at _ _ _ _ _ i.rest s.0.1.0 (s.0.1.1 ∙ i.size) i.within in
    let w = subst (λ k. (c.write_placed-end.result ≡ c.loop-i.end + length (bytes_in (placed_as (get_or a.marks.now k false) e)))
    × (c.write_placed-end.new.out ≡ written_at c.loop-i.out c.loop-i.end (bytes_in (placed_as (get_or a.marks.now k false) e)))) s.1 c.write_placed-end.ensures in
    record {
      goes = search rules;
      ends = search rules;
      size = search rules;
      rest = rw s.2 t.rest;
      within = omega arith;
      written = rw s.2 (subst (Written (events a.input.now) a.marks.now a.out.now c.write_placed-end.new.out c.write_placed-end.result) (sym (add-one n))
          (written_next (events a.input.now) a.marks.now a.out.now (length (events a.input.now)) c.loop-i.out c.loop-i.end n c.requires.1
          (omega (arith, events-size a.input.now, t.within)) i.written e (event-is a.input.now c.in-Some.bytes.now n t.within t.is e c.event_of.ensures)
          c.write_placed-end.new.out c.write_placed-end.result w.0 w.1));
    }

pub returns : goal.returns
returns c =
    let a = c.args in
    let i = c.loop-i.invariant in
    let s = c.in-None.ensures.steps in
    let all_done : c.loop-i.i-iterator.count ≡ length (events a.input.now) = omega (arith, events-size a.input.now, ap length i.rest, length-drop {A = ℕ}) in (
      i.written.place ∙ ap (λ k. length (bytes_in (woven k (events a.input.now) a.marks.now))) all_done,
      i.written.made ∙ ap (λ k. over (bytes_in (woven k (events a.input.now) a.marks.now)) a.out.now) all_done,
    )
