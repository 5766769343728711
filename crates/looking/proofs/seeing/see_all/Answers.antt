-- `looking::seeing::see_all` meets its contract: after so many turns, that many records have led to what the array holds.
use native.Mathlib.Omega.{arith}
use Prim.Native.Nat.{ℕ}
use mathlib.Core.Path.{ap, ◌∙◌, ◌≡◌}
use Rattle.std.proofs.Common.{rules}
use lib.ListN.{length, length-drop}
use Rattle.looking.proofs.Refusing.{sized}
use Rattle.looking.proofs.Scanned.{Cut, cut_at, under-start, under_more, looked-stop, looked-end}
use Rattle.looking.proofs.seeing.see_all.Goals as goal

pub loop-place-init : goal.loop-place-init
loop-place-init c =
    let none : c.into_iter-place-iterator.result.count ≡ 0 = cc in
    record {
      goes = search rules;
      ends = search rules;
      size = search rules;
      rest = rw none (ap (λ e. e.iter.rest.now) c.into_iter-place-iterator.ensures.into_iter_gives ∙ ap (λ s. s.rest.now) c.enumerate-place-items.ensures.source ∙ c.chunks_exact.ensures.rest);
      within = omega arith;
      under = rw none (under-start c.args.input.now c.fresh.result c.none_yet.result c.args.records.now c.fresh.ensures c.none_yet.ensures);
    }

pub bounds-records-place : goal.bounds-records-place
bounds-records-place c =
    let s = c.in-Some.ensures.steps in
    let i = c.loop-place.invariant in
    let t : Cut c.args.input.now c.in-Some.bytes.now c.next.new.self.iter.rest.now c.loop-place.place-iterator.count =
    cut_at _ _ _ _ _ i.rest s.0.1.0 (s.0.1.1 ∙ i.size) i.within in
    omega (arith, (sized c.args.input.now c.requires).most)

pub loop-place-preserved : goal.loop-place-preserved
loop-place-preserved c =
    let s = c.in-Some.ensures.steps in
    let i = c.loop-place.invariant in
    let t : Cut c.args.input.now c.in-Some.bytes.now c.next.new.self.iter.rest.now c.loop-place.place-iterator.count =
    cut_at _ _ _ _ _ i.rest s.0.1.0 (s.0.1.1 ∙ i.size) i.within in
    record {
      goes = search rules;
      ends = search rules;
      size = search rules;
      rest = rw s.2 t.rest;
      within = omega arith;
      under = rw (s.1, s.2) (under_more c.args.input.now c.args.records.now c.loop-place.run c.loop-place.records c.loop-place.place-iterator.count t.within c.in-Some.bytes.now t.is c.see.new.self c.in-Ok.seen (omega (arith, (sized c.args.input.now c.requires).most, c.told-records)) i.under c.in-Ok.ensures);
    }

pub returns-in-Err : goal.returns-in-Err
returns-in-Err c =
    let s = c.in-Some.ensures.steps in
    let i = c.loop-place.invariant in
    let t : Cut c.args.input.now c.in-Some.bytes.now c.next.new.self.iter.rest.now c.loop-place.place-iterator.count =
    cut_at _ _ _ _ _ i.rest s.0.1.0 (s.0.1.1 ∙ i.size) i.within in
    rw s.1 (looked-stop c.args.input.now c.requires c.args.records.now c.loop-place.run c.loop-place.records c.loop-place.place-iterator.count i.under t.within c.in-Some.bytes.now t.is c.see.new.self _ c.in-Err.ensures)

pub returns : goal.returns
returns c =
    let s = c.in-None.ensures.steps in
    let i = c.loop-place.invariant in
    looked-end c.args.input.now c.requires c.args.records.now c.loop-place.run c.loop-place.records c.loop-place.place-iterator.count i.under
    (omega (arith, ap length i.rest, length-drop {A = ℕ}))
