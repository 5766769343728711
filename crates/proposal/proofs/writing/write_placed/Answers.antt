-- `proposal::writing::write_placed` meets its contract: the event alone, or after a yield.
use Prim.Native.Nat.{ℕ, ◌+◌, ◌≤◌}
use native.Mathlib.Omega.{arith}
use mathlib.Core.Path.{◌≡◌, sym, ap, ap₂, ◌∙◌}
use mathlib.Core.List.{List, ◌++◌}
use lib.ListN.{length, length-append}
use Rattle.record.specs.Record.{encoded}
use Rattle.record.proofs.Laws.{length-encoded}
use Rattle.lists.specs.Lists.{written_at}
use Rattle.lists.proofs.Places.{written-more, length-written}
use Rattle.proposal.specs.Walk.{yield_of}
use Rattle.proposal.specs.Weaving.{placed_as, bytes_in}
use Rattle.proposal.proofs.Weaving.{placed-unmarked, placed-marked, bytes_one, bytes-two}
use Rattle.proposal.proofs.writing.write_placed.Goals as goal

pub write_event-requires : goal.write_event-requires
write_event-requires c =
    let a = c.args in
    let q : bytes_in (placed_as a.mark a.e) ≡ encoded a.e = ap bytes_in (placed-unmarked a.mark a.e c.if-not-mark.true) ∙ bytes_one a.e in
    omega (arith, ap length q, length-encoded a.e, c.requires)

pub returns-then-not-mark : goal.returns-then-not-mark
returns-then-not-mark c =
    let a = c.args in
    let w = c.write_event.ensures in
    let q : bytes_in (placed_as a.mark a.e) ≡ encoded a.e = ap bytes_in (placed-unmarked a.mark a.e c.if-not-mark.true) ∙ bytes_one a.e in
    (omega (arith, w.0, ap length q, length-encoded a.e), w.1 ∙ ap (λ l. written_at a.out.now a.n l) (sym q))

pub write_event-end-requires : goal.write_event-end-requires
write_event-end-requires c =
    let a = c.args in
    let two : List ℕ = encoded (yield_of a.e.thread) ++ encoded a.e in
    let q : bytes_in (placed_as a.mark a.e) ≡ two = ap bytes_in (placed-marked a.mark a.e c.if-not-mark.false) ∙ bytes-two a.e in
    omega (arith, ap length q, length-append (encoded (yield_of a.e.thread)) (encoded a.e), length-encoded (yield_of a.e.thread), c.requires)

pub write_event-requires-2 : goal.write_event-requires-2
write_event-requires-2 c =
    let a = c.args in
    let y : List ℕ = encoded (yield_of a.e.thread) in
    let w = c.write_event-end.ensures in
    let q : bytes_in (placed_as a.mark a.e) ≡ y ++ encoded a.e =
    ap bytes_in (placed-marked a.mark a.e c.if-not-mark.false) ∙ bytes-two a.e in
    let pre = c.requires in
    let sizes : length (y ++ encoded a.e) ≡ length y + length (encoded a.e) = length-append y (encoded a.e) in
    let room : a.n + length y ≤ length a.out.now = omega (arith, ap length q, sizes, pre) in
    let same : length c.write_event-end.new.out ≡ length a.out.now = ap length w.1 ∙ length-written a.out.now a.n y room in
    omega (arith, w.0, same, ap length q, sizes, length-encoded (yield_of a.e.thread), length-encoded a.e, pre)

pub returns : goal.returns
returns c =
    let a = c.args in
    let out : List ℕ = a.out.now in
    let y : List ℕ = encoded (yield_of a.e.thread) in
    let first = c.write_event-end.ensures in
    let second = c.write_event-2.ensures in
    let q : bytes_in (placed_as a.mark a.e) ≡ y ++ encoded a.e =
    ap bytes_in (placed-marked a.mark a.e c.if-not-mark.false) ∙ bytes-two a.e in
    let pre = c.requires in
    let end : c.write_event-end.result ≡ a.n + length y = first.0 ∙ ap (λ k. a.n + k) (sym (length-encoded (yield_of a.e.thread))) in (
      omega (arith, second.0, first.0, ap length q, length-append y (encoded a.e), length-encoded (yield_of a.e.thread), length-encoded a.e),
      second.1 ∙ ap₂ (λ l k. written_at l k (encoded a.e)) first.1 end ∙ written-more out a.n y (encoded a.e) (omega (arith, pre))
          ∙ ap (λ l. written_at out a.n l) (sym q),
    )
