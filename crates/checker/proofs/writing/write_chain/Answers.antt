-- `checker::writing::write_chain` meets its contract: what is written and the rest of the chain make the whole.
use Prim.Native.Nat.{ℕ, suc, ◌+◌, ◌≤◌}
use native.Mathlib.Omega.{arith}
use mathlib.Core.Path.{◌≡◌, sym, ap, ◌∙◌, subst}
use mathlib.Core.List.{List, ◌++◌}
use lib.ListN.{length, get_or, drop}
use Rattle.record.specs.declared.Event.{Event}
use Rattle.record.specs.Record.{encoded}
use Rattle.record.proofs.Laws.{length-encoded, size-most}
use Rattle.record.proofs.Written.{written-size, written-part}
use Rattle.lists.specs.Lists.{each}
use Rattle.graph.specs.Serial.{events_of}
use Rattle.checker.specs.Writing.{bytes_of}
use Rattle.graph.specs.Held.{record_past_end}
use Rattle.naming.specs.Chains.{no_record, first_from}
use Rattle.checker.proofs.Written.{Left, left-start, left-room, left-more, left-place, left-made}
use Rattle.checker.proofs.Linking.{first-linked, chain-end, chain_next, chain-on}
use Rattle.checker.proofs.writing.write_chain.Goals.{In-loop-i}
use Rattle.checker.proofs.writing.write_chain.Goals as goal

-- the next record's event
abbrev event : In-loop-i → Event
event c = (get_or c.args.records.now c.loop-i.i record_past_end).event

-- the bytes of the records behind it
abbrev rest : In-loop-i → List ℕ
rest c = each encoded (events_of (drop (suc c.loop-i.i) c.args.records.now) c.args.a)

-- its bytes and those are still to be written
to-write : (c : In-loop-i) → Left c.args.out.now c.args.n (bytes_of c.args.records.now c.args.a) c.loop-i.out c.loop-i.end (encoded (event c) ++ rest c)
to-write c =
    let a = c.args in
    let l = c.loop-i.invariant in
    subst (Left a.out.now a.n (bytes_of a.records.now a.a) c.loop-i.out c.loop-i.end)
    (chain_next a.records.now c.requires.linked.0 a.a l.0 c.loop-i.i l.2 (omega arith)).1 l.3

-- there is room for its bytes
room : (c : In-loop-i) → c.loop-i.end + 8 ≤ length c.loop-i.out
room c =
    let a = c.args in
    omega (
      arith,
      left-room a.out.now a.n (bytes_of a.records.now a.a) c.loop-i.out c.loop-i.end (encoded (event c)) (rest c) c.requires.room (to-write c),
      length-encoded (event c),
    )

-- the record after it
next_is : (c : In-loop-i) → get_or c.args.chains.now.nexts c.loop-i.i no_record ≡ first_from c.args.records.now c.args.a (suc c.loop-i.i)
next_is c =
    let a = c.args in
    let l = c.loop-i.invariant in
    c.requires.linked.2.next-is c.loop-i.i (omega arith, omega arith, c.requires.linked.1 c.loop-i.i (omega arith))
    ∙ ap (λ b. first_from a.records.now b (suc c.loop-i.i)) (chain_next a.records.now c.requires.linked.0 a.a l.0 c.loop-i.i l.2 (omega arith)).0

pub loop-i-init : goal.loop-i-init
loop-i-init c =
    let a = c.args in
    (0, omega arith, c.first_of-i.ensures ∙ first-linked a.records.now a.chains.now.firsts a.chains.now.nexts c.requires.linked.1 c.requires.linked.2 a.a, left-start a.out.now a.n (bytes_of a.records.now a.a))

pub overflow_add-end : goal.overflow_add-end
overflow_add-end c = omega (arith, room (goal.at.overflow_add-end c).In-loop-i, size-most _ _ c.encode-end.ensures.0)

pub loop-i-smaller : goal.loop-i-smaller
loop-i-smaller c =
    let a = c.args in
    let i = (goal.at.loop-i-smaller c).In-loop-i in
    omega (arith, c.loop-i-test.true, c.next_of-i.ensures, next_is i, chain-on a.records.now c.requires.linked.0 a.a (suc c.loop-i.i) (omega (arith, c.requires.linked.0)))

pub loop-i-preserved : goal.loop-i-preserved
loop-i-preserved c =
    let a = c.args in
    let i = (goal.at.loop-i-preserved c).In-loop-i in
    let w = c.encode-end.ensures in (
      suc c.loop-i.i,
      omega (arith, c.requires.linked.0, c.loop-i-test.true),
      c.next_of-i.ensures ∙ next_is i,
      left-more a.out.now a.n (bytes_of a.records.now a.a) c.loop-i.out c.loop-i.end (encoded (event i)) (rest i) _ _ c.requires.room (to-write i)
          (written-part (event i) c.loop-i.out c.loop-i.end (room i) _ w.1)
          (ap (λ m. c.loop-i.end + m) (w.0 ∙ written-size (event i) c.loop-i.out c.loop-i.end (room i) ∙ sym (length-encoded (event i)))),
    )

pub returns : goal.returns
returns c =
    let a = c.args in
    let l = c.loop-i.invariant in
    let done = subst (Left a.out.now a.n (bytes_of a.records.now a.a) c.loop-i.out c.loop-i.end)
    (chain-end a.records.now c.requires.linked.0 a.a l.0 c.loop-i.i l.2 c.loop-i-test.false) l.3 in
    (left-place a.out.now a.n (bytes_of a.records.now a.a) c.loop-i.out c.loop-i.end done, left-made a.out.now a.n (bytes_of a.records.now a.a) c.loop-i.out c.loop-i.end done)
