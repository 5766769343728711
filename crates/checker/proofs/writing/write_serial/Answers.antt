-- `checker::writing::write_serial` meets its contract: one transaction's bytes after the other's.
use native.Mathlib.Omega.{arith}
use Rattle.naming.proofs.Linking.{linked-all}
use Rattle.checker.specs.Writing.{bytes_of}
use Rattle.checker.proofs.Written.{going_start, going-room, going_more, going_end}
use Rattle.checker.proofs.writing.write_serial.Goals as goal

pub loop-a-init : goal.loop-a-init
loop-a-init c = let a = c.args in going_start (bytes_of a.records.now) a.order.now a.out.now

pub write_chain-n-requires-clause-linked : goal.write_chain-n-requires-clause-linked
write_chain-n-requires-clause-linked c =
    let few = c.requires.few in
    let chains = c.link-chains in
    (few.0, few.1, linked-all c.args.records.now few.0 chains.result.firsts chains.result.nexts chains.ensures)

pub write_chain-n-requires-clause-room : goal.write_chain-n-requires-clause-room
write_chain-n-requires-clause-room c =
    let a = c.args in
    going-room (bytes_of a.records.now) a.order.now a.out.now c.loop-a.out c.loop-a.n c.loop-a.a-index c.requires.room (omega arith) c.loop-a.invariant

pub loop-a-preserved : goal.loop-a-preserved
loop-a-preserved c =
    let a = c.args in
    going_more (bytes_of a.records.now) a.order.now a.out.now c.loop-a.out c.loop-a.n c.loop-a.a-index _ _ c.requires.room (omega arith) c.loop-a.invariant
    c.write_chain-n.ensures.1 c.write_chain-n.ensures.0

pub returns : goal.returns
returns c =
    let a = c.args in
    going_end (bytes_of a.records.now) a.order.now a.out.now c.loop-a.out c.loop-a.n c.loop-a.a-index (omega arith) c.loop-a.invariant
