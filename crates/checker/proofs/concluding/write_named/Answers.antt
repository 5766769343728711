-- `checker::concluding::write_named` meets its contract: what is written for the named transactions fits.
use mathlib.Core.Path.{ap}
use Rattle.ancestors.specs.Search.{prefix_of}
use Rattle.checker.proofs.Ending.{records-few, records-most, trace-fits, written-cooperable, cycle-fits, written-violation}
use Rattle.checker.proofs.concluding.write_named.Goals as goal

pub write_serial-requires-clause-few : goal.write_serial-requires-clause-few
write_serial-requires-clause-few c =
    let a = c.args in
    (records-most a.records.now c.requires.sound, records-few a.records.now c.requires.are c.requires.sound)

pub write_serial-requires-clause-room : goal.write_serial-requires-clause-room
write_serial-requires-clause-room c =
    let a = c.args in
    trace-fits a.records.now a.named.now (prefix_of a.closing) a.out.now c.requires (ap prefix_of c.in-None.is)

pub write_cycle-requires : goal.write_cycle-requires
write_cycle-requires c =
    let a = c.args in
    cycle-fits a.records.now a.named.now (prefix_of a.closing) a.out.now c.requires c.in-Some.record (ap prefix_of c.in-Some.is)

pub returns-in-None : goal.returns-in-None
returns-in-None c =
    let a = c.args in
    written-cooperable a.records.now a.named.now (prefix_of a.closing) a.out.now c.requires (ap prefix_of c.in-None.is) _ c.write_serial.ensures

pub returns-in-Some : goal.returns-in-Some
returns-in-Some c =
    let a = c.args in
    written-violation a.records.now a.named.now (prefix_of a.closing) a.out.now c.requires c.in-Some.record (ap prefix_of c.in-Some.is) _ c.write_cycle.ensures
