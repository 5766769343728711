-- `naming::chains::Chains::link` meets its contract: the records from one on are linked.
use Rattle.naming.specs.Chains.{Linked}
use Rattle.naming.proofs.chains.Chains.link.Given as goal

abbrev pub invariant-loop-i : goal.invariant-loop-i
invariant-loop-i l = Linked l.records l.i l.chains.firsts l.chains.nexts
