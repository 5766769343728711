-- `checker::concluding::conclude` meets its contract: the rows name the transactions, and are cleared.
use native.Mathlib.Omega.{arith}
use mathlib.Core.Path.{ap}
use lib.ListN.{length, take}
use borrow.Author.Rules.{rules}
use Rattle.ancestors.specs.Search.{prefix_of}
use Rattle.naming.specs.Naming.{named_by}
use Rattle.checker.proofs.Ending.{over-long, ready-named, concluded}
use Rattle.checker.proofs.concluding.conclude.Goals as goal

pub shared_ref_as_front-write_named : goal.shared_ref_as_front-write_named
shared_ref_as_front-write_named c =
    let a = c.args in
    omega (arith, c.name-named.ensures.0, ap length c.name-named.ensures.1, over-long (named_by (take 1024 a.records.now) a.n (prefix_of a.closing) a.work.now) a.order.now, c.name-named.array_long)

pub write_named-requires : goal.write_named-requires
write_named-requires c =
    let a = c.args in
    ready-named a.records.now a.n (prefix_of a.closing) a.work.now a.out.now c.requires (λ i. search rules) c.name-named.result a.order.now _ c.name-named.ensures.0 c.name-named.ensures.1

pub returns : goal.returns
returns c =
    let a = c.args in
    concluded a.records.now a.n (prefix_of a.closing) a.work.now a.out.now c.requires (λ i. search rules) a.order.now _ _ _ _ c.name-named.ensures.1 c.clear.ensures c.write_named.ensures
