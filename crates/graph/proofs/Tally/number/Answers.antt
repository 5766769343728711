-- `graph::Tally::number` meets its contract. Assumes nothing.
use mathlib.Core.Path.{sym, ◌∙◌}
use Rattle.std.proofs.Common.{rules}
use Rattle.graph.proofs.Numbering.{full-right, begun-right, goes-on-right}
use Rattle.graph.proofs.Tally.number.Goals as goal
use Rattle.graph.proofs.Tally.number.Goals.{then-begins+else-self-ge-TRANSACTION_LIMIT, else-begins}

pub returns-then-self-ge-TRANSACTION_LIMIT : goal.returns-then-self-ge-TRANSACTION_LIMIT
returns-then-self-ge-TRANSACTION_LIMIT c = full-right _ _ c.unwrap_or-own.result (search rules) (sym c.begins.ensures ∙ c.if-begins.true) c.if-self-ge-TRANSACTION_LIMIT.true

pub returns : goal.returns
returns c = elim c.if-begins.branch [
  | then-begins+else-self-ge-TRANSACTION_LIMIT w ↦ rw (c.store.ensures, c.left.ensures, w.self-is, w.own-is) (begun-right c.args.self.now c.args.e c.unwrap_or-own.result (search rules) (sym c.begins.ensures ∙ w.if-begins.true) w.if-self-ge-TRANSACTION_LIMIT.false)
  | else-begins w ↦ rw (c.store.ensures, c.left.ensures, w.self-is, w.own-is) (goes-on-right c.args.self.now c.args.e c.unwrap_or-own.result (search rules) (sym c.begins.ensures ∙ w.if-begins.false))
]
