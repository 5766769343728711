-- `graph::compare::conflicts_by_table` meets its contract. Assumes nothing.
use Prim.Native.Nat.{◌≤◌}
use native.Mathlib.Omega.{arith}
use mathlib.Core.Path.{◌≡◌, ap₂, ◌∙◌}
use Rattle.record.specs.Record.{kind}
use Rattle.record.proofs.Laws.{shape}
use Rattle.graph.specs.Conflict.{code}
use Rattle.graph.proofs.Clash.{touched-right, governed-right, untouched-right}
use Rattle.graph.proofs.compare.conflicts_by_table.Goals.{After-code_of-code}
use Rattle.graph.proofs.compare.conflicts_by_table.Goals as goal

pub code_of-code-requires : goal.code_of-code-requires
code_of-code-requires c = omega (arith, c.kind-kind.ensures, c.kind.ensures, (shape c.args.a.op).low, (shape c.args.a.op).high, (shape c.args.b.op).low, (shape c.args.b.op).high)

-- the code is the table's for the two kinds
coded : (c : After-code_of-code) → c.code_of-code.result ≡ code (kind c.args.a.op) (kind c.args.b.op)
coded c = c.code_of-code.ensures ∙ ap₂ code c.kind-kind.ensures c.kind.ensures

pub returns-in-1-to-7 : goal.returns-in-1-to-7
returns-in-1-to-7 c =
    let asked = rw (c.target-x.ensures, c.target-y.ensures) at c.touched.ensures in
    asked ∙ touched-right c.args.a c.args.b c.requires _ (coded (goal.at.returns-in-1-to-7 c).After-code_of-code) (omega (arith, c.kind-kind.ensures))

pub returns-in-8-to-9 : goal.returns-in-8-to-9
returns-in-8-to-9 c =
    let asked = rw (c.target-x.ensures, c.target-y.ensures) at c.governed.ensures in
    asked ∙ governed-right c.args.a c.args.b c.requires _ (coded (goal.at.returns-in-8-to-9 c).After-code_of-code) (omega (arith, c.kind-kind.ensures)) (omega (arith, c.kind-kind.ensures))

pub returns-in_default : goal.returns-in_default
returns-in_default c =
    let asked = rw c.target-y.ensures at c.untouched.ensures in
    let last : 10 ≤ kind c.args.a.op = grind (arith, c.kind-kind.ensures, (shape c.args.a.op).low) in
    asked ∙ untouched-right c.args.a c.args.b c.requires _ (coded (goal.at.returns-in_default c).After-code_of-code) last
