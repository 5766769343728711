-- `proposal::writing::write_event` meets its contract: the event is written into the rest of the output.
use Prim.Native.Nat.{◌+◌}
use native.Mathlib.Omega.{arith}
use mathlib.Core.Path.{ap, ◌∙◌}
use Rattle.record.proofs.Laws.{size-most}
use Rattle.record.proofs.Written.{written-size, written-part}
use Rattle.proposal.proofs.writing.write_event.Goals as goal

pub overflow_add-result : goal.overflow_add-result
overflow_add-result c = omega (arith, size-most _ _ c.encode.ensures.0)

pub returns : goal.returns
returns c =
    let a = c.args in
    let w = c.encode.ensures in
    let room = c.requires in
    (ap (λ k. a.n + k) (w.0 ∙ written-size a.e a.out.now a.n room), written-part a.e a.out.now a.n room _ w.1)
