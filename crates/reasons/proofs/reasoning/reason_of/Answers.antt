-- `reasons::reasoning::reason_of` meets its contract: each way through cites the law of its test.
use mathlib.Core.Path.{sym, ap, ◌∙◌}
use Rattle.reasons.specs.declared.Reason.TheVariants.{Variable, Lock, ForkJoin}
use Rattle.reasons.proofs.Reasons.{threads-same, threads-differ, is-thread, is-variable, is-lock, is-first, is-second, is-child}
use Rattle.reasons.proofs.reasoning.reason_of.Goals.{else-not-governs-via-then-not-governs+else-governs, else-not-governs-via-else-not-governs}
use Rattle.reasons.proofs.reasoning.reason_of.Goals as goal

pub returns-then-a-b : goal.returns-then-a-b
returns-then-a-b c = sym (is-thread c.args.a c.args.b (threads-same c.args.a c.args.b c.if-a-b.true))

pub returns-then-same_variable : goal.returns-then-same_variable
returns-then-same_variable c =
    let a = c.args.a in
    let b = c.args.b in
    ap Variable c.target.ensures ∙ sym (is-variable a b (threads-differ a b c.if-a-b.false) (sym c.if-same_variable.ensures))

pub returns-then-same_lock : goal.returns-then-same_lock
returns-then-same_lock c =
    let a = c.args.a in
    let b = c.args.b in
    ap Lock c.target-then-same_lock.ensures ∙ sym (is-lock a b (threads-differ a b c.if-a-b.false) (sym c.if-same_variable.ensures) (sym c.if-same_lock.ensures))

pub returns-then-governs : goal.returns-then-governs
returns-then-governs c =
    let a = c.args.a in
    let b = c.args.b in
    ap ForkJoin c.target-then-governs.ensures
    ∙ sym (is-second a b (threads-differ a b c.if-a-b.false) (sym c.if-same_variable.ensures) (sym c.if-same_lock.ensures) (sym c.if-not-governs.ensures) (sym c.if-governs.ensures))

pub returns-else-not-governs : goal.returns-else-not-governs
returns-else-not-governs c =
    let a = c.args.a in
    let b = c.args.b in
    let differ = threads-differ a b c.if-a-b.false in
    let variable = sym c.if-same_variable.ensures in
    let lock = sym c.if-same_lock.ensures in
    ap ForkJoin c.target-else-not-governs.ensures
    ∙ sym (elim c.else-not-governs.branch [
      | else-not-governs-via-then-not-governs+else-governs w ↦ is-child a b differ variable lock (sym w.if-not-governs.ensures) (sym w.if-governs.ensures)
      | else-not-governs-via-else-not-governs w ↦ is-first a b differ variable lock (sym w.if-not-governs.ensures)
    ])
