-- `naming::order::Transactions::next_from` meets its contract.
use Prim.Native.Nat.{ℕ, ◌+◌, ◌-◌}
use native.Mathlib.Omega.{arith}
use mathlib.Core.Path.{◌≡◌, refl, sym, ap, ap₂, ◌∙◌}
use mathlib.Core.Bool.{true, false, not, ◌&&◌, and-false}
use lib.Dec.{eqb}
use lib.ListN.{get_or}
use Rattle.rows.specs.Bits.{has}
use borrow.Author.Tests.{eq-eqb, ne_eqb}
use Rattle.lists.specs.Lists.{first_of, from}
use Rattle.lists.proofs.Lists.{from_step, from-none, first-true, first-false}
use Rattle.naming.specs.Naming.{next_from}
use Rattle.naming.proofs.Picked.{waits}
use Rattle.naming.proofs.order.Transactions.next_from.Goals.{else-self-b-via-then-self-b+else-not-test, else-self-b-via-else-self-b}
use Rattle.naming.proofs.order.Transactions.next_from.Goals as goal

pub loop-b-init : goal.loop-b-init
unfolding next_from
loop-b-init c = refl

pub returns-then-not-test : goal.returns-then-not-test
returns-then-not-test c =
    let thread : ℕ → ℕ = λ d. get_or c.args.self.now.threads d 0 in
    let taken = c.args.taken.now in
    let n = c.args.self.now.n in
    let t = c.args.t in
    let b = c.loop-b.b in
    let found : waits thread n taken t b ≡ true =
    ap₂ (λ x y. x && y) (eq-eqb (thread b) t c.if-self-b.true) (ap not (sym c.test.ensures ∙ c.if-not-test.true)) in
    sym (c.loop-b.invariant ∙ ap (first_of (waits thread n taken t) n) (from_step b n (omega arith)) ∙ first-true (waits thread n taken t) n b (from (b + 1) (n - (b + 1))) found)

pub loop-b-preserved : goal.loop-b-preserved
loop-b-preserved c =
    let thread : ℕ → ℕ = λ d. get_or c.args.self.now.threads d 0 in
    let taken = c.args.taken.now in
    let n = c.args.self.now.n in
    let t = c.args.t in
    let b = c.loop-b.b in
    let passed : waits thread n taken t b ≡ false = elim c.else-self-b.branch [
      | else-self-b-via-then-self-b+else-not-test w ↦ ap (λ y. eqb (thread b) t && y) (ap not (sym w.test.ensures ∙ w.if-not-test.false)) ∙ and-false (eqb (thread b) t)
      | else-self-b-via-else-self-b w ↦ ap (λ x. x && not (has taken 0 b)) (ne_eqb (thread b) t w.if-self-b.false)
    ] in
    c.loop-b.invariant ∙ ap (first_of (waits thread n taken t) n) (from_step b n (omega arith)) ∙ first-false (waits thread n taken t) n b (from (b + 1) (n - (b + 1))) passed

pub returns : goal.returns
unfolding first_of
returns c =
    let thread : ℕ → ℕ = λ d. get_or c.args.self.now.threads d 0 in
    let n = c.args.self.now.n in
    sym (c.loop-b.invariant ∙ ap (first_of (waits thread n c.args.taken.now c.args.t) n) (from-none c.loop-b.b n (omega arith)))
