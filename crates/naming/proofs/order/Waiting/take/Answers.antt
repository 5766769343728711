-- `naming::order::Waiting::take` meets its contract.
use Prim.Native.Nat.{ℕ, ◌<◌, ◌^◌}
use native.Mathlib.Omega.{arith}
use mathlib.Core.Path.{sym, ◌∙◌, subst}
use lib.ListN.{get_or}
use Rattle.rows.proofs.Laws.{small-marked}
use Rattle.naming.specs.Naming.{next_of}
use Rattle.naming.proofs.Picked.{Row, left_below, counts_step}
use Rattle.naming.proofs.order.Waiting.take.Goals as goal

pub overflow_add-c : goal.overflow_add-c
overflow_add-c c =
    let all = c.args.all.now in
    let own = c.args.self.now in
    let thread : ℕ → ℕ = λ a. get_or all.threads a 0 in
    let counted = c.requires.3 c.args.t c.requires.0 in
    omega (arith, all.few, counted.0, left_below all.work.now all.n own.taken (next_of thread all.n own.taken c.args.t) (sym counted.1 ∙ c.requires.2))

pub returns : goal.returns
returns c =
    let all = c.args.all.now in
    let own = c.args.self.now in
    let thread : ℕ → ℕ = λ a. get_or all.threads a 0 in
    let t = c.args.t in
    let counted = c.requires.3 t c.requires.0 in
    let row : Row own.taken = record { size = omega arith; small = own.small } in (
      counted.0,
      c.mark.ensures,
      counts_step all.work.now thread all.n all.above all.few c.requires.1 all.small own.taken own.nexts own.lefts row c.requires.3 t c.requires.0 (sym counted.1 ∙ c.requires.2)
          c.mark.new.w (get_or own.nexts t 0) c.lower.new.lefts c.next_from-d.result c.count_left.result c.mark.ensures counted.0
          (omega arith) (omega (arith, c.lower.auto.lefts)) c.lower.ensures c.next_from-d.ensures c.count_left.ensures,
    )

pub invariant_of-self : goal.invariant_of-self
invariant_of-self c =
    record { small = subst (λ l. (j : ℕ) → get_or l j 0 < 2 ^ 64) (sym c.mark.ensures) (small-marked c.args.self.now.taken 0 (get_or c.args.self.now.nexts c.args.t 0) c.args.self.now.small) }
