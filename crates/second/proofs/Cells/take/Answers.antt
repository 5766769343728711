use Prim.Native.Nat.{ℕ, ◌+◌, ◌<◌}
use native.Mathlib.Omega.{arith}
use mathlib.Core.Path.{sym, ap, ◌∙◌, subst}
use mathlib.Core.Bool.{Bool, cond, not}
use mathlib.Core.List.{List, [], ◌∷◌}
use Rattle.ancestors.specs.Others.{others}
use Rattle.ancestors.specs.Sources.{spread_to, code, Joins}
use Rattle.second.specs.declared.Cells.{Cells}
use Rattle.second.specs.Cells.{Key, put, cells_of}
use Rattle.second.proofs.ByKind.{stored_is, joins-asks, is-cycle, is-nothing, closing-over, closing-under, taken-over, taken-under}
use Rattle.second.proofs.Cells.take.Goals.{then-ne, else-ne}
use Rattle.second.proofs.Cells.take.Goals as goal

pub returns-then-a-ge512 : goal.returns-then-a-ge512
returns-then-a-ge512 c = (closing-over _ _ _ (omega arith), taken-over _ _ _ _ (omega arith))

pub returns : goal.returns
returns c =
    let a = c.args in
    let s = a.self.now in
    let x = a.x in
    let in-x : x.transaction < 512 = omega arith in
    let found = c.and-found.result in
    let v : List ℕ = c.take_target-rest.new.work in
    let rest : Cells = c.take_target-rest.new.self in
    let own = subst (λ (n : ℕ). Joins a.work.now x.transaction (others x.transaction (n ∷ [])) (code c.join_one-own.result) c.join_one-own.new.work) c.entry-last.ensures c.join_one-own.ensures in
    let j = joins-asks s a.work.now c.join_one-own.new.work v x.transaction x.event _ _ _ own c.take_target-rest.ensures.0 c.and-found.ensures in
    let some = c.ne.ensures ∙ ap not (is-nothing found) in (
      c.eq.ensures ∙ is-cycle found ∙ closing-under s a.work.now a.n x v (code found) in-x j,
      taken-under s a.work.now a.n x v (code found) in-x j _ c.if-ne.work
          (ap (λ l. cells_of rest.locks l rest.writers rest.readers) c.set_entry.ensures ∙ ap (λ u. put u (Key.thread x.event.thread) (x.transaction + 1)) c.take_target-rest.ensures.1 ∙ stored_is s x.transaction x.event)
          (elim c.if-ne.branch [
            | then-ne w ↦ w.work-is ∙ w.spread.ensures ∙ sym (ap (λ (b : Bool). cond b (spread_to a.n v x.transaction) v) (sym some ∙ w.if-ne.true))
            | else-ne w ↦ w.work-is ∙ sym (ap (λ (b : Bool). cond b (spread_to a.n v x.transaction) v) (sym some ∙ w.if-ne.false))
          ]),
    )
