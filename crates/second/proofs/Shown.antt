-- The second engine looks at an operation's thread, kind and target and at nothing else: without its value, it asks and leaves the same cells.
use Prim.Native.Nat.{ℕ, suc}
use mathlib.Core.Path.{◌≡◌, refl, ap, ap₂}
use mathlib.Core.Bool.{cond}
use mathlib.Core.List.{List, ◌∷◌, map}
use lib.Dec.{ltb}
use Rattle.record.specs.declared.Event.{Event}
use Rattle.record.specs.declared.Op.{Op}
use Rattle.record.specs.declared.Op.TheVariants.{Read, Write, Acquire, Release, Prewait, Postwait, Notify, Fork, Join, Yield}
use Rattle.record.specs.Record.{kind, target, operation}
use Rattle.lists.specs.Lists.{some_of}
use Rattle.rows.specs.Bits.{has}
use Rattle.graph.specs.Transactions.{transaction_limit}
use Rattle.graph.proofs.Alike.{shown_of}
use Rattle.ancestors.specs.Others.{others}
use Rattle.ancestors.specs.Sources.{closed_rows}
use Rattle.ancestors.specs.Search as Search
use Rattle.second.specs.declared.Cells.{Cells}
use Rattle.second.specs.Cells.{Key, cell, put_all, asked, left, sources, stored}
use Rattle.second.specs.Taken.{closing, taken_as, taken}

asked-shown : (o : Op) → asked (operation (kind o) (target o) 0) ≡ asked o
unfolding operation asked
asked-shown (Read x v) = refl
asked-shown (Write x v) = refl
asked-shown (Acquire m) = refl
asked-shown (Release m) = refl
asked-shown (Prewait m) = refl
asked-shown (Postwait m) = refl
asked-shown (Notify m) = refl
asked-shown (Fork u) = refl
asked-shown (Join u) = refl
asked-shown Yield = refl

left-shown : (t : ℕ) (o : Op) → left t (operation (kind o) (target o) 0) ≡ left t o
unfolding operation left
left-shown t (Read x v) = refl
left-shown t (Write x v) = refl
left-shown t (Acquire m) = refl
left-shown t (Release m) = refl
left-shown t (Prewait m) = refl
left-shown t (Postwait m) = refl
left-shown t (Notify m) = refl
left-shown t (Fork u) = refl
left-shown t (Join u) = refl
left-shown t Yield = refl

module _ (s : Cells) (a : ℕ) (e : Event) where
  sources-shown : sources s a (shown_of e) ≡ sources s a e
  unfolding sources
  sources-shown = ap (λ ks. others a (map (cell s) (Key.thread e.thread ∷ ks))) (asked-shown e.op)

  stored-shown : stored s a (shown_of e) ≡ stored s a e
  unfolding stored
  stored-shown = ap (λ ks. put_all s (Key.thread e.thread ∷ ks) (suc a)) (left-shown e.thread e.op)

  -- whether it closes a cycle
  pub closing-shown : (work : List ℕ) → closing s work a (shown_of e) ≡ closing s work a e
  unfolding closing
  closing-shown work = ap (some_of (λ b. has work b a)) sources-shown

  -- and what is left
  pub taken-shown : (work : List ℕ) (n : ℕ) → taken s work n a (shown_of e) ≡ taken s work n a e
  unfolding taken Search.opened
  taken-shown work n = ap₂ (λ c bs. taken_as (cond (ltb a transaction_limit) c s) (cond (ltb a transaction_limit) (closed_rows work n a bs) work)) stored-shown sources-shown
