-- `second::Cells::take_target` meets its contract: what each kind asks and leaves.
use Prim.Native.Nat.{ℕ}
use native.Mathlib.Omega.{arith}
use mathlib.Core.Path.{refl, sym, ap, subst}
use mathlib.Core.List.{List, [], ◌∷◌}
use lib.ListN.{get_or}
use Rattle.ancestors.specs.Others.{others}
use Rattle.ancestors.specs.Sources.{Joins, code}
use Rattle.second.specs.Cells.{cells_of}
use Rattle.second.proofs.ByKind.{at-read, at-write, at-lock, at-fork, at-join, at-yield, joins-nothing, readers-asked}
use Rattle.second.proofs.Cells.take_target.Goals as goal

pub returns-in-0-to-1 : goal.returns-in-0-to-1
returns-in-0-to-1 c =
    let s = c.args.self.now in
    let at = at-read c.args.t c.args.op c.kind_of.result c.target-at.result c.kind_of.ensures c.target-at.ensures (omega arith) in
    rw (at.0, at.1) (c.join_one-in-0-to-1.ensures, ap (cells_of s.locks s.threads s.writers) c.set_entry-in-0-to-1.ensures)

pub returns-in-2 : goal.returns-in-2
returns-in-2 c =
    let a = c.args in
    let x = c.target-at.result in
    let at = at-write a.t a.op c.kind_of.result x c.kind_of.ensures c.target-at.ensures (omega arith) in
    rw (at.0, at.1)
    (subst (λ (l : List ℕ). Joins a.work.now a.a (others a.a (get_or a.self.now.writers x 0 ∷ l)) (code c.take_write.result) c.take_write.new.work) (sym (readers-asked a.self.now x)) c.take_write.ensures.0, c.take_write.ensures.1)

pub returns-in-3-to-7 : goal.returns-in-3-to-7
returns-in-3-to-7 c =
    let at = at-lock c.args.t c.args.op c.kind_of.result c.target-at.result c.kind_of.ensures c.target-at.ensures (omega arith) (omega arith) in
    rw (at.0, at.1) c.take_lock.ensures

pub returns-in-8 : goal.returns-in-8
returns-in-8 c =
    let s = c.args.self.now in
    let at = at-fork c.args.t c.args.op c.kind_of.result c.target-at.result c.kind_of.ensures c.target-at.ensures (omega arith) in
    rw (at.0, at.1) (joins-nothing _ _, ap (λ l. cells_of s.locks l s.writers s.readers) c.set_entry.ensures)

pub returns-in-9 : goal.returns-in-9
returns-in-9 c =
    let a = c.args in
    let at = at-join a.t a.op c.kind_of.result c.target-at.result c.kind_of.ensures c.target-at.ensures (omega arith) in
    rw (at.0, at.1)
    (subst (λ (n : ℕ). Joins a.work.now a.a (others a.a (n ∷ [])) (code c.join_one.result) c.join_one.new.work) c.entry-last.ensures c.join_one.ensures, refl)

pub returns-in_default : goal.returns-in_default
returns-in_default c =
    let at = at-yield c.args.t c.args.op c.kind_of.result c.target-at.result c.kind_of.ensures c.target-at.ensures (omega arith) in
    rw (at.0, at.1) (joins-nothing _ _, refl)
