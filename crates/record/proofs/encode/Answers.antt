-- `record::encode` meets its contract: eight stores, one after the other, from the front of the output.
use Prim.Native.Nat.{ℕ, ◌+◌, ◌%◌, ◌/◌, ◌≤◌, ◌<◌}
use native.Mathlib.Omega.{arith}
use mathlib.Core.Path.{sym, ◌∙◌}
use mathlib.Core.List.{List, [], ◌∷◌}
use lib.ListN.{length, length-set}
use lib.Seq.{sets-eq}
use Rattle.record.specs.declared.Op.{Op}
use Rattle.record.specs.Record.{encoded, kind, target, value}
use Rattle.record.proofs.Laws.{encoded-over, encoded-none, size-over, size_none}
use Rattle.record.proofs.encode.Goals as goal

pub returns-then-dst-lt8 : goal.returns-then-dst-lt8
returns-then-dst-lt8 c =
    let a = c.args in
    let l : List ℕ = a.dst.now in
    let h : length l < 8 = omega arith in
    (sym (size_none l h), sym (encoded-none a.e l h))

pub bounds-dst-1 : goal.bounds-dst-1
bounds-dst-1 c = simp length-set (omega arith)

pub bounds-dst-2 : goal.bounds-dst-2
bounds-dst-2 c = simp length-set (omega arith)

pub bounds-dst-3 : goal.bounds-dst-3
bounds-dst-3 c = simp length-set (omega arith)

pub bounds-dst-4 : goal.bounds-dst-4
bounds-dst-4 c = simp length-set (omega arith)

pub bounds-dst-5 : goal.bounds-dst-5
bounds-dst-5 c = simp length-set (omega arith)

pub bounds-dst-6 : goal.bounds-dst-6
bounds-dst-6 c = simp length-set (omega arith)

pub bounds-dst-7 : goal.bounds-dst-7
bounds-dst-7 c = simp length-set (omega arith)

pub shape_of-dst : goal.shape_of-dst
shape_of-dst c = simp length-set

pub returns : goal.returns
unfolding encoded
returns c =
    let a = c.args in
    let l : List ℕ = a.dst.now in
    let h : 0 + 8 ≤ length l = omega arith in
    let o : Op = a.e.op in
    let stored =
    sets-eq (0xA7 ∷ 0x7A ∷ kind o ∷ a.e.thread ∷ target o ∷ 0 ∷ value o % 256 ∷ value o / 256 ∷ []) l 0 h in
    (sym (size-over l h), simp (c.target.ensures, c.kind.ensures, c.value-v.ensures) (stored ∙ sym (encoded-over a.e l h)))
