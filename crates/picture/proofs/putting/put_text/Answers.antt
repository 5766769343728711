-- `picture::putting::put_text` meets its contract: the four parts, one after the other.
use Prim.Native.Nat.{ℕ}
use native.Mathlib.Omega.{arith}
use mathlib.Core.List.{List, ◌++◌}
use Rattle.std.proofs.lemmas.Grind.{common_steps}
use Rattle.lists.specs.Lists.{each, below}
use Rattle.picture.specs.Picture.{opening, closing, transaction_line}
use Rattle.picture.specs.Putting.{Puts, row_lines, text_of}
use Rattle.picture.proofs.Pieces.{puts-both}
use Rattle.picture.proofs.putting.put_text.Goals as goal

whole : (w : List ℕ) (n : ℕ) (at₁ at₂ at₃ at₄ : ℕ) (o₀ o₁ o₂ o₃ o₄ : List ℕ) → Puts opening 0 o₀ o₁ at₁ → Puts (each transaction_line (below n)) at₁ o₁ o₂ at₂
    → Puts (each (row_lines w n) (below n)) at₂ o₂ o₃ at₃ → Puts closing at₃ o₃ o₄ at₄ → Puts (text_of w n) 0 o₀ o₄ at₄
unfolding text_of
whole w n at₁ at₂ at₃ at₄ o₀ o₁ o₂ o₃ o₄ opened named linked closed =
    let names : List ℕ = each transaction_line (below n) in
    let links : List ℕ = each (row_lines w n) (below n) in
    puts-both opening (names ++ (links ++ closing)) 0 at₁ at₄ o₀ o₁ o₄ opened
    (puts-both names (links ++ closing) at₁ at₂ at₄ o₁ o₂ o₄ named (puts-both links closing at₂ at₃ at₄ o₂ o₃ o₄ linked closed))

pub returns : goal.returns
returns c =
    let a = c.args in
    let all : Puts (text_of a.work.now a.n) 0 a.out.now c.put-2.new.self.out.now c.put-2.new.self.end = whole a.work.now a.n _ _ _ _ _ _ _ _ _ c.put.ensures.put c.put_transactions.ensures.put c.put_rows.ensures.put c.put-2.ensures.put in
    grind (arith, common_steps)
