-- A law of the lines that are told: one more is stored after those before it.
use Prim.Native.Nat.{ℕ, ◌+◌, ◌<◌}
use native.Mathlib.Omega.{arith}
use native.Mathlib.Numerals.{add-one}
use mathlib.Core.Path.{◌≡◌, sym, ap, ◌∙◌, subst}
use mathlib.Core.List.{List, [], ◌∷◌, ◌++◌, map, map-append}
use lib.ListN.{length, set, length-map}
use Rattle.lists.specs.Lists.{over, below}
use Rattle.lists.proofs.Lists.{below_more, length_from}
use Rattle.lists.proofs.Places.{over-more}

pub line_more : {A : Type 0} (f : ℕ → A) (old : List A) (p : ℕ) → p < length old → set (over (map f (below p)) old) p (f p) ≡ over (map f (below (p + 1))) old
line_more f old p h =
    let size : length (map f (below p)) ≡ p = length-map (below p) f ∙ length_from 0 p in
    subst (λ n. set (over (map f (below p)) old) n (f p) ≡ over (map f (below p) ++ (f p ∷ [])) old) size (over-more (map f (below p)) old (f p) (omega (arith, size)))
    ∙ ap (λ l. over l old) (sym (map-append f (below p) (p ∷ [])) ∙ ap (map f) (sym (below_more p)))
    ∙ ap (λ n. over (map f (below n)) old) (sym (add-one p))
