-- The number of an answer tells the answer: what joining found, and the record that a search found.
use Prim.Native.Nat.{ℕ}
use native.Mathlib.Omega.{arith}
use mathlib.Core.Path.{◌≡◌, refl, sym, ap, ◌∙◌}
use mathlib.Core.List.{List, [], ◌∷◌}
use lib.ListN.{get_or}
use Rattle.std.specs.Prelude.{Option, None, Some}
use Rattle.ancestors.specs.declared.Joined.{Joined}
use Rattle.ancestors.specs.declared.Joined.TheVariants.{Nothing, Source, Cycle}
use Rattle.ancestors.specs.Sources.{code}
use Rattle.ancestors.specs.Search.{prefix_of}

-- an answer by its number
joined-is : (j : Joined) → get_or (Nothing ∷ Source ∷ Cycle ∷ []) (code j) Nothing ≡ j
joined-is Nothing = refl
joined-is Source = refl
joined-is Cycle = refl

pub joined-same : (a b : Joined) → code a ≡ code b → a ≡ b
joined-same a b e = sym (joined-is a) ∙ ap (λ n. get_or (Nothing ∷ Source ∷ Cycle ∷ []) n Nothing) e ∙ joined-is b

pub found-same : (a b : Option ℕ) → prefix_of a ≡ prefix_of b → a ≡ b
found-same None None e = refl
found-same None (Some k) e = absurd (omega (arith, e))
found-same (Some k) None e = absurd (omega (arith, e))
found-same (Some j) (Some k) e = ap Some (omega (arith, e))
