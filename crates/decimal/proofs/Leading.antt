-- Laws of what stands before a number's last digits.
use Prim.Native.Nat.{ℕ, zero, suc, ◌/◌, ◌%◌, ◌≤◌, ◌<◌}
use native.Mathlib.Omega.{arith}
use mathlib.Core.Path.{◌≡◌, refl, sym, ap, ap₂, ◌∙◌}
use mathlib.Core.List.{[], ◌∷◌, ◌++◌}
use lib.ListN.{length}
use lib.Dec.{ltb}
use borrow.Author.Tests.{ltb-true, ltb-false}
use Rattle.lists.proofs.Tests.{by}
use Rattle.decimal.specs.Decimal.{digit, decimal}
use Rattle.decimal.specs.Leading.{leading}
use Rattle.decimal.proofs.Decimals.{decimal-small, decimal-more, size-four}

leading-some : (n : ℕ) → 1 ≤ n → leading n ≡ decimal n
leading-some zero h = absurd (omega arith)
leading-some (suc n) h = refl

pub leading-size : (n : ℕ) → n < 10000 → length (leading n) ≤ 4
leading-size zero h = omega arith
leading-size (suc n) h = size-four (suc n) h

-- and the last digit
pub leading-last : (n : ℕ) → leading (n / 10) ++ (digit (n % 10) ∷ []) ≡ decimal n
leading-last n = by (ltb n 10)
    (λ e. let h : n < 10 = ltb-true n 10 e in
    let none : n / 10 ≡ 0 = omega arith in
    let whole : n % 10 ≡ n = omega arith in
    ap₂ (λ m d. leading m ++ (digit d ∷ [])) none whole ∙ sym (decimal-small n h))
    (λ e. let h : 10 ≤ n = ltb-false n 10 e in
    ap (λ w. w ++ (digit (n % 10) ∷ [])) (leading-some (n / 10) (omega arith)) ∙ sym (decimal-more n h))

pub leading-more : (n : ℕ) → 1 ≤ n → leading (n / 10) ++ (digit (n % 10) ∷ []) ≡ leading n
leading-more n h = leading-last n ∙ sym (leading-some n h)
