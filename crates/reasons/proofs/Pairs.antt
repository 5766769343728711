-- The earliest pair that passes a test: the lowest first number, and for it the lowest second. Over any test of two numbers, the first below the second.
use Prim.Native.Nat.{ℕ, suc, ◌+◌, ◌-◌, ◌<◌, ◌≤◌}
use native.Mathlib.Omega.{arith}
use mathlib.Core.Path.{◌≡◌}
use mathlib.Core.Bool.{Bool, false}
use mathlib.Core.List.{List}
use lib.Dec.{T}
use Rattle.lists.specs.Lists.{some_of, first_of, from, below}
use Rattle.lists.proofs.Tests.{T-is}
use Rattle.lists.proofs.Lists.{Among, from-among, from-bound, from_le, below-has, below-bound, some-none, some-has, Holds, some_at, first_passes, first-among, first-least, first_below, first-is, first-default}

module _ (hit : ℕ → ℕ → Bool) (n : ℕ) where
  abbrev later : ℕ → List ℕ
  later i = from (suc i) (n - suc i)

  abbrev begins : ℕ → Bool
  begins i = some_of (hit i) (later i)

  abbrev pub first : ℕ
  first = first_of (λ i. some_of (hit i) (from (suc i) (n - suc i))) 0 (below n)

  abbrev pub second : ℕ → ℕ
  second i = first_of (hit i) 0 (from (suc i) (n - suc i))

  pub record Pair (i j : ℕ) : Type 0 where
    pub ordered : i < j
    pub within : j < n
    pub hits : T (hit i j)

  in-later : (i j : ℕ) → i < j → j < n → Among j (later i)
  in-later i j h k = from-among (suc i) (n - suc i) j (omega arith) (omega arith)

  in-range : (i j : ℕ) → Among j (later i) → j < n
  in-range i j a = let b : j < suc i + (n - suc i) = from-bound (suc i) (n - suc i) j a in let c : suc i ≤ j = from_le (suc i) (n - suc i) j a in omega arith

  -- each of the two is below n
  pub first_under : 0 < n → first < n
  first_under h = first_below begins (below n) n h (below-bound n)

  pub second-under : (i : ℕ) → 0 < n → second i < n
  second-under i h = first_below (hit i) (later i) n h (in-range i)

  -- a first number of some pair
  begins-of : {i j : ℕ} → Pair i j → T (begins i)
  begins-of {i} {j} p = some-has (hit i) j (later i) (in-later i j p.ordered p.within) p.hits

  -- for one, the lowest second makes a pair
  with_second : (i : ℕ) → T (begins i) → Pair i (second i)
  with_second i t =
      let h : Holds (hit i) (later i) = some_at (hit i) (later i) t in
      let least : second i ≤ h.x = first-least (hit i) 0 (suc i) (n - suc i) h.x h.in-l h.holds in
      let bound : h.x < suc i + (n - suc i) = from-bound (suc i) (n - suc i) h.x h.in-l in
      let above : suc i ≤ h.x = from_le (suc i) (n - suc i) h.x h.in-l in
      record {
        ordered = from_le (suc i) (n - suc i) (second i) (first-among (hit i) 0 h.x (later i) h.in-l h.holds);
        within = omega arith;
        hits = first_passes (hit i) 0 h.x (later i) h.in-l h.holds;
      }

  -- ---- the pair

  pub found : {i j : ℕ} → Pair i j → Pair first (second first)
  found {i} p = with_second first (first_passes begins 0 i (below n) (below-has n i (omega (arith, p.ordered, p.within))) (begins-of p))

  pub lowest-first : {i j : ℕ} → Pair i j → first ≤ i
  lowest-first {i} p = first-least begins 0 0 n i (below-has n i (omega (arith, p.ordered, p.within))) (begins-of p)

  pub lowest-second : {i j : ℕ} → Pair i j → second i ≤ j
  lowest-second {i} {j} p = first-least (hit i) 0 (suc i) (n - suc i) j (in-later i j p.ordered p.within) p.hits

  -- a pair with none below it is that pair
  module _ {i j : ℕ} (p : Pair i j) where
    pub first-at : ((k : ℕ) → k < i → (m : ℕ) → k < m → m < n → hit k m ≡ false) → first ≡ i
    first-at none =
        first-is begins 0 0 n i (omega arith) (omega (arith, p.ordered, p.within)) (T-is (begins i) (begins-of p))
        (λ k h l. some-none (hit k) (later k) (λ m a. none k l m (from_le (suc k) (n - suc k) m a) (in-range k m a)))

    pub second_at : ((m : ℕ) → i < m → m < j → hit i m ≡ false) → second i ≡ j
    second_at none =
        first-is (hit i) 0 (suc i) (n - suc i) j (omega (arith, p.ordered)) (omega (arith, p.ordered, p.within)) (T-is (hit i j) p.hits) (λ m h l. none m h l)

  -- where there is no pair, the defaults
  module _ (none : (i j : ℕ) → i < j → j < n → hit i j ≡ false) where
    pub second_none : (i : ℕ) → second i ≡ 0
    second_none i = first-default (hit i) 0 (later i) (λ j a. none i j (from_le (suc i) (n - suc i) j a) (in-range i j a))

    pub first-none : first ≡ 0
    first-none = first-default begins 0 (below n) (λ i a. some-none (hit i) (later i) (λ j c. none i j (from_le (suc i) (n - suc i) j c) (in-range i j c)))
