-- Laws of places in a list: what stands there, what is stored there, and what is written over it or at a place of it.
use Prim.Native.Nat.{ℕ, zero, suc, pred, ◌+◌, ◌-◌, ◌<◌, ◌≤◌}
use native.Mathlib.Omega.{arith}
use native.Mathlib.Numerals.{add-one}
use native.Mathlib.Nat.{add-zero, zero-add, lt_of_not-le}
use mathlib.Core.Path.{◌≡◌, refl, sym, ap, ap₂, ◌∙◌}
use mathlib.Core.Logic.{◌≢◌}
use mathlib.Core.List.{List, [], ◌∷◌, ◌++◌, append_assoc, append-nil}
use lib.ListN.{length, get_or, set, take, drop, replicate, length-set, length-append, length-drop, take-append-drop, drop_of_length-le, get_or-eq_default}
use lib.Seq.{take_all, take-suc, take_at, drop-cons, drop-drop, drop-append-add, set_at, set_split, length-take-le}
use borrow.Rule.Slice.PartMut.{put_mid}
use Rattle.lists.specs.Lists.{over, written_at}

-- ---- entries

-- every entry of zeros is 0
pub zeros-at : (n i : ℕ) → ◌≡◌ {A = ℕ} (get_or (replicate n 0) i 0) 0
zeros-at zero i = refl
zeros-at (suc n) zero = refl
zeros-at (suc n) (suc i) = zeros-at n i

-- an entry that is a place and 1, less 1
pub less_one : (n : ℕ) → n - 1 ≡ pred n
less_one zero = refl
less_one (suc n) = omega arith

-- an entry that isn't 0 is within its list
pub within : (l : List ℕ) (i : ℕ) → get_or l i 0 ≢ 0 → i < length l
within l i h = lt_of_not-le (λ long. h (get_or-eq_default l 0 long))

module _ {A : Type 0} where
  -- past the end of a list whose last is the default, the default
  pub last-default : (l : List A) (d : A) (n : ℕ) → length l ≤ n → get_or (l ++ (d ∷ [])) n d ≡ d
  last-default [] d zero h = refl
  last-default [] d (suc n) h = refl
  last-default (x ∷ l) d zero h = absurd (omega arith)
  last-default (x ∷ l) d (suc n) h = last-default l d n (omega arith)

  -- ---- parts

  -- what is lent as the part from n on
  pub rest-whole : (l : List A) (n : ℕ) → take (length l - n) (drop n l) ≡ drop n l
  rest-whole l n = take_all (length l - n) (drop n l) (omega (arith, length-drop n l))

  -- one more
  pub take-one-more : (l : List A) (i : ℕ) (d : A) → i < length l → take (i + 1) l ≡ take i l ++ (get_or l i d ∷ [])
  take-one-more l i d h = ap (λ k. take k l) (add-one i) ∙ take-suc l i d h

  -- one entry more copied from the front of a list to that of another
  pub copy-on : (s d : List A) (i : ℕ) (z : A) → i < length s → i < length d → set (take i s ++ drop i d) i (get_or s i z) ≡ take (i + 1) s ++ drop (i + 1) d
  copy-on s d i z l m =
      ap (λ r. set (take i s ++ r) i (get_or s i z)) (drop-cons d i z m)
      ∙ set_at (take i s) (get_or d i z) (drop (suc i) d) (get_or s i z) i (length-take-le i s (omega arith))
      ∙ sym (append_assoc (take i s) (get_or s i z ∷ []) (drop (suc i) d))
      ∙ ap (λ r. r ++ drop (suc i) d) (sym (take-suc s i z l))
      ∙ ap (λ n. take n s ++ drop n d) (sym (add-one i))

  -- ---- written over

  -- one more store writes one more over
  pub over-more : (new old : List A) (x : A) → length new < length old → set (over new old) (length new) x ≡ over (new ++ (x ∷ [])) old
  unfolding over
  over-more new old x h =
      ap (λ r. set (new ++ r) (length new) x) (drop-cons old (length new) x h)
      ∙ set_at new (get_or old (length new) x) (drop (suc (length new)) old) x (length new) refl
      ∙ sym (append_assoc new (x ∷ []) (drop (suc (length new)) old))
      ∙ ap (λ k. (new ++ (x ∷ [])) ++ drop k old) (sym (length-append new (x ∷ []) ∙ add-one (length new)))

  -- ---- written at a place

  pub written-nothing : (l : List A) (n : ℕ) → written_at l n [] ≡ l
  unfolding written_at
  written-nothing l n = ap (λ k. take n l ++ drop k l) (add-zero n) ∙ take-append-drop n l

  pub written_start : (l new : List A) → written_at l 0 new ≡ over new l
  unfolding written_at over
  written_start l new = ap (λ k. new ++ drop k l) (zero-add (length new))

  -- a store
  pub written_one : (l : List A) (n : ℕ) (x : A) → n < length l → set l n x ≡ written_at l n (x ∷ [])
  unfolding written_at
  written_one l n x h = set_split l n x h ∙ ap (λ k. take n l ++ (x ∷ drop k l)) (sym (add-one n))

  pub length-written : (l : List A) (n : ℕ) (new : List A) → n + length new ≤ length l → length (written_at l n new) ≡ length l
  unfolding written_at
  length-written l n new h =
      let t : length (take n l) ≡ n = length-take-le n l (omega arith) in
      let d : length (drop (n + length new) l) ≡ length l - (n + length new) = length-drop (n + length new) l in
      let a : length (new ++ drop (n + length new) l) ≡ length new + length (drop (n + length new) l) = length-append new (drop (n + length new) l) in
      length-append (take n l) (new ++ drop (n + length new) l) ∙ (omega arith)

  -- what is written after something is written with it
  pub written-more : (l : List A) (n : ℕ) (new more : List A) → n ≤ length l
      → written_at (written_at l n new) (n + length new) more ≡ written_at l n (new ++ more)
  unfolding written_at
  written-more l n new more h =
      let front : List A = take n l ++ new in
      let rest : List A = drop (n + length new) l in
      let k : ℕ = n + length new in
      let whole : written_at l n new ≡ front ++ rest = sym (append_assoc (take n l) new rest) in
      let size : length front ≡ k = length-append (take n l) new ∙ ap (λ m. m + length new) (length-take-le n l h) in
      let t : take k (written_at l n new) ≡ front = ap (take k) whole ∙ take_at front rest k size in
      let sum : k + length more ≡ n + length (new ++ more) =
      (let a : length (new ++ more) ≡ length new + length more = length-append new more in omega arith) in
      let d : drop (k + length more) (written_at l n new) ≡ drop (n + length (new ++ more)) l =
      ap (drop (k + length more)) whole
      ∙ ap (λ m. drop (m + length more) (front ++ rest)) (sym size)
      ∙ drop-append-add front rest (length more)
      ∙ drop-drop (length more) k l
      ∙ ap (λ m. drop m l) sum in
      let last : List A = drop (n + length (new ++ more)) l in
      ap₂ (λ (x y : List A). x ++ (more ++ y)) t d
      ∙ append_assoc (take n l) new (more ++ last)
      ∙ ap (λ x. take n l ++ x) (sym (append_assoc new more last))

  -- two stores, one after the other
  pub written-two : (l : List A) (n : ℕ) (x y : A) → n + 2 ≤ length l → set (set l n x) (n + 1) y ≡ written_at l n (x ∷ y ∷ [])
  written-two l n x y h =
      written_one (set l n x) (n + 1) y (omega (arith, length-set l n x))
      ∙ ap (λ v. written_at v (n + 1) (y ∷ [])) (written_one l n x (omega arith))
      ∙ written-more l n (x ∷ []) (y ∷ []) (omega arith)

-- what a callee wrote over the front of the part from a on, said of the whole
pub put-over : (b xs ys : List ℕ) (a : ℕ) → a ≤ length xs → ys ≡ over b (take (length xs - a) (drop a xs)) → put_mid a (length xs - a) xs ys ≡ take a xs ++ b ++ drop (a + length b) xs
unfolding over
put-over b xs ys a l e =
    let k : length (drop a xs) ≤ length xs - a = omega (arith, length-drop a xs) in
    let n : drop (length xs - a) (drop a xs) ≡ [] = drop_of_length-le (drop a xs) k in
    simp (e, rest-whole xs a, n, append-nil, drop-drop) (sym (append_assoc (take a xs) b (drop (a + length b) xs)))
