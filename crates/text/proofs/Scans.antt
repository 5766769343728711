-- Laws for the loops that read a number and look a name up.
use Prim.Native.Nat.{ℕ, suc, ◌+◌, ◌-◌, ◌*◌, ◌≤◌, ◌<◌}
use native.Mathlib.Omega.{arith}
use native.Mathlib.Numerals.{add-one}
use mathlib.Core.Path.{◌≡◌, refl, sym, ap, ap₂, ◌∙◌}
use mathlib.Core.Bool.{Bool, true, false, cond, not, ◌&&◌}
use mathlib.Core.List.{List, [], ◌∷◌}
use lib.ListN.{length, get_or, drop, drop_of_length-le}
use lib.Seq.{drop-cons}
use lib.Dec.{leb, eqb}
use lib.Pointwise.{pointwise}
use borrow.Author.Tests.{le-leb, lt-leb, leb-true, eq-eqb, eqb-true}
use Rattle.lists.specs.Lists.{all_of}
use Rattle.lists.proofs.Tests.{by, and-true}
use Rattle.lists.proofs.Lists.{all_cons}
use Rattle.decimal.specs.Decimal.{is_digit, value_from, value_of, zero_led, is_number}
use Rattle.std.specs.Prelude.{Some, None}
use Rattle.text.specs.Line.{names, name, ascii, same_word, place_from}
use Rattle.text.specs.Steps.{run_in, number_in}
use Rattle.decimal.proofs.Decimals.{digit-is, digit-range, number-within}
use Rattle.text.proofs.Words.{each-kind, place_here, place-later}

-- ---- A run of digits

value_grows : (v : ℕ) (w : List ℕ) → v ≤ value_from v w
unfolding value_from
value_grows v [] = omega arith
value_grows v (c ∷ w) = omega (arith, value_grows (10 * v + (c - 48)) w)

pub run_end : (limit v : ℕ) → v ≤ limit → run_in limit v [] ≡ Some v
unfolding run_in value_from all_of
run_end limit v h = ap (λ b. cond b (Some v) None) (le-leb v limit h)

pub run-over : (limit v : ℕ) (w : List ℕ) → limit < v → run_in limit v w ≡ None
unfolding run_in
run-over limit v w h =
    let b : leb (value_from v w) limit ≡ false = lt-leb (value_from v w) limit (omega (arith, value_grows v w)) in
    ap (λ b. cond (all_of is_digit w && b) (Some (value_from v w)) None) b ∙ none (all_of is_digit w)
  where
    none : (a : Bool) → cond (a && false) (Some (value_from v w)) None ≡ None
    none true = refl
    none false = refl

run-digit : (limit v c : ℕ) (w : List ℕ) → is_digit c ≡ true → run_in limit v (c ∷ w) ≡ run_in limit (10 * v + (c - 48)) w
unfolding run_in value_from
run-digit limit v c w h =
    let u : ℕ = value_from (10 * v + (c - 48)) w in
    ap (λ b. cond (b && leb u limit) (Some u) None) (all_cons is_digit c w ∙ ap (λ b. b && all_of is_digit w) h)

run-other : (limit v c : ℕ) (w : List ℕ) → is_digit c ≡ false → run_in limit v (c ∷ w) ≡ None
unfolding run_in value_from
run-other limit v c w h =
    let u : ℕ = value_from (10 * v + (c - 48)) w in
    ap (λ b. cond (b && leb u limit) (Some u) None) (all_cons is_digit c w ∙ ap (λ b. b && all_of is_digit w) h)

not_digit : (c : ℕ) → (48 ≤ c → c ≤ 57 → ⊥) → is_digit c ≡ false
not_digit c h = by (is_digit c) (λ e. let d = digit-range c e in absurd (h d.0 d.1)) (λ e. e)

-- at byte i of a word
pub run_on : (limit v : ℕ) (w : List ℕ) (i : ℕ) → i < length w → 48 ≤ get_or w i 0 → get_or w i 0 ≤ 57
    → run_in limit v (drop i w) ≡ run_in limit (10 * v + (get_or w i 0 - 48)) (drop (i + 1) w)
run_on limit v w i l a b =
    ap (run_in limit v) (drop-cons w i 0 l)
    ∙ run-digit limit v (get_or w i 0) (drop (suc i) w) (digit-is (get_or w i 0) a b)
    ∙ ap (λ n. run_in limit (10 * v + (get_or w i 0 - 48)) (drop n w)) (sym (add-one i))

pub run-bad : (limit v : ℕ) (w : List ℕ) (i : ℕ) → i < length w → (48 ≤ get_or w i 0 → get_or w i 0 ≤ 57 → ⊥) → run_in limit v (drop i w) ≡ None
run-bad limit v w i l h = ap (run_in limit v) (drop-cons w i 0 l) ∙ run-other limit v (get_or w i 0) (drop (suc i) w) (not_digit (get_or w i 0) h)

-- ---- A number

number-tests : (limit : ℕ) (w : List ℕ) (a b : Bool) → leb 1 (length w) ≡ a → zero_led w ≡ b → number_in limit w ≡ cond (a && (not b && (all_of is_digit w && leb (value_of w) limit))) (Some (value_of w)) None
unfolding number_in is_number
number-tests limit w a b p q = ap₂ (λ x y. cond (x && (not y && (all_of is_digit w && leb (value_of w) limit))) (Some (value_of w)) None) p q

pub number-empty : (limit : ℕ) (w : List ℕ) → length w < 1 → number_in limit w ≡ None
number-empty limit w h = number-tests limit w false (zero_led w) (lt-leb 1 (length w) h) refl

pub number-led : (limit : ℕ) (w : List ℕ) → 2 ≤ length w → get_or w 0 0 ≡ 48 → number_in limit w ≡ None
unfolding zero_led
number-led limit w h z =
    number-tests limit w true true (le-leb 1 (length w) (omega arith)) (ap₂ (λ a b. a && b) (eq-eqb (get_or w 0 0) 48 z) (le-leb 2 (length w) h))

pub number-run : (limit : ℕ) (w : List ℕ) → 1 ≤ length w → (get_or w 0 0 ≡ 48 → length w < 2) → number_in limit w ≡ run_in limit 0 w
unfolding run_in zero_led
number-run limit w h z = number-tests limit w true false (le-leb 1 (length w) h) (unled (eqb (get_or w 0 0) 48) refl)
  where
    unled : (b : Bool) → eqb (get_or w 0 0) 48 ≡ b → zero_led w ≡ false
    unled true e = ap₂ (λ a b. a && b) e (lt-leb 2 (length w) (z (eqb-true (get_or w 0 0) 48 e)))
    unled false e = ap (λ a. a && leb 2 (length w)) e

-- what a run gives is within the limit
pub run-low : (limit v : ℕ) (w : List ℕ) (n : ℕ) → Some n ≡ run_in limit v w → n ≤ limit
unfolding run_in
run-low limit v w n h = by (all_of is_digit w && leb (value_from v w) limit)
    (λ e. let s : Some n ≡ Some (value_from v w) = h ∙ (rw (e, run_in) refl) in
    let same : n ≡ value_from v w = cc s in
    omega (arith, same, leb-true (value_from v w) limit (and-true (all_of is_digit w) (leb (value_from v w) limit) e).1))
    (λ e. let s : Some n ≡ None = h ∙ (rw (e, run_in) refl) in let no : ◌≡◌ {A = ℕ} 0 1 = cc s in absurd (omega arith))

-- a number that is given is within the limit
pub record Number (limit : ℕ) (w : List ℕ) (n : ℕ) : Type 0 where
  pub is : is_number limit w ≡ true
  pub worth : value_of w ≡ n
  pub within : n ≤ limit

pub number-given : (limit : ℕ) (w : List ℕ) (n : ℕ) → Some n ≡ number_in limit w → Number limit w n
unfolding number_in
number-given limit w n h = by (is_number limit w)
    (λ e. let s : Some n ≡ Some (value_of w) = h ∙ (rw (e, number_in) refl) in
    let same : n ≡ value_of w = cc s in
    record { is = e; worth = sym same; within = omega (arith, number-within limit w e) })
    (λ e. let s : Some n ≡ None = h ∙ (rw (e, number_in) refl) in let no : ◌≡◌ {A = ℕ} 0 1 = cc s in absurd (omega arith))

pub number-none : (limit : ℕ) (w : List ℕ) → None ≡ number_in limit w → is_number limit w ≡ false
unfolding number_in
number-none limit w h = by (is_number limit w)
    (λ e. let s : Some (value_of w) ≡ None = sym (h ∙ (rw (e, number_in) refl)) in let no : ◌≡◌ {A = ℕ} 0 1 = cc s in absurd (omega arith))
    (λ e. e)

-- ---- Names

pub name-short : (k : ℕ) → 1 ≤ k → k ≤ 10 → length (name k) ≤ 8
unfolding name names ascii
name-short = each-kind (λ k. length (name k) ≤ 8) (omega arith) (omega arith) (omega arith) (omega arith) (omega arith) (omega arith) (omega arith) (omega arith) (omega arith) (omega arith)

-- the comparison of two slices
pub same-pointwise : (w v : List ℕ) → pointwise eqb w v ≡ same_word w v
unfolding same_word
same-pointwise [] [] = refl
same-pointwise [] (d ∷ v) = refl
same-pointwise (c ∷ w) [] = refl
same-pointwise (c ∷ w) (d ∷ v) = ap (λ b. eqb c d && b) (same-pointwise w v)

-- the place of a word among the names from kind k on
pub named_here : (w : List ℕ) (k : ℕ) → 1 ≤ k → k ≤ 10 → same_word w (name k) ≡ true → place_from k w (drop (k - 1) names) ≡ k
unfolding name names
named_here w k p q e = ap (place_from k w) (drop-cons names (k - 1) [] (omega arith)) ∙ place_here k w (name k) (drop (suc (k - 1)) names) e

pub named-on : (w : List ℕ) (k : ℕ) → 1 ≤ k → k ≤ 10 → same_word w (name k) ≡ false → place_from k w (drop (k - 1) names) ≡ place_from (k + 1) w (drop (k + 1 - 1) names)
unfolding name names
named-on w k p q e =
    let a : suc k ≡ k + 1 = omega arith in
    let b : suc (k - 1) ≡ k + 1 - 1 = omega arith in
    ap (place_from k w) (drop-cons names (k - 1) [] (omega arith))
    ∙ place-later k w (name k) (drop (suc (k - 1)) names) e
    ∙ ap₂ (λ i j. place_from i w (drop j names)) a b

pub named_none : (w : List ℕ) (k : ℕ) → 10 < k → place_from k w (drop (k - 1) names) ≡ 0
unfolding place_from names
named_none w k h = ap (place_from k w) (drop_of_length-le names {i = k - 1} (omega arith))
