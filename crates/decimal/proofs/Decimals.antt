-- Laws of decimal numbers: what is written is read back, and what reads is what would be written.
use Prim.Native.Nat.{ℕ, zero, suc, ◌+◌, ◌-◌, ◌*◌, ◌/◌, ◌%◌, ◌≤◌, ◌<◌}
use native.Mathlib.Omega.{arith}
use mathlib.Core.Path.{◌≡◌, refl, sym, ap, ap₂, subst, ◌∙◌}
use mathlib.Core.Bool.{true, false, not, ◌&&◌}
use mathlib.Core.List.{List, [], ◌∷◌, ◌++◌, append_assoc, append-nil}
use lib.ListN.{length, get_or, length-append}
use lib.Dec.{T, leb, ltb, eqb}
use borrow.Author.Tests.{lt-ltb, le-ltb, le-leb, ltb-true, ltb-false, leb-true, leb-false, eqb-true, eq-eqb, not-true}
use Rattle.lists.specs.Lists.{all_of}
use Rattle.lists.proofs.Tests.{by, and-true}
use Rattle.lists.proofs.Lists.{all_none, all_first, all_more, all_both}
use Rattle.decimal.specs.Decimal.{digit, digits, decimal, is_digit, value_from, value_of, zero_led, is_number}

-- ---- How a number is written

digits-small : (k n : ℕ) → n < 10 → digits k n ≡ digit n ∷ []
unfolding digits
digits-small zero n h = let e : n % 10 ≡ n = omega arith in ap (λ d. digit d ∷ []) e
digits-small (suc k) n h = rw (lt-ltb n 10 h, digits)

digits_more : (k n : ℕ) → 10 ≤ n → digits (suc k) n ≡ digits k (n / 10) ++ (digit (n % 10) ∷ [])
unfolding digits
digits_more k n h = rw (le-ltb n 10 h, digits)

-- more room makes no difference
digits-room : (k m n : ℕ) → n ≤ k → n ≤ m → digits k n ≡ digits m n
digits-room zero m n p q = digits-small zero n (omega arith) ∙ sym (digits-small m n (omega arith))
digits-room (suc k) zero n p q = digits-small (suc k) n (omega arith) ∙ sym (digits-small zero n (omega arith))
digits-room (suc k) (suc m) n p q = by (ltb n 10)
    (λ e. let h : n < 10 = ltb-true n 10 e in digits-small (suc k) n h ∙ sym (digits-small (suc m) n h))
    (λ e. let h : 10 ≤ n = ltb-false n 10 e in
    digits_more k n h ∙ ap (λ w. w ++ (digit (n % 10) ∷ [])) (digits-room k m (n / 10) (omega arith) (omega arith)) ∙ sym (digits_more m n h))

-- a number below 10 is its digit, and any other the digits of its tenth and then its last digit
pub decimal-small : (n : ℕ) → n < 10 → decimal n ≡ digit n ∷ []
unfolding decimal
decimal-small n h = digits-small n n h

pub decimal-more : (n : ℕ) → 10 ≤ n → decimal n ≡ decimal (n / 10) ++ (digit (n % 10) ∷ [])
unfolding decimal
decimal-more zero h = absurd (omega arith)
decimal-more (suc n) h =
    digits_more n (suc n) h ∙ ap (λ w. w ++ (digit (suc n % 10) ∷ [])) (digits-room n (suc n / 10) (suc n / 10) (omega arith) (omega arith))

-- so what holds of one digit, and with one digit more, holds of every number as it is written
pub by_digits : (P : ℕ → List ℕ → Type 0)
    → ((n : ℕ) → n < 10 → P n (digit n ∷ []))
    → ((n : ℕ) → 10 ≤ n → (w : List ℕ) → P (n / 10) w → P n (w ++ (digit (n % 10) ∷ [])))
    → (n : ℕ) → P n (decimal n)
by_digits P one more n = below n n (omega arith)
  where
    below : (k n : ℕ) → n ≤ k → P n (decimal n)
    below zero n h = subst (P n) (sym (decimal-small n (omega arith))) (one n (omega arith))
    below (suc k) n h = by (ltb n 10)
        (λ e. subst (P n) (sym (decimal-small n (ltb-true n 10 e))) (one n (ltb-true n 10 e)))
        (λ e. let l : 10 ≤ n = ltb-false n 10 e in
        subst (P n) (sym (decimal-more n l)) (more n l (decimal (n / 10)) (below k (n / 10) (omega arith))))

-- ---- What is written is a number, and its value is the number

value-snoc : (v : ℕ) (w : List ℕ) (c : ℕ) → value_from v (w ++ (c ∷ [])) ≡ 10 * value_from v w + (c - 48)
unfolding value_from
value-snoc v [] c = refl
value-snoc v (x ∷ w) c = value-snoc (10 * v + (x - 48)) w c

pub digit-is : (c : ℕ) → 48 ≤ c → c ≤ 57 → is_digit c ≡ true
unfolding is_digit
digit-is c p q = ap₂ (λ a b. a && b) (le-leb 48 c p) (le-leb c 57 q)

digit-alone : (c : ℕ) → 48 ≤ c → c ≤ 57 → all_of is_digit (c ∷ []) ≡ true
digit-alone c p q = all_more is_digit c [] (digit-is c p q) (all_none is_digit)

pub digit-range : (c : ℕ) → is_digit c ≡ true → (48 ≤ c) × (c ≤ 57)
unfolding is_digit
digit-range c h = let p = and-true (leb 48 c) (leb c 57) h in (leb-true 48 c p.0, leb-true c 57 p.1)

-- what is known of a number as it is written
record Written (n : ℕ) (w : List ℕ) : Type 0 where
  some : 1 ≤ length w
  worth : value_of w ≡ n
  all_digits : all_of is_digit w ≡ true
  long : 2 ≤ length w → 10 ≤ n
  zero-first : get_or w 0 0 ≡ 48 → n ≡ 0

decimal-written : (n : ℕ) → Written n (decimal n)
unfolding value_from
decimal-written = by_digits Written
    (λ n h. record {
      some = omega arith;
      worth = omega arith;
      all_digits = digit-alone (digit n) (omega arith) (omega arith);
      long = λ l. absurd (omega arith);
      zero-first = λ z. omega arith;
    })
    (λ n h w p. record {
      some = omega (arith, length-append w (digit (n % 10) ∷ []));
      worth = value-snoc 0 w (digit (n % 10)) ∙ omega (arith, p.worth);
      all_digits = all_both is_digit w (digit (n % 10) ∷ []) p.all_digits (digit-alone (digit (n % 10)) (omega arith) (omega arith));
      long = λ l. h;
      zero-first = λ z. let q : n / 10 ≡ 0 = p.zero-first (first (digit (n % 10)) w p z) in absurd (omega arith);
    })
  where
    first : {n : ℕ} (d : ℕ) (w : List ℕ) → Written n w → get_or (w ++ (d ∷ [])) 0 0 ≡ 48 → get_or w 0 0 ≡ 48
    first d [] p z = absurd (omega (arith, p.some))
    first d (c ∷ w) p z = z

pub value-decimal : (n : ℕ) → value_of (decimal n) ≡ n
value-decimal n = (decimal-written n).worth

pub decimal-digits : (n : ℕ) → all_of is_digit (decimal n) ≡ true
decimal-digits n = (decimal-written n).all_digits

pub number-decimal : (limit n : ℕ) → n ≤ limit → is_number limit (decimal n) ≡ true
unfolding is_number zero_led
number-decimal limit n h =
    let w : List ℕ = decimal n in
    let p : Written n w = decimal-written n in
    let z : (eqb (get_or w 0 0) 48 && leb 2 (length w)) ≡ false = by (eqb (get_or w 0 0) 48)
    (λ e. let n0 : n ≡ 0 = p.zero-first (eqb-true (get_or w 0 0) 48 e) in
    ap₂ (λ a b. a && b) e (short n w p n0))
    (λ e. ap (λ a. a && leb 2 (length w)) e) in
    ap₂ (λ a b. a && b) (le-leb 1 (length w) p.some)
    (ap₂ (λ a b. a && b) (ap not z) (ap₂ (λ a b. a && b) p.all_digits (le-leb (value_of w) limit (omega (arith, p.worth)))))
  where
    short : (n : ℕ) (w : List ℕ) → Written n w → n ≡ 0 → leb 2 (length w) ≡ false
    short n w p z = by (leb 2 (length w)) (λ e. absurd (omega (arith, p.long (leb-true 2 (length w) e)))) (λ e. e)

-- ---- A word that is a number is what would be written

-- after a number above 0, each digit is one digit more
tail_written : (v : ℕ) (w : List ℕ) → 1 ≤ v → all_of is_digit w ≡ true → decimal (value_from v w) ≡ decimal v ++ w
unfolding value_from
tail_written v [] h d = sym (append-nil (decimal v))
tail_written v (c ∷ w) h d =
    let p = all_first is_digit c w d in
    let q : (48 ≤ c) × (c ≤ 57) = digit-range c p.0 in
    let u : ℕ = 10 * v + (c - 48) in
    let tenth : u / 10 ≡ v = omega arith in
    let last : digit (u % 10) ≡ c = omega arith in
    tail_written u w (omega arith) p.1
    ∙ ap (λ x. x ++ w) (decimal-more u (omega arith) ∙ ap₂ (λ x y. decimal x ++ (y ∷ [])) tenth last)
    ∙ append_assoc (decimal v) (c ∷ []) w

-- the parts of the test
record Reads (limit : ℕ) (w : List ℕ) : Type 0 where
  some : 1 ≤ length w
  led : zero_led w ≡ false
  all_digits : all_of is_digit w ≡ true
  within : value_of w ≤ limit

reads : (limit : ℕ) (w : List ℕ) → is_number limit w ≡ true → Reads limit w
unfolding is_number
reads limit w h =
    let a = and-true (leb 1 (length w)) (not (zero_led w) && (all_of is_digit w && leb (value_of w) limit)) h in
    let b = and-true (not (zero_led w)) (all_of is_digit w && leb (value_of w) limit) a.1 in
    let c = and-true (all_of is_digit w) (leb (value_of w) limit) b.1 in
    record { some = leb-true 1 (length w) a.0; led = not-true (zero_led w) b.0; all_digits = c.0; within = leb-true (value_of w) limit c.1 }

pub number_digits : (limit : ℕ) (w : List ℕ) → is_number limit w ≡ true → all_of is_digit w ≡ true
number_digits limit w h = (reads limit w h).all_digits

pub number-within : (limit : ℕ) (w : List ℕ) → is_number limit w ≡ true → value_of w ≤ limit
number-within limit w h = (reads limit w h).within

-- the first digit is not 0, or it is the only one
value-first : (c : ℕ) (w : List ℕ) → 48 ≤ c → c ≤ 57 → all_of is_digit w ≡ true → zero_led (c ∷ w) ≡ false → decimal (value_of (c ∷ w)) ≡ c ∷ w
unfolding value_from zero_led
value-first c w p q d led = by (leb c 48) (λ e. alone w led (leb-true c 48 e)) (λ e. tailed (leb-false c 48 e))
  where
    v : ℕ
    v = 10 * 0 + (c - 48)

    written-v : decimal v ≡ c ∷ []
    written-v = decimal-small v (omega arith) ∙ ap (λ x. x ∷ []) (omega arith)

    tailed : 48 < c → decimal (value_from v w) ≡ c ∷ w
    tailed h = tail_written v w (omega arith) d ∙ ap (λ x. x ++ w) written-v

    alone : (w : List ℕ) → zero_led (c ∷ w) ≡ false → c ≤ 48 → decimal (value_from v w) ≡ c ∷ w
    alone [] led h = written-v
    alone (x ∷ w) led h =
        let e : eqb c 48 ≡ true = eq-eqb c 48 (omega arith) in
        let l : leb 2 (length (c ∷ x ∷ w)) ≡ true = le-leb 2 (length (c ∷ x ∷ w)) (omega arith) in
        absurd (subst T (sym (ap₂ (λ a b. a && b) e l) ∙ led) tt)

pub decimal-value : (limit : ℕ) (w : List ℕ) → is_number limit w ≡ true → decimal (value_of w) ≡ w
decimal-value limit w h = go w (reads limit w h)
  where
    go : (w : List ℕ) → Reads limit w → decimal (value_of w) ≡ w
    go [] r = absurd (omega (arith, r.some))
    go (c ∷ w) r =
        let d = all_first is_digit c w r.all_digits in
        let b = digit-range c d.0 in
        value-first c w b.0 b.1 d.1 r.led

-- ---- How long a number is

pub decimal-size : (n : ℕ) → 10 ≤ n → length (decimal n) ≡ length (decimal (n / 10)) + 1
decimal-size n h = ap length (decimal-more n h) ∙ length-append (decimal (n / 10)) (digit (n % 10) ∷ [])

size_step : (n m k : ℕ) → n < 10 * m → (n / 10 < m → length (decimal (n / 10)) ≤ k) → 1 ≤ k → length (decimal n) ≤ suc k
size_step n m k h rest some = by (ltb n 10)
    (λ e. omega (arith, ap length (decimal-small n (ltb-true n 10 e))))
    (λ e. omega (arith, decimal-size n (ltb-false n 10 e), rest (omega arith)))

size-one : (n : ℕ) → n < 10 → length (decimal n) ≤ 1
size-one n h = omega (arith, ap length (decimal-small n h))

pub size-two : (n : ℕ) → n < 100 → length (decimal n) ≤ 2
size-two n h = size_step n 10 1 h (size-one (n / 10)) (omega arith)

pub size-three : (n : ℕ) → n < 1000 → length (decimal n) ≤ 3
size-three n h = size_step n 100 2 h (size-two (n / 10)) (omega arith)

pub size-four : (n : ℕ) → n < 10000 → length (decimal n) ≤ 4
size-four n h = size_step n 1000 3 h (size-three (n / 10)) (omega arith)

pub size-five : (n : ℕ) → n < 100000 → length (decimal n) ≤ 5
size-five n h = size_step n 10000 4 h (size-four (n / 10)) (omega arith)
