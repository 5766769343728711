-- What the engines' code cites of the sources: what is held, one source after the other, and row a spread.
use Prim.Native.Nat.{ℕ, zero, suc, pred, ◌+◌, ◌-◌, ◌<◌, ◌≤◌}
use native.Mathlib.Omega.{arith}
use native.Mathlib.Numerals.{add-one}
use mathlib.Core.Path.{◌≡◌, refl, sym, ap, ap₂, ◌∙◌, subst}
use mathlib.Core.Bool.{Bool, true, false, not, cond, ◌&&◌, ◌||◌, or_assoc, or-false, and-false}
use mathlib.Core.List.{List, [], ◌∷◌, ◌++◌, map}
use borrow.Author.Tests.{eq-eqb, ne_eqb, lt-ltb, le-ltb}
use lib.Dec.{T, eqb, ltb}
use Rattle.lists.specs.Lists.{some_of, keep}
use Rattle.lists.proofs.Tests.{by, T_of, or_left, or_right}
use Rattle.lists.proofs.Lists.{keep-true, keep-false, keep_append, some-cons, some-append, map-append}
use Rattle.lists.proofs.Places.{less_one}
use Rattle.rows.specs.Bits.{has, joined}
use Rattle.graph.specs.Transactions.{transaction_limit}
use Rattle.ancestors.specs.Others.{is_other, others}
use Rattle.ancestors.specs.Sources.{gathered, meeting, some_new, spread_to, closed_rows, begun_with, code_of, more, Joins}
use Rattle.ancestors.proofs.Gathering.{none-new}

-- ---- what is held

-- another transaction than a isn't held as 0
pub other-some : (a c : ℕ) → is_other a c ≡ true → 1 ≤ c
other-some a zero e = absurd (subst T (sym e) tt)
other-some a (suc c) e = omega arith

pub others-true : (a c : ℕ) (cs : List ℕ) → is_other a c ≡ true → others a (c ∷ cs) ≡ pred c ∷ others a cs
unfolding others
others-true a c cs e = ap (map pred) (keep-true (is_other a) c cs e)

pub others-false : (a c : ℕ) (cs : List ℕ) → is_other a c ≡ false → others a (c ∷ cs) ≡ others a cs
unfolding others
others-false a c cs e = ap (map pred) (keep-false (is_other a) c cs e)

pub others-none : (a : ℕ) → others a [] ≡ []
unfolding others keep
others-none a = refl

pub others-append : (a : ℕ) (cs ds : List ℕ) → others a (cs ++ ds) ≡ others a cs ++ others a ds
unfolding others
others-append a cs ds = ap (map pred) (keep_append (is_other a) cs ds) ∙ map-append pred (keep (is_other a) cs) (keep (is_other a) ds)

-- some of them that passes a test
pub some-other : (p : ℕ → Bool) (a : ℕ) (cs : List ℕ) → some_of p (others a cs) ≡ some_of (λ c. is_other a c && p (pred c)) cs
unfolding others some_of keep
some-other p a [] = refl
some-other p a (c ∷ cs) = by (is_other a c)
    (λ e. ap (some_of p) (others-true a c cs e) ∙ some-cons p (pred c) (others a cs)
    ∙ ap₂ (λ u v. u || v) (ap (λ b. b && p (pred c)) (sym e)) (some-other p a cs) ∙ sym (some-cons (λ d. is_other a d && p (pred d)) c cs))
    (λ e. ap (some_of p) (others-false a c cs e) ∙ some-other p a cs
    ∙ ap (λ b. (b && p (pred c)) || some_of (λ d. is_other a d && p (pred d)) cs) (sym e) ∙ sym (some-cons (λ d. is_other a d && p (pred d)) c cs))

-- ---- one source after the other

-- one that closes a cycle is new
back-new : (w : List ℕ) (a : ℕ) (bs : List ℕ) → T (meeting w a bs) → T (some_new w a bs)
unfolding meeting some_of
back-new w a [] t = t
back-new w a (b ∷ bs) t = subst T (sym (some-cons (λ c. not (has w a c)) b bs)) (by (has w a b)
    (λ e. or_right (not (has w a b)) (some_new w a bs) (back-new w a bs (subst (λ c. T ((not c && has w b a) || meeting (cond c w (joined w a b)) a bs)) e t)))
    (λ e. or_left (not (has w a b)) (some_new w a bs) (T_of (ap not e))))

gathered-append : (w : List ℕ) (a : ℕ) (bs cs : List ℕ) → gathered w a (bs ++ cs) ≡ gathered (gathered w a bs) a cs
unfolding gathered
gathered-append w a [] cs = refl
gathered-append w a (b ∷ bs) cs = gathered-append (cond (has w a b) w (joined w a b)) a bs cs

meeting-append : (w : List ℕ) (a : ℕ) (bs cs : List ℕ) → meeting w a (bs ++ cs) ≡ (meeting w a bs || meeting (gathered w a bs) a cs)
unfolding meeting gathered
meeting-append w a [] cs = refl
meeting-append w a (b ∷ bs) cs =
    let v : List ℕ = cond (has w a b) w (joined w a b) in
    ap (λ c. (not (has w a b) && has w b a) || c) (meeting-append v a bs cs)
    ∙ sym (or_assoc (not (has w a b) && has w b a) (meeting v a bs) (meeting (gathered v a bs) a cs))

-- where the first bring nothing new, the second bring what they would have brought without them
more-codes : (p q r s t : Bool) → (T q → T p) → (T s → T r) → (p ≡ false → r ≡ t) → more (code_of p q) (code_of r s) ≡ code_of (p || t) (q || s)
more-codes true true true true t f g h = refl
more-codes true true true false t f g h = refl
more-codes true true false true t f g h = absurd (g tt)
more-codes true true false false t f g h = refl
more-codes true false true true t f g h = refl
more-codes true false true false t f g h = refl
more-codes true false false true t f g h = absurd (g tt)
more-codes true false false false t f g h = refl
more-codes false true r s t f g h = absurd (f tt)
more-codes false false true true t f g h = ap (λ b. code_of b true) (h refl)
more-codes false false true false t f g h = ap (λ b. code_of b false) (h refl)
more-codes false false false true t f g h = absurd (g tt)
more-codes false false false false t f g h = ap (λ b. code_of b false) (h refl)

pub joins-none : (w : List ℕ) (a : ℕ) → Joins w a [] 0 w
unfolding some_of meeting gathered
joins-none w a = record { code = refl; rows = refl }

pub joins-then : (u v w : List ℕ) (a : ℕ) (bs cs : List ℕ) (p q r : ℕ) → Joins u a bs p v → Joins v a cs q w → r ≡ more p q → Joins u a (bs ++ cs) r w
joins-then u v w a bs cs p q r f g h = record {
  code = h
      ∙ ap₂ more f.code (g.code ∙ ap (λ l. code_of (some_new l a cs) (meeting l a cs)) f.rows)
      ∙ more-codes (some_new u a bs) (meeting u a bs) (some_new (gathered u a bs) a cs) (meeting (gathered u a bs) a cs) (some_new u a cs)
      (back-new u a bs) (back-new (gathered u a bs) a cs) (λ e. ap (λ l. some_new l a cs) (none-new u a bs e))
      ∙ sym (ap₂ code_of (some-append (λ b. not (has u a b)) bs cs) (meeting-append u a bs cs));
  rows = g.rows ∙ ap (λ l. gathered l a cs) f.rows ∙ sym (gathered-append u a bs cs);
}

-- one source: row a has its bit, or not
one_code : (w : List ℕ) (a b : ℕ) (c : Bool) → has w a b ≡ c → code_of (some_new w a (b ∷ [])) (meeting w a (b ∷ [])) ≡ code_of (not c) (not c && has w b a)
unfolding meeting some_of
one_code w a b c e =
    ap₂ code_of (some-cons (λ d. not (has w a d)) b [] ∙ or-false (not (has w a b))) (or-false (not (has w a b) && has w b a))
    ∙ ap (λ d. code_of (not d) (not d && has w b a)) e

pub joins-old : (w : List ℕ) (a b : ℕ) → has w a b ≡ true → Joins w a (b ∷ []) 0 w
unfolding gathered
joins-old w a b e = record { code = sym (one_code w a b true e); rows = ap (λ c. cond c w (joined w a b)) (sym e) }

pub joins-new : (w v : List ℕ) (a b r : ℕ) → has w a b ≡ false → r ≡ cond (has w b a) 2 1 → v ≡ joined w a b → Joins w a (b ∷ []) r v
unfolding gathered
joins-new w v a b r e h is = record { code = h ∙ sym (one_code w a b false e); rows = is ∙ ap (λ c. cond c w (joined w a b)) (sym e) }

-- one that is held
pub joins-held : (w v : List ℕ) (a c r : ℕ) → is_other a c ≡ true → Joins w a ((c - 1) ∷ []) r v → Joins w a (others a (c ∷ [])) r v
joins-held w v a c r e f = subst (λ l. Joins w a l r v) (ap (λ b. b ∷ []) (less_one c) ∙ sym (others-true a c [] e ∙ ap (λ l. pred c ∷ l) (others-none a))) f

pub joins-own : (w : List ℕ) (a c : ℕ) → is_other a c ≡ false → Joins w a (others a (c ∷ [])) 0 w
joins-own w a c e = subst (λ l. Joins w a l 0 w) (sym (others-false a c [] e ∙ others-none a)) (joins-none w a)

-- ---- all have come in

module _ (work : List ℕ) (a : ℕ) (bs : List ℕ) (r : ℕ) (v : List ℕ) (j : Joins work a bs r v) where
  new : not (eqb r 0) ≡ some_new work a bs
  new = ap (λ k. not (eqb k 0)) j.code ∙ tested (some_new work a bs) (meeting work a bs)
    where
      tested : (p q : Bool) → not (eqb (code_of p q) 0) ≡ p
      tested true true = refl
      tested true false = refl
      tested false q = refl

  -- whether a cycle closes
  pub joins-meeting : eqb r 2 ≡ meeting work a bs
  joins-meeting = ap (λ k. eqb k 2) j.code ∙ tested (some_new work a bs) (meeting work a bs) (back-new work a bs)
    where
      tested : (p q : Bool) → (T q → T p) → eqb (code_of p q) 2 ≡ q
      tested true true f = refl
      tested true false f = refl
      tested false true f = absurd (f tt)
      tested false false f = refl

  -- and the rows, spread where one is new
  pub joins-closed : (n : ℕ) (w : List ℕ) → w ≡ cond (not (eqb r 0)) (spread_to n v a) v → w ≡ closed_rows work n a bs
  unfolding closed_rows
  joins-closed n w k = by (not (eqb r 0))
      (λ t. k ∙ ap (λ b. cond b (spread_to n v a) v) t ∙ ap (λ l. spread_to n l a) j.rows ∙ sym (ap (λ b. cond b (spread_to n (gathered work a bs) a) work) (sym new ∙ t)))
      (λ f. k ∙ ap (λ b. cond b (spread_to n v a) v) f ∙ j.rows ∙ none-new work a bs (sym new ∙ f) ∙ sym (ap (λ b. cond b (spread_to n (gathered work a bs) a) work) (sym new ∙ f)))

-- ---- row a spread, one row more

pub spread-next : (w₀ w v : List ℕ) (d a : ℕ) → w ≡ spread_to d w₀ a → v ≡ cond (has w d a) (joined w d a) w → v ≡ spread_to (d + 1) w₀ a
unfolding spread_to
spread-next w₀ w v d a e h = h ∙ ap (λ l. cond (has l d a) (joined l d a) l) e ∙ ap (λ n. spread_to n w₀ a) (sym (add-one d))

-- ---- how many transactions have begun with a record

pub begun_first : (a n : ℕ) → a ≡ n → a < transaction_limit → begun_with a n ≡ suc n
unfolding begun_with
begun_first a n e h = ap₂ (λ p q. cond (p && q) (suc n) n) (eq-eqb a n e) (lt-ltb a transaction_limit h)

pub begun-other : (a n : ℕ) → (a ≡ n → ⊥) → begun_with a n ≡ n
unfolding begun_with
begun-other a n ne = ap (λ p. cond (p && ltb a transaction_limit) (suc n) n) (ne_eqb a n ne)

pub begun-over : (a n : ℕ) → transaction_limit ≤ a → begun_with a n ≡ n
unfolding begun_with
begun-over a n h = ap (λ q. cond (eqb a n && q) (suc n) n) (le-ltb a transaction_limit h) ∙ ap (λ q. cond q (suc n) n) (and-false (eqb a n))
