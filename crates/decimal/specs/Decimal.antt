-- Decimal numbers without leading zeros, as bytes of ASCII: how one is written, and which words are one.
use Rattle.std.specs.Prelude.{ℕ, zero, suc, ◌+◌, ◌-◌, ◌*◌, ◌/◌, ◌%◌, Bool, true, false, not, ◌&&◌, List, [], ◌∷◌, ◌++◌, length, get_or, leb, ltb, eqb}
use Rattle.lists.specs.Lists.{all_of}

-- the byte of a digit
abbrev pub digit : ℕ → ℕ
digit d = 48 + d

-- a number's digits, the highest first, of which there are at most k + 1
unfoldable pub digits : ℕ → ℕ → List ℕ
digits zero n = digit (n % 10) ∷ []
digits (suc k) n = elim (ltb n 10) [ true ↦ digit n ∷ [] | false ↦ digits k (n / 10) ++ (digit (n % 10) ∷ []) ]

-- A number as it is written: n + 1 digits are always enough
unfoldable pub decimal : ℕ → List ℕ
decimal n = digits n n

-- whether a byte is one of the ten digits
unfoldable pub is_digit : ℕ → Bool
is_digit c = leb 48 c && leb c 57

-- what a run of digits is worth, after digits that are worth v
unfoldable pub value_from : ℕ → List ℕ → ℕ
value_from v [] = v
value_from v (c ∷ w) = value_from (10 * v + (c - 48)) w

abbrev pub value_of : List ℕ → ℕ
value_of w = value_from 0 w

-- whether a word begins with a zero that it need not have
unfoldable pub zero_led : List ℕ → Bool
zero_led w = eqb (get_or w 0 0) 48 && leb 2 (length w)

-- Whether a word is a number within a limit: one digit or more and nothing else, no leading zero, and not too large
unfoldable pub is_number : ℕ → List ℕ → Bool
is_number limit w = leb 1 (length w) && (not (zero_led w) && (all_of is_digit w && leb (value_of w) limit))

-- Everything above, opened at once, for a proof by computation: `unfolding opened`
unfoldable pub opened : Unit {0}
unfolding digits decimal is_digit value_from zero_led is_number all_of
opened = tt
