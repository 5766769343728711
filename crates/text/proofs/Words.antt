-- Laws of words, lines and names: cut apart and put together again.
use Prim.Native.Nat.{ℕ, zero, suc, ◌+◌, ◌-◌, ◌≤◌, ◌<◌}
use native.Mathlib.Omega.{arith}
use mathlib.Core.Path.{◌≡◌, refl, sym, ap, ap₂, subst, ◌∙◌}
use mathlib.Core.Bool.{Bool, true, false, not}
use mathlib.Core.List.{List, [], ◌∷◌, ◌++◌, map}
use lib.ListN.{length, get_or}
use lib.Dec.{T, eqb}
use borrow.Author.Tests.{ne_eqb, eqb-true, not-true}
use Rattle.lists.specs.Lists.{all_of, each}
use Rattle.lists.proofs.Tests.{by, and-true}
use Rattle.lists.proofs.Lists.{all_none, all_first, all_more, all_both}
use Rattle.decimal.specs.Decimal.{decimal, is_digit}
use Rattle.text.specs.Line.{names, name, ascii, spaced, glued, words, same_word, place_from, kind_named, space, line_feed}
use Rattle.text.specs.File.{lines}
use Rattle.decimal.proofs.Decimals.{digit-range, decimal-digits}

-- ---- Words without a byte

-- no byte of a word is c
abbrev pub lacks : ℕ → List ℕ → Bool
lacks c w = all_of (λ x. not (eqb x c)) w

-- each word of some lacks c
abbrev pub AllLack : ℕ → List (List ℕ) → Type 0
AllLack c [] = Unit {0}
AllLack c (w ∷ ws) = (lacks c w ≡ true) × AllLack c ws

pub lacks-first : (c x : ℕ) (w : List ℕ) → lacks c (x ∷ w) ≡ true → (eqb x c ≡ false) × (lacks c w ≡ true)
lacks-first c x w h =
    let p = all_first (λ y. not (eqb y c)) x w h in
    (not-true (eqb x c) p.0, p.1)

lacks-cons : (c x : ℕ) (w : List ℕ) → eqb x c ≡ false → lacks c w ≡ true → lacks c (x ∷ w) ≡ true
lacks-cons c x w e h = all_more (λ y. not (eqb y c)) x w (ap not e) h

-- digits are above 47
pub digits-lack : (c : ℕ) (w : List ℕ) → c < 48 → all_of is_digit w ≡ true → lacks c w ≡ true
digits-lack c [] l h = all_none (λ y. not (eqb y c))
digits-lack c (x ∷ w) l h =
    let p = all_first is_digit x w h in
    let q = digit-range x p.0 in
    lacks-cons c x w (ne_eqb x c (λ e. omega arith)) (digits-lack c w l p.1)

pub decimal-lacks : (c n : ℕ) → c < 48 → lacks c (decimal n) ≡ true
decimal-lacks c n l = digits-lack c (decimal n) l (decimal-digits n)

pub decimals-lack : (c : ℕ) (ns : List ℕ) → c < 48 → AllLack c (map decimal ns)
decimals-lack c [] l = tt
decimals-lack c (n ∷ ns) l = (decimal-lacks c n l, decimals-lack c ns l)

-- words with spaces between lack what isn't a space and what no word has
pub spaced-lacks : (c : ℕ) (ws : List (List ℕ)) → eqb space c ≡ false → AllLack c ws → lacks c (spaced ws) ≡ true
unfolding spaced
spaced-lacks c [] e h = all_none (λ y. not (eqb y c))
spaced-lacks c (w ∷ []) e h = h.0
spaced-lacks c (w ∷ v ∷ ws) e h = all_both (λ y. not (eqb y c)) w (space ∷ spaced (v ∷ ws)) h.0 (lacks-cons c space (spaced (v ∷ ws)) e (spaced-lacks c (v ∷ ws) e h.1))

-- ---- Words, cut apart and put together

pub words-cut : (c : ℕ) (bs : List ℕ) → eqb c space ≡ true → words (c ∷ bs) ≡ [] ∷ words bs
unfolding words
words-cut c bs e = rw (e, words)

pub words-on : (c : ℕ) (bs : List ℕ) → eqb c space ≡ false → words (c ∷ bs) ≡ glued c (words bs)
unfolding words
words-on c bs e = rw (e, words)

-- there is always a first word
pub words-some : (bs : List ℕ) → 1 ≤ length (words bs)
unfolding words glued
words-some [] = omega arith
words-some (c ∷ bs) = by (eqb c space)
    (λ e. subst (λ l. 1 ≤ length l) (sym (words-cut c bs e)) (omega arith))
    (λ e. subst (λ l. 1 ≤ length l) (sym (words-on c bs e)) (glued-some (words bs)))
  where
    glued-some : (ws : List (List ℕ)) → 1 ≤ length (glued c ws)
    glued-some [] = omega arith
    glued-some (w ∷ ws) = omega arith

glued-spaced : (c : ℕ) (ws : List (List ℕ)) → spaced (glued c ws) ≡ c ∷ spaced ws
unfolding spaced glued
glued-spaced c [] = refl
glued-spaced c (w ∷ []) = refl
glued-spaced c (w ∷ v ∷ ws) = refl

pub spaced-words : (bs : List ℕ) → spaced (words bs) ≡ bs
unfolding words spaced
spaced-words [] = refl
spaced-words (c ∷ bs) = by (eqb c space)
    (λ e. ap spaced (words-cut c bs e) ∙ new (words bs) (words-some bs) ∙ ap₂ (λ x y. x ∷ y) (sym (eqb-true c space e)) (spaced-words bs))
    (λ e. ap spaced (words-on c bs e) ∙ glued-spaced c (words bs) ∙ ap (λ y. c ∷ y) (spaced-words bs))
  where
    new : (ws : List (List ℕ)) → 1 ≤ length ws → spaced ([] ∷ ws) ≡ space ∷ spaced ws
    new [] h = absurd (omega arith)
    new (w ∷ ws) h = refl

-- a word and a space, then more: that word, then the words of the rest
pub words-first : (w bs : List ℕ) → lacks space w ≡ true → words (w ++ (space ∷ bs)) ≡ w ∷ words bs
unfolding glued
words-first [] bs h = words-cut space bs refl
words-first (c ∷ w) bs h =
    let p = lacks-first space c w h in
    words-on c (w ++ (space ∷ bs)) p.0 ∙ ap (glued c) (words-first w bs p.1)

-- a word alone
pub words-alone : (w : List ℕ) → lacks space w ≡ true → words w ≡ w ∷ []
unfolding words glued
words-alone [] h = refl
words-alone (c ∷ w) h =
    let p = lacks-first space c w h in
    words-on c w p.0 ∙ ap (glued c) (words-alone w p.1)

pub words-spaced : (w : List ℕ) (ws : List (List ℕ)) → AllLack space (w ∷ ws) → words (spaced (w ∷ ws)) ≡ w ∷ ws
unfolding spaced
words-spaced w [] h = words-alone w h.0
words-spaced w (v ∷ ws) h = words-first w (spaced (v ∷ ws)) h.0 ∙ ap (λ y. w ∷ y) (words-spaced v ws h.1)

-- ---- Names

pub same-is : (w v : List ℕ) → same_word w v ≡ true → w ≡ v
unfolding same_word
same-is [] [] h = refl
same-is [] (d ∷ v) h = absurd (subst T (sym h) tt)
same-is (c ∷ w) [] h = absurd (subst T (sym h) tt)
same-is (c ∷ w) (d ∷ v) h =
    let p = and-true (eqb c d) (same_word w v) h in
    ap₂ (λ x y. x ∷ y) (eqb-true c d p.0) (same-is w v p.1)

pub same-sized : (w v : List ℕ) → (length w ≡ length v → ⊥) → same_word w v ≡ false
same-sized w v h = by (same_word w v) (λ e. absurd (h (ap length (same-is w v e)))) (λ e. e)

pub place_here : (k : ℕ) (w n : List ℕ) (ns : List (List ℕ)) → same_word w n ≡ true → place_from k w (n ∷ ns) ≡ k
unfolding place_from
place_here k w n ns e = rw (e, place_from)

pub place-later : (k : ℕ) (w n : List ℕ) (ns : List (List ℕ)) → same_word w n ≡ false → place_from k w (n ∷ ns) ≡ place_from (suc k) w ns
unfolding place_from
place-later k w n ns e = rw (e, place_from)

-- a place that was found is one of the list, and the word stands there
record Placed (k : ℕ) (w : List ℕ) (ns : List (List ℕ)) (j : ℕ) : Type 0 where
  low : k ≤ j
  high : j < k + length ns
  stands : get_or ns (j - k) [] ≡ w

placed : (k : ℕ) (w : List ℕ) (ns : List (List ℕ)) (j : ℕ) → place_from k w ns ≡ j → 1 ≤ j → Placed k w ns j
unfolding place_from
placed k w [] j h l = absurd (omega arith)
placed k w (n ∷ ns) j h l = by (same_word w n)
    (λ e. let i : j ≡ k = sym h ∙ place_here k w n ns e in
    let z : j - k ≡ 0 = omega arith in
    record { low = omega arith; high = omega arith; stands = ap (λ m. get_or (n ∷ ns) m []) z ∙ sym (same-is w n e) })
    (λ e. let p : Placed (suc k) w ns j = placed (suc k) w ns j (sym (place-later k w n ns e) ∙ h) l in
    let i : j - k ≡ suc (j - suc k) = omega (arith, p.low) in
    record { low = omega (arith, p.low); high = omega (arith, p.high); stands = ap (λ m. get_or (n ∷ ns) m []) i ∙ p.stands })

-- a word that names a kind is that kind's name, and kinds are 1 to 10
pub named-low : (w : List ℕ) (k : ℕ) → kind_named w ≡ k → k ≤ 10
unfolding kind_named names
named-low w zero h = omega arith
named-low w (suc k) h = omega (arith, (placed 1 w names (suc k) h (omega arith)).high)

pub name-named : (w : List ℕ) (k : ℕ) → kind_named w ≡ k → 1 ≤ k → name k ≡ w
unfolding kind_named name
name-named w k h l = (placed 1 w names k h l).stands

-- what holds of each of ten kinds holds of every kind
pub each-kind : (P : ℕ → Type 0) → P 1 → P 2 → P 3 → P 4 → P 5 → P 6 → P 7 → P 8 → P 9 → P 10 → (k : ℕ) → 1 ≤ k → k ≤ 10 → P k
each-kind P a b c d e f g h i j zero p q = absurd (omega arith)
each-kind P a b c d e f g h i j (suc zero) p q = a
each-kind P a b c d e f g h i j (suc (suc zero)) p q = b
each-kind P a b c d e f g h i j (suc (suc (suc zero))) p q = c
each-kind P a b c d e f g h i j (suc (suc (suc (suc zero)))) p q = d
each-kind P a b c d e f g h i j (suc (suc (suc (suc (suc zero))))) p q = e
each-kind P a b c d e f g h i j (suc (suc (suc (suc (suc (suc zero)))))) p q = f
each-kind P a b c d e f g h i j (suc (suc (suc (suc (suc (suc (suc zero))))))) p q = g
each-kind P a b c d e f g h i j (suc (suc (suc (suc (suc (suc (suc (suc zero)))))))) p q = h
each-kind P a b c d e f g h i j (suc (suc (suc (suc (suc (suc (suc (suc (suc zero))))))))) p q = i
each-kind P a b c d e f g h i j (suc (suc (suc (suc (suc (suc (suc (suc (suc (suc zero)))))))))) p q = j
each-kind P a b c d e f g h i j (suc (suc (suc (suc (suc (suc (suc (suc (suc (suc (suc k))))))))))) p q = absurd (omega arith)

-- the name of a kind names it, and has neither a space nor a line feed
pub kind-name : (k : ℕ) → 1 ≤ k → k ≤ 10 → kind_named (name k) ≡ k
unfolding kind_named name names ascii place_from same_word
kind-name = each-kind (λ k. kind_named (name k) ≡ k) refl refl refl refl refl refl refl refl refl refl

pub name-lacks : (k : ℕ) → 1 ≤ k → k ≤ 10 → (lacks space (name k) ≡ true) × (lacks line_feed (name k) ≡ true)
unfolding name names ascii all_of
name-lacks =
    each-kind (λ k. (lacks space (name k) ≡ true) × (lacks line_feed (name k) ≡ true)) (refl, refl) (refl, refl) (refl, refl) (refl, refl) (refl, refl) (refl, refl) (refl, refl) (refl, refl) (refl, refl) (refl, refl)

-- ---- Lines, cut apart and put together

pub lines_cut : (c : ℕ) (bs : List ℕ) → eqb c line_feed ≡ true → lines (c ∷ bs) ≡ (c ∷ []) ∷ lines bs
unfolding lines
lines_cut c bs e = rw (e, lines)

pub lines-on : (c : ℕ) (bs : List ℕ) → eqb c line_feed ≡ false → lines (c ∷ bs) ≡ glued c (lines bs)
unfolding lines
lines-on c bs e = rw (e, lines)

-- all lines together are the text
pub lines-together : (bs : List ℕ) → each (λ l. l) (lines bs) ≡ bs
unfolding lines each glued
lines-together [] = refl
lines-together (c ∷ bs) = by (eqb c line_feed)
    (λ e. ap (each (λ l. l)) (lines_cut c bs e) ∙ ap (λ y. c ∷ y) (lines-together bs))
    (λ e. ap (each (λ l. l)) (lines-on c bs e) ∙ glue (lines bs) ∙ ap (λ y. c ∷ y) (lines-together bs))
  where
    glue : (ls : List (List ℕ)) → each (λ l. l) (glued c ls) ≡ c ∷ each (λ l. l) ls
    glue [] = refl
    glue (l ∷ ls) = refl

-- bytes without a line feed, a line feed, then more: that line, then the lines of the rest
pub lines-first : (b bs : List ℕ) → lacks line_feed b ≡ true → lines (b ++ (line_feed ∷ bs)) ≡ (b ++ (line_feed ∷ [])) ∷ lines bs
unfolding glued
lines-first [] bs h = lines_cut line_feed bs refl
lines-first (c ∷ b) bs h =
    let p = lacks-first line_feed c b h in
    lines-on c (b ++ (line_feed ∷ bs)) p.0 ∙ ap (glued c) (lines-first b bs p.1)
