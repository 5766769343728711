-- Laws of lines: every possible record has exactly one line, a written line is read back, and a line that reads is the line that would be written.
use Prim.Native.Nat.{ℕ, zero, suc, ◌-◌, ◌≤◌, ◌<◌}
use native.Mathlib.Omega.{arith}
use mathlib.Core.Path.{◌≡◌, refl, sym, ap, ap₂, subst, ◌∙◌}
use mathlib.Core.Bool.{Bool, true, false, cond, ◌&&◌, and-true as and-with-true}
use mathlib.Core.List.{List, [], ◌∷◌, ◌++◌, map}
use lib.ListN.{length, get_or, take, length-append}
use lib.Seq.{take_at, get_or_at, take-suc, take-length}
use lib.Dec.{T, leb, eqb, le→leb, leb→le}
use borrow.Author.Tests.{leb-true, leb-false, eq-eqb, ne_eqb, eqb-true, eqb-false}
use Rattle.std.specs.Prelude.{Result, Ok, Err}
use Rattle.lists.proofs.Tests.{by, and-true, and_left, and_right, and_both}
use Rattle.record.specs.declared.Event.{Event}
use Rattle.record.specs.declared.Op.{Op}
use Rattle.record.specs.Faults.{Refusal}
use Rattle.record.specs.Record.{kind, target, value, target_limit, operation, in_range}
use Rattle.record.proofs.Laws.{Shape, shape, Parts, parts}
use Rattle.decimal.specs.Decimal.{decimal, value_from, value_of, is_number}
use Rattle.text.specs.Line.{space, line_feed, name, field_count, fields, words_of, spaced, line_of, words, kind_named, limits, fit, formless, read_fields, read_operation, read_words, last_byte, but_last, line_read}
use Rattle.text.specs.Meaning.{OneLine}
use Rattle.decimal.proofs.Decimals.{value-decimal, number-decimal, number_digits, number-within, decimal-value}
use Rattle.text.proofs.Words.{lacks, AllLack, digits-lack, decimal-lacks, decimals-lack, spaced-lacks, name-lacks, kind-name, name-named, named-low, words-some, words-alone, words-spaced, spaced-words}

-- ---- The numbers after the name

-- by the number of them
by_count {ℓ} : {C : Type ℓ} (k : ℕ) → (field_count k ≡ 2 → k ≤ 2 → C) → (field_count k ≡ 1 → 2 < k → k ≤ 9 → C) → (field_count k ≡ 0 → 9 < k → C) → C
unfolding field_count
by_count k two one none = by (leb k 2)
    (λ e. two (ap (λ t. cond t 2 (cond (leb k 9) 1 0)) e) (leb-true k 2 e))
    (λ e. by (leb k 9)
    (λ f. one (ap₂ (λ s t. cond s 2 (cond t 1 0)) e f) (leb-false k 2 e) (leb-true k 9 f))
    (λ f. none (ap₂ (λ s t. cond s 2 (cond t 1 0)) e f) (leb-false k 9 f)))

-- words that fit the first n of two limits, and are worth x and v; a word that isn't there is worth 0
record Fields (n m p : ℕ) (ws : List (List ℕ)) (x v : ℕ) : Type 0 where
  fits : fit (take n (m ∷ p ∷ [])) ws ≡ true
  first : value_of (get_or ws 0 []) ≡ x
  second : value_of (get_or ws 1 []) ≡ v

-- a target and a value within their limits, written
fields-two : (m p x v : ℕ) → x ≤ m → v ≤ p → Fields 2 m p (decimal x ∷ decimal v ∷ []) x v
unfolding fit
fields-two m p x v a b =
    record {
      fits = ap₂ (λ s t. s && (t && true)) (number-decimal m x a) (number-decimal p v b);
      first = value-decimal x;
      second = value-decimal v;
    }

fields-one : (m p x v : ℕ) → x ≤ m → v ≡ 0 → Fields 1 m p (decimal x ∷ []) x v
unfolding fit value_from
fields-one m p x v a z = record { fits = ap (λ s. s && true) (number-decimal m x a); first = value-decimal x; second = sym z }

fields-none : (m p x v : ℕ) → x ≡ 0 → v ≡ 0 → Fields 0 m p [] x v
unfolding fit value_from
fields-none m p x v y z = record { fits = refl; first = sym y; second = sym z }

fields-written : (k x v : ℕ) → x ≤ target_limit k → v ≤ 65535 → (2 < k → v ≡ 0) → (9 < k → x ≡ 0)
    → Fields (field_count k) (target_limit k) 65535 (map decimal (take (field_count k) (x ∷ v ∷ []))) x v
fields-written k x v a b z y = by_count k
    (λ e l. made e (fields-two m 65535 x v a b))
    (λ e l h. made e (fields-one m 65535 x v a (z l)))
    (λ e l. made e (fields-none m 65535 x v (y l) (z (omega arith))))
  where
    m : ℕ
    m = target_limit k

    made : {n : ℕ} → field_count k ≡ n → Fields n m 65535 (map decimal (take n (x ∷ v ∷ []))) x v → Fields (field_count k) m 65535 (map decimal (take (field_count k) (x ∷ v ∷ []))) x v
    made e f = subst (λ n. Fields n m 65535 (map decimal (take n (x ∷ v ∷ []))) x v) (sym e) f

-- what words that fit say, the other way: they are what would be written
record Fitted (n m p : ℕ) (ws : List (List ℕ)) : Type 0 where
  same : map decimal (take n (value_of (get_or ws 0 []) ∷ value_of (get_or ws 1 []) ∷ [])) ≡ ws
  first : value_of (get_or ws 0 []) ≤ m
  second : value_of (get_or ws 1 []) ≤ p
  no_second : n < 2 → value_of (get_or ws 1 []) ≡ 0

fitted-two : (m p : ℕ) (ws : List (List ℕ)) → fit (m ∷ p ∷ []) ws ≡ true → Fitted 2 m p ws
unfolding fit
fitted-two m p [] h = absurd (subst T (sym h) tt)
fitted-two m p (w ∷ []) h = let a = and-true (is_number m w) false h in absurd (subst T (sym a.1) tt)
fitted-two m p (w ∷ v ∷ []) h =
    let a = and-true (is_number m w) (is_number p v && true) h in
    let b = and-true (is_number p v) true a.1 in
    record {
      same = ap₂ (λ x y. x ∷ y ∷ []) (decimal-value m w a.0) (decimal-value p v b.0);
      first = number-within m w a.0;
      second = number-within p v b.0;
      no_second = λ l. absurd (omega arith);
    }
fitted-two m p (w ∷ v ∷ u ∷ ws) h =
    let a = and-true (is_number m w) (is_number p v && false) h in
    let b = and-true (is_number p v) false a.1 in absurd (subst T (sym b.1) tt)

fitted-one : (m p : ℕ) (ws : List (List ℕ)) → fit (m ∷ []) ws ≡ true → Fitted 1 m p ws
unfolding fit value_from
fitted-one m p [] h = absurd (subst T (sym h) tt)
fitted-one m p (w ∷ []) h =
    let a = and-true (is_number m w) true h in
    record { same = ap (λ x. x ∷ []) (decimal-value m w a.0); first = number-within m w a.0; second = omega arith; no_second = λ l. refl }
fitted-one m p (w ∷ v ∷ ws) h = let a = and-true (is_number m w) false h in absurd (subst T (sym a.1) tt)

fitted_none : (m p : ℕ) (ws : List (List ℕ)) → fit [] ws ≡ true → Fitted 0 m p ws
unfolding fit value_from
fitted_none m p [] h = record { same = refl; first = omega arith; second = omega arith; no_second = λ l. refl }
fitted_none m p (w ∷ ws) h = absurd (subst T (sym h) tt)

fitted : (k : ℕ) (ws : List (List ℕ)) → fit (limits k) ws ≡ true → Fitted (field_count k) (target_limit k) 65535 ws
unfolding limits
fitted k ws h = by_count k
    (λ e l. made e (fitted-two m 65535 ws (at e)))
    (λ e l g. made e (fitted-one m 65535 ws (at e)))
    (λ e l. made e (fitted_none m 65535 ws (at e)))
  where
    m : ℕ
    m = target_limit k

    at : {n : ℕ} → field_count k ≡ n → fit (take n (m ∷ 65535 ∷ [])) ws ≡ true
    at {n} e = subst (λ i. fit (take i (m ∷ 65535 ∷ [])) ws ≡ true) e h

    made : {n : ℕ} → field_count k ≡ n → Fitted n m 65535 ws → Fitted (field_count k) m 65535 ws
    made e f = subst (λ n. Fitted n m 65535 ws) (sym e) f

few-fields : (k : ℕ) → 2 < k → field_count k < 2
few-fields k l = by_count k (λ e h. absurd (omega arith)) (λ e h g. omega arith) (λ e h. omega arith)

-- one limit: the bytes are one word, and it is a number
pub fit-one : (m : ℕ) (w : List ℕ) → fit (m ∷ []) (words w) ≡ is_number m w
unfolding fit spaced
fit-one m w = by (is_number m w)
    (λ e. ap (fit (m ∷ [])) (words-alone w (digits-lack space w (omega arith) (number_digits m w e))) ∙ and-with-true (is_number m w))
    (λ e. none e (words w) refl)
  where
    more : (b : Bool) (v : List ℕ) (ws : List (List ℕ)) → (b && fit [] (v ∷ ws)) ≡ false
    more true v ws = refl
    more false v ws = refl

    none : is_number m w ≡ false → (ws : List (List ℕ)) → words w ≡ ws → fit (m ∷ []) ws ≡ is_number m w
    none e [] h = absurd (omega (arith, words-some w, ap length h))
    none e (v ∷ []) h = ap (λ x. fit (m ∷ []) (x ∷ [])) (ap spaced (sym h) ∙ spaced-words w) ∙ and-with-true (is_number m w)
    none e (v ∷ u ∷ ws) h = more (is_number m v) u ws ∙ sym e

-- ---- Reading, step by step

pub fields-good : (t k : ℕ) (ws : List (List ℕ)) → fit (limits k) ws ≡ true
    → read_fields t k ws ≡ Ok (record { thread = t; op = operation k (value_of (get_or ws 0 [])) (value_of (get_or ws 1 [])) })
unfolding read_fields
fields-good t k ws h = rw (h, read_fields)

pub fields-bad : (t k : ℕ) (ws : List (List ℕ)) → fit (limits k) ws ≡ false → read_fields t k ws ≡ formless
unfolding read_fields
fields-bad t k ws h = rw (h, read_fields)

pub operation-named : (t k : ℕ) (w : List ℕ) (ws : List (List ℕ)) → kind_named w ≡ k → 1 ≤ k → read_operation t (w ∷ ws) ≡ read_fields t k ws
unfolding read_operation
operation-named t zero w ws h l = absurd (omega arith)
operation-named t (suc k) w ws h l = rw (h, read_operation)

pub operation-none : (t : ℕ) (w : List ℕ) (ws : List (List ℕ)) → kind_named w ≡ 0 → read_operation t (w ∷ ws) ≡ formless
unfolding read_operation
operation-none t w ws h = rw (h, read_operation)

pub operation-missing : (t : ℕ) → read_operation t [] ≡ formless
unfolding read_operation
operation-missing t = refl

pub words-good : (w : List ℕ) (ws : List (List ℕ)) → is_number 15 w ≡ true → read_words (w ∷ ws) ≡ read_operation (value_of w) ws
unfolding read_words
words-good w ws h = rw (h, read_words)

pub words-bad : (w : List ℕ) (ws : List (List ℕ)) → is_number 15 w ≡ false → read_words (w ∷ ws) ≡ formless
unfolding read_words
words-bad w ws h = rw (h, read_words)

pub line-ended : (line : List ℕ) → last_byte line ≡ line_feed → line_read line ≡ read_words (words (but_last line))
unfolding line_read
line-ended line h = rw (eq-eqb (last_byte line) line_feed h, line_read)

pub line-unended : (line : List ℕ) → (last_byte line ≡ line_feed → ⊥) → line_read line ≡ formless
unfolding line_read
line-unended line h = rw (ne_eqb (last_byte line) line_feed h, line_read)

pub line-empty : (line : List ℕ) → length line ≡ 0 → line_read line ≡ formless
line-empty [] h = line-unended [] (λ e. omega arith)
line-empty (c ∷ line) h = absurd (omega arith)

-- ---- What is written is read back

-- a line feed after anything
pub line-of-body : (b : List ℕ) → line_read (b ++ (line_feed ∷ [])) ≡ read_words (words b)
line-of-body b =
    let l : List ℕ = b ++ (line_feed ∷ []) in
    let n : length b ≡ length l - 1 = omega (arith, length-append b (line_feed ∷ [])) in
    line-ended l (get_or_at b line_feed [] 0 (length l - 1) n) ∙ ap (λ x. read_words (words x)) (take_at b (line_feed ∷ []) (length l - 1) n)

-- the parts of an event's range
pub record InRange (e : Event) : Type 0 where
  pub thread : e.thread ≤ 15
  pub target : target e.op ≤ target_limit (kind e.op)
  pub value : value e.op ≤ 65535

pub in-range : (e : Event) → T (in_range e) → InRange e
unfolding in_range
in-range e r =
    let t : Bool = leb (target e.op) (target_limit (kind e.op)) in
    let v : Bool = leb (value e.op) 65535 in
    let a = and_right (leb e.thread 15) (t && v) r in
    record {
      thread = leb→le e.thread 15 (and_left (leb e.thread 15) (t && v) r);
      target = leb→le (target e.op) (target_limit (kind e.op)) (and_left t v a);
      value = leb→le (value e.op) 65535 (and_right t v a);
    }

pub range-in : (e : Event) → InRange e → T (in_range e)
unfolding in_range
range-in e r =
    let t : Bool = leb (target e.op) (target_limit (kind e.op)) in
    let v : Bool = leb (value e.op) 65535 in
    and_both (leb e.thread 15) (t && v) (le→leb e.thread 15 r.thread)
    (and_both t v (le→leb (target e.op) (target_limit (kind e.op)) r.target) (le→leb (value e.op) 65535 r.value))

-- the words of an event have neither spaces nor line feeds
words-lack : (e : Event) → AllLack space (words_of e) × AllLack line_feed (words_of e)
unfolding words_of
words-lack e =
    let s : Shape e.op = shape e.op in
    let n = name-lacks (kind e.op) s.low s.high in (
      (decimal-lacks space e.thread (omega arith), (n.0, decimals-lack space (fields e.op) (omega arith))),
      (decimal-lacks line_feed e.thread (omega arith), (n.1, decimals-lack line_feed (fields e.op) (omega arith))),
    )

pub body-lacks : (e : Event) → lacks line_feed (spaced (words_of e)) ≡ true
body-lacks e = spaced-lacks line_feed (words_of e) refl (words-lack e).1

words-of-line : (e : Event) → words (spaced (words_of e)) ≡ words_of e
unfolding words_of
words-of-line e = words-spaced (decimal e.thread) (name (kind e.op) ∷ map decimal (fields e.op)) (words-lack e).0

-- only yield has no target
no_target : (k x : ℕ) → 9 < k → k ≤ 10 → x ≤ target_limit k → x ≡ 0
unfolding target_limit
no_target k x l h r =
    let e : k ≡ 10 = omega arith in
    let z : x ≤ 0 = subst (λ i. x ≤ target_limit i) e r in omega arith

pub read-written : (e : Event) → T (in_range e) → line_read (line_of e) ≡ Ok e
unfolding line_of words_of fields limits
read-written e r =
    let o : Op = e.op in
    let k : ℕ = kind o in
    let i : InRange e = in-range e r in
    let s : Shape o = shape o in
    let ws : List (List ℕ) = map decimal (take (field_count k) (target o ∷ value o ∷ [])) in
    let f : Fields (field_count k) (target_limit k) 65535 ws (target o) (value o) =
    fields-written k (target o) (value o) i.target i.value s.valued (λ l. no_target k (target o) l s.high i.target) in
    line-of-body (spaced (words_of e))
    ∙ ap read_words (words-of-line e)
    ∙ words-good (decimal e.thread) (name k ∷ ws) (number-decimal 15 e.thread i.thread)
    ∙ ap (λ t. read_operation t (name k ∷ ws)) (value-decimal e.thread)
    ∙ operation-named e.thread k (name k) ws (kind-name k s.low s.high) s.low
    ∙ fields-good e.thread k ws f.fits
    ∙ ap₂ (λ x v. Ok (record { thread = e.thread; op = operation k x v })) f.first f.second
    ∙ ap (λ p. Ok (record { thread = e.thread; op = p })) s.made

-- ---- What reads is what would be written

-- a line that reads, and its event
record Read (ws : List (List ℕ)) (e : Event) : Type 0 where
  same : words_of e ≡ ws
  range : InRange e

good-bad : {C : Type 0} (e : Event) → formless ≡ Ok e → C
good-bad e h = let z : ◌≡◌ {A = ℕ} 0 1 = cc h in absurd (omega arith)

fields_read : (t k : ℕ) (w : List ℕ) (ws : List (List ℕ)) (e : Event) → t ≤ 15 → kind_named w ≡ k → 1 ≤ k → read_fields t k ws ≡ Ok e → Read (decimal t ∷ w ∷ ws) e
unfolding words_of fields
fields_read t k w ws e l n low h = by (fit (limits k) ws) good (λ b. good-bad e (sym (fields-bad t k ws b) ∙ h))
  where
    good : fit (limits k) ws ≡ true → Read (decimal t ∷ w ∷ ws) e
    good b =
        let x : ℕ = value_of (get_or ws 0 []) in
        let v : ℕ = value_of (get_or ws 1 []) in
        let f : Fitted (field_count k) (target_limit k) 65535 ws = fitted k ws b in
        let high : k ≤ 10 = named-low w k n in
        let p : Parts k x v = parts k x v low high f.first (λ g. f.no_second (few-fields k g)) in
        let g : Ok (record { thread = t; op = operation k x v }) ≡ Ok e = sym (fields-good t k ws b) ∙ h in
        let o : Op = operation k x v in
        let same-event : record { thread = t; op = o } ≡ e = cc g in
        subst (λ y. Read (decimal t ∷ w ∷ ws) y) same-event
        (record {
          same =
              ap (λ j. decimal t ∷ name j ∷ map decimal (take (field_count j) (target o ∷ value o ∷ []))) p.kind-is
              ∙ ap₂ (λ y z. decimal t ∷ name k ∷ map decimal (take (field_count k) (y ∷ z ∷ []))) p.target_is p.value-is
              ∙ ap₂ (λ a b. decimal t ∷ a ∷ b) (name-named w k n low) f.same;
          range = record { thread = l; target = rw (p.kind-is, p.target_is) f.first; value = rw p.value-is f.second };
        })

operation-read : (t : ℕ) (ws : List (List ℕ)) (e : Event) → t ≤ 15 → read_operation t ws ≡ Ok e → Read (decimal t ∷ ws) e
operation-read t [] e l h = good-bad e (sym (operation-missing t) ∙ h)
operation-read t (w ∷ ws) e l h = go (kind_named w) refl
  where
    go : (k : ℕ) → kind_named w ≡ k → Read (decimal t ∷ w ∷ ws) e
    go zero n = good-bad e (sym (operation-none t w ws n) ∙ h)
    go (suc k) n = fields_read t (suc k) w ws e l n (omega arith) (sym (operation-named t (suc k) w ws n (omega arith)) ∙ h)

words-read : (ws : List (List ℕ)) (e : Event) → read_words ws ≡ Ok e → Read ws e
unfolding read_words
words-read [] e h = good-bad e h
words-read (w ∷ ws) e h = by (is_number 15 w)
    (λ n. subst (λ u. Read (u ∷ ws) e) (decimal-value 15 w n) (operation-read (value_of w) ws e (number-within 15 w n) (sym (words-good w ws n) ∙ h)))
    (λ n. good-bad e (sym (words-bad w ws n) ∙ h))

-- what ends in c is all but the last and then c
ends-in : (c : ℕ) (l : List ℕ) → last_byte l ≡ c → 1 ≤ length l → but_last l ++ (c ∷ []) ≡ l
ends-in c l e some =
    let i : length l - 1 < length l = omega arith in
    let n : suc (length l - 1) ≡ length l = omega arith in
    ap (λ x. take (length l - 1) l ++ (x ∷ [])) (sym e) ∙ sym (take-suc l (length l - 1) 0 i) ∙ ap (λ m. take m l) n ∙ take-length l

pub written_read : (line : List ℕ) (e : Event) → line_read line ≡ Ok e → (line_of e ≡ line) × T (in_range e)
unfolding line_of
written_read line e h = by (eqb (last_byte line) line_feed)
    (λ n. let f : last_byte line ≡ line_feed = eqb-true (last_byte line) line_feed n in
    let r : Read (words (but_last line)) e = words-read (words (but_last line)) e (sym (line-ended line f) ∙ h) in
    (ap (λ ws. spaced ws ++ (line_feed ∷ [])) r.same ∙ ap (λ b. b ++ (line_feed ∷ [])) (spaced-words (but_last line)) ∙ ends-in line_feed line f (some line f), range-in e r.range))
    (λ n. good-bad e (sym (line-unended line (eqb-false (last_byte line) line_feed n)) ∙ h))
  where
    some : (l : List ℕ) → last_byte l ≡ line_feed → 1 ≤ length l
    some [] f = absurd (omega arith)
    some (c ∷ l) f = omega arith

-- every possible record has exactly one line
pub one_line : (e : Event) → T (in_range e) → OneLine e
one_line e r = record { line = line_of e; reads = read-written e r; only = λ l h. sym (written_read l e h).0 }

-- ---- The only refusal of a line is 14

abbrev pub Fourteen : Result Event Refusal → Type 0
Fourteen (Ok e) = Unit {0}
Fourteen (Err f) = f.number ≡ 14

fields-fourteen : (t k : ℕ) (ws : List (List ℕ)) → Fourteen (read_fields t k ws)
fields-fourteen t k ws = by (fit (limits k) ws)
    (λ b. subst Fourteen (sym (fields-good t k ws b)) tt)
    (λ b. subst Fourteen (sym (fields-bad t k ws b)) refl)

operation-fourteen : (t : ℕ) (ws : List (List ℕ)) → Fourteen (read_operation t ws)
unfolding read_operation
operation-fourteen t [] = refl
operation-fourteen t (w ∷ ws) = go (kind_named w) refl
  where
    go : (k : ℕ) → kind_named w ≡ k → Fourteen (read_operation t (w ∷ ws))
    go zero n = subst Fourteen (sym (operation-none t w ws n)) refl
    go (suc k) n = subst Fourteen (sym (operation-named t (suc k) w ws n (omega arith))) (fields-fourteen t (suc k) ws)

words-fourteen : (ws : List (List ℕ)) → Fourteen (read_words ws)
unfolding read_words
words-fourteen [] = refl
words-fourteen (w ∷ ws) = by (is_number 15 w)
    (λ n. subst Fourteen (sym (words-good w ws n)) (operation-fourteen (value_of w) ws))
    (λ n. subst Fourteen (sym (words-bad w ws n)) refl)

pub line-fourteen : (line : List ℕ) → Fourteen (line_read line)
line-fourteen line = by (eqb (last_byte line) line_feed)
    (λ n. subst Fourteen (sym (line-ended line (eqb-true (last_byte line) line_feed n))) (words-fourteen (words (but_last line))))
    (λ n. subst Fourteen (sym (line-unended line (eqb-false (last_byte line) line_feed n))) refl)
