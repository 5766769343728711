-- The beginning of a long text tells the answer: lines of the form are short, so the first line without it begins early, with the same number.
use Prim.Native.Nat.{ℕ, zero, suc, ◌+◌, ◌-◌, ◌*◌, ◌≤◌, ◌<◌, min}
use native.Mathlib.Omega.{arith}
use mathlib.Core.Path.{◌≡◌, refl, sym, ap, ap₂, subst, ◌∙◌}
use mathlib.Core.Bool.{Bool, true, false, cond}
use mathlib.Core.List.{List, [], ◌∷◌, ◌++◌, append-nil}
use lib.ListN.{length, get_or, take, drop, length-append, length-take, take-append-drop}
use lib.Seq.{take-nil, take_all, take-take, take-add, drop_at, get_or-take, length-take-le}
use lib.Dec.{T, leb, eqb}
use borrow.Author.Tests.{leb-true, leb-false, eqb-false}
use Rattle.std.specs.Prelude.{Result, Ok, Err}
use Rattle.lists.specs.Lists.{each}
use Rattle.lists.proofs.Tests.{by}
use Rattle.record.specs.declared.Event.{Event}
use Rattle.record.specs.declared.Op.{Op}
use Rattle.record.specs.Faults.{Refusal}
use Rattle.record.specs.Record.{kind, target, value, target_limit, in_range}
use Rattle.record.proofs.Laws.{shape}
use Rattle.decimal.specs.Decimal.{decimal}
use Rattle.decimal.proofs.Decimals.{size-two, size-three, size-five}
use Rattle.text.specs.Line.{line_feed, name, fields, line_of, line_read, last_byte}
use Rattle.text.specs.File.{first_refused, events, feeds, lines, read_text}
use Rattle.text.specs.Steps.{spaced_out}
use Rattle.text.proofs.Lines.{InRange, in-range, written_read, line-unended, Fourteen, line-fourteen}
use Rattle.text.proofs.Makings.{field-size, fields-none, fields-one, fields-two, line-parts}
use Rattle.text.proofs.Scans.{name-short}
use Rattle.text.proofs.Files.{AllIn, first_good, first-refused, none_read, line-counted, text-written, feeds-both, feeds-written, read-line-refused, read-sizes}
use Rattle.text.proofs.Words.{lines-together}
use Rattle.text.proofs.Wholes.{before, line_size, size-cut, size-on, lines-begin}

-- ---- A line of the form has at most 22 bytes

target-limit : (k : ℕ) → target_limit k ≤ 255
unfolding target_limit
target-limit k = go (leb k 2) (leb k 7) (leb k 9)
  where
    go : (a b c : Bool) → cond a 255 (cond b 31 (cond c 15 0)) ≤ 255
    go true b c = omega arith
    go false true c = omega arith
    go false false true = omega arith
    go false false false = omega arith

fields-short : (o : Op) → target o ≤ 255 → value o ≤ 65535 → length (spaced_out (fields o)) ≤ 10
fields-short o x v =
    let t : length (spaced_out (target o ∷ [])) ≤ 4 = omega (arith, field-size (target o), size-three (target o) (omega arith)) in
    let w : length (spaced_out (value o ∷ [])) ≤ 6 = omega (arith, field-size (value o), size-five (value o) (omega arith)) in
    by (leb (kind o) 2)
    (λ e. omega (arith, ap length (fields-two o (leb-true (kind o) 2 e)), length-append (spaced_out (target o ∷ [])) (spaced_out (value o ∷ []))))
    (λ e. by (leb (kind o) 9)
    (λ f. omega (arith, ap length (fields-one o (leb-false (kind o) 2 e) (leb-true (kind o) 9 f))))
    (λ f. omega (arith, ap length (fields-none o (leb-false (kind o) 9 f)))))

line-short : (e : Event) → T (in_range e) → length (line_of e) ≤ 22
line-short e r =
    let o : Op = e.op in
    let i : InRange e = in-range e r in
    let t : length (decimal e.thread) ≤ 2 = size-two e.thread (omega (arith, i.thread)) in
    let n : length (name (kind o)) ≤ 8 = name-short (kind o) (shape o).low (shape o).high in
    let f : length (spaced_out (fields o)) ≤ 10 = fields-short o (omega (arith, i.target, target-limit (kind o))) i.value in
    omega (
      arith,
      ap length (line-parts e),
      length-append (decimal e.thread) (32 ∷ (name (kind o) ++ (spaced_out (fields o) ++ (line_feed ∷ [])))),
      length-append (name (kind o)) (spaced_out (fields o) ++ (line_feed ∷ [])),
      length-append (spaced_out (fields o)) (line_feed ∷ []),
    )

-- ---- The first line of a text that is cut

size-cut-at : (m : ℕ) (t : List ℕ) → line_size (take m t) ≡ min m (line_size t)
unfolding line_size before
size-cut-at zero t = omega arith
size-cut-at (suc m) [] = omega arith
size-cut-at (suc m) (c ∷ t) = by (eqb c line_feed)
    (λ e. omega (arith, size-cut c (take m t) e, size-cut c t e))
    (λ e. omega (arith, size-on c (take m t) e, size-on c t e, size-cut-at m t))

-- before its last byte a line has no line feed
inside-line : (t : List ℕ) (i : ℕ) → i + 1 < line_size t → get_or t i 0 ≡ line_feed → ⊥
unfolding line_size before
inside-line [] i h e = absurd (omega arith)
inside-line (c ∷ t) zero h e = by (eqb c line_feed) (λ f. absurd (omega (arith, size-cut c t f))) (λ f. eqb-false c line_feed f e)
inside-line (c ∷ t) (suc i) h e = by (eqb c line_feed) (λ f. absurd (omega (arith, size-cut c t f))) (λ f. inside-line t i (omega (arith, size-on c t f)) e)

size-le : (t : List ℕ) → line_size t ≤ length t
unfolding line_size
size-le t = omega arith

-- ---- The first line without the form

abbrev fourteen : ℕ → Refusal
fourteen k = record { number = 14; place = k }

refused-fourteen : (k : ℕ) (p : List ℕ) (ps : List (List ℕ)) (f : Refusal) → line_read p ≡ Err f → first_refused line_read k (p ∷ ps) ≡ fourteen k
refused-fourteen k p ps f h =
    let n : f.number ≡ 14 = subst Fourteen h (line-fourteen p) in
    first-refused line_read k p ps f h ∙ ap (λ x. record { number = x; place = k }) n

one-feed : (e : Event) → feeds (line_of e) ≡ 1
unfolding each
one-feed e = sym (ap feeds (append-nil (line_of e))) ∙ feeds-written (e ∷ [])

-- the first line of a text, and of the text cut to m bytes
module _ (m k : ℕ) (t : List ℕ) (some : 0 < length t) (long : 0 < m) where
  abbrev size : ℕ
  size = line_size t

  whole-lines : lines t ≡ take size t ∷ lines (drop size t)
  whole-lines = lines-begin t some

  cut-rest : (i : ℕ) → i ≤ m → i ≤ length t → drop i (take m t) ≡ take (m - i) (drop i t)
  cut-rest i a b =
      let e : m ≡ i + (m - i) = omega arith in
      ap (λ j. drop i (take j t)) e ∙ ap (drop i) (take-add i (m - i) t) ∙ drop_at (take i t) (take (m - i) (drop i t)) i (length-take-le i t b)

  cut-lines : (i : ℕ) → min m size ≡ i → lines (take m t) ≡ take i t ∷ lines (take (m - i) (drop i t))
  cut-lines i e =
      lines-begin (take m t) (omega (arith, length-take m t))
      ∙ ap (λ j. take j (take m t) ∷ lines (drop j (take m t))) (size-cut-at m t ∙ e)
      ∙ ap₂ (λ x y. x ∷ lines y) (take-take i m t (omega arith)) (cut-rest i (omega arith) (omega (arith, size-le t)))

  -- cut within the line, it has lost its line feed
  unended : m < size → last_byte (take m t) ≡ line_feed → ⊥
  unended h e =
      let n : length (take m t) ≡ m = length-take-le m t (omega (arith, size-le t)) in
      let last : get_or t (m - 1) 0 ≡ line_feed = sym (get_or-take m t (m - 1) 0 (omega arith)) ∙ sym (ap (λ j. get_or (take m t) (j - 1) 0) n) ∙ e in
      inside-line t (m - 1) (omega arith) last

  cut-refused : (f : Refusal) → line_read (take size t) ≡ Err f → first_refused line_read k (lines (take m t)) ≡ first_refused line_read k (lines t)
  cut-refused f h =
      by (leb size m)
      (λ e. ap (first_refused line_read k) (cut-lines size (omega (arith, leb-true size m e))) ∙ refused-fourteen k (take size t) (lines (take (m - size) (drop size t))) f h)
      (λ e. let l : m < size = leb-false size m e in
      ap (first_refused line_read k) (cut-lines m (omega arith)) ∙ refused-fourteen k (take m t) (lines (take (m - m) (drop m t))) (record { number = 14; place = 0 }) (line-unended (take m t) (unended l)))
      ∙ sym (ap (first_refused line_read k) whole-lines ∙ refused-fourteen k (take size t) (lines (drop size t)) f h)

  module _ (e : Event) (good : line_read (take size t) ≡ Ok e) where
    good-size : size ≤ 22
    good-size = let w = written_read (take size t) e good in omega (arith, ap length w.0, line-short e w.1, length-take-le size t (size-le t))

    good-feeds : feeds t ≡ 1 + feeds (drop size t)
    good-feeds =
        ap feeds (sym (take-append-drop size t)) ∙ feeds-both (take size t) (drop size t)
        ∙ ap (λ n. n + feeds (drop size t)) (ap feeds (sym (written_read (take size t) e good).0) ∙ one-feed e)

    cut-good : 22 ≤ m → first_refused line_read (suc k) (lines (take (m - size) (drop size t))) ≡ first_refused line_read (suc k) (lines (drop size t))
        → first_refused line_read k (lines (take m t)) ≡ first_refused line_read k (lines t)
    cut-good l rest =
        ap (first_refused line_read k) (cut-lines size (omega (arith, good-size)))
        ∙ first_good line_read k (take size t) (lines (take (m - size) (drop size t))) e good
        ∙ rest
        ∙ sym (ap (first_refused line_read k) whole-lines ∙ first_good line_read k (take size t) (lines (drop size t)) e good)

-- what a cut finds, where it finds the right thing behind a first line of the form
cut_step : (n m k : ℕ) (t : List ℕ) → feeds t ≤ n → 22 * n < m
    → ((j : ℕ) → n ≡ suc j → feeds (drop (line_size t) t) ≤ j → 22 * j < m - line_size t
    → first_refused line_read (suc k) (lines (take (m - line_size t) (drop (line_size t) t))) ≡ first_refused line_read (suc k) (lines (drop (line_size t) t)))
    → first_refused line_read k (lines (take m t)) ≡ first_refused line_read k (lines t)
cut_step n m k [] few long behind = ap (λ l. first_refused line_read k (lines l)) (take-nil m)
cut_step n m k (c ∷ t) few long behind = go (line_read (take (line_size l) l)) refl
  where
    l : List ℕ
    l = c ∷ t

    go : (d : Result Event Refusal) → line_read (take (line_size l) l) ≡ d → first_refused line_read k (lines (take m l)) ≡ first_refused line_read k (lines l)
    go (Ok e) h =
        let one : feeds l ≡ 1 + feeds (drop (line_size l) l) = good-feeds m k l (omega arith) (omega arith) e h in
        let small : line_size l ≤ 22 = good-size m k l (omega arith) (omega arith) e h in
        cut-good m k l (omega arith) (omega arith) e h (omega arith) (behind (n - 1) (omega arith) (omega arith) (omega arith))
    go (Err f) h = cut-refused m k l (omega arith) (omega arith) f h

-- a cut of more than 22 bytes for each line feed finds what the whole finds
cut-first : (n m k : ℕ) (t : List ℕ) → feeds t ≤ n → 22 * n < m → first_refused line_read k (lines (take m t)) ≡ first_refused line_read k (lines t)
cut-first zero m k t few long = cut_step zero m k t few long (λ j z. absurd (omega arith))
cut-first (suc n) m k t few long = cut_step (suc n) m k t few long (λ j z a b. cut-first n (m - line_size t) (suc k) (drop (line_size t) t) (omega arith) (omega arith))

-- ---- The whole answer

lines-short : (es : List Event) → AllIn es → length (each line_of es) ≤ 22 * length es
unfolding each
lines-short [] h = omega arith
lines-short (e ∷ es) h = omega (arith, length-append (line_of e) (each line_of es), line-short e h.0, lines-short es h.1)

-- Of a text with at most 1,024 line feeds the first 22,529 bytes or more tell the answer, where the output has room for its records
pub cut-same : (m : ℕ) (text out : List ℕ) → 22 * 1024 < m → feeds text ≤ 1024 → 8 * feeds text ≤ length out → read_text (take m text) out ≡ read_text text out
cut-same m text out long few room = go (first_refused line_read 0 (lines text)).number refl
  where
    no : Refusal
    no = first_refused line_read 0 (lines text)

    fewer : feeds (take m text) ≤ feeds text
    fewer = omega (arith, ap feeds (take-append-drop m text), feeds-both (take m text) (drop m text))

    go : (n : ℕ) → no.number ≡ n → read_text (take m text) out ≡ read_text text out
    go zero e =
        let es : List Event = events line_read (lines text) in
        let w = text-written (lines text) es (none_read line_read line-counted 0 (lines text) e) in
        let same : each line_of es ≡ text = w.0 ∙ lines-together text in
        let n : feeds text ≡ length es = sym (ap feeds same) ∙ feeds-written es in
        let short : length text ≤ m = omega (arith, lines-short es w.1, ap length same) in
        ap (λ t. read_text t out) (take_all m text short)
    go (suc n) e =
        read-line-refused (take m text) out no (read-sizes (take m text) out (omega (arith, fewer)) (omega (arith, fewer))) (cut-first 1024 m 0 text few long) (omega arith)
        ∙ sym (read-line-refused text out no (read-sizes text out few room) refl (omega arith))
