-- Laws of whole files: what is written from records is read back as these records, and a text that reads is the text that would be written.
use Prim.Native.Nat.{ℕ, zero, suc, ◌+◌, ◌*◌, ◌/◌, ◌%◌, ◌≤◌, ◌<◌}
use native.Mathlib.Omega.{arith}
use native.Mathlib.Nat.{zero-add}
use mathlib.Core.Path.{◌≡◌, refl, sym, ap, ap₂, subst, ◌∙◌}
use mathlib.Core.Bool.{Bool, true, false}
use mathlib.Core.List.{List, [], ◌∷◌, ◌++◌, append_assoc, map}
use lib.ListN.{length, take, drop, length-append, length-drop, take-append-drop}
use lib.Seq.{take-append_seam, take_at, drop_at}
use lib.Dec.{T, leb, eqb}
use borrow.Author.Tests.{le-leb, lt-leb, leb-true, leb-false, eq-eqb, eqb-true}
use Rattle.std.specs.Prelude.{Result, Ok, Err}
use Rattle.lists.specs.Lists.{keep, each, over}
use Rattle.lists.proofs.Tests.{by}
use Rattle.lists.proofs.Lists.{keep-true, keep-false}
use Rattle.record.specs.declared.Event.{Event}
use Rattle.record.specs.Faults.{Refusal, first_fault}
use Rattle.record.specs.Record.{size_check, checks, event, encoded, decoded, in_range, records, records_of}
use Rattle.record.proofs.Laws.{none_first, decode-encoded, encode-decoded, decoded-range, length-encoded, decoded-passed, decoded-failed}
use Rattle.text.specs.Line.{line_feed, spaced, words_of, line_of, line_read}
use Rattle.text.specs.File.{done, refused, first_refused, found, events, feeds, lines, read_checks, read_text, write_checks, write_text}
use Rattle.text.specs.Meaning.{Ended, result}
use Rattle.text.proofs.Words.{lacks, lacks-first, lines-first, lines-together}
use Rattle.text.proofs.Lines.{body-lacks, read-written, written_read, Fourteen, line-fourteen}

-- ---- Parts of a file, each read by itself

module _ (read : List ℕ → Result Event Refusal) where
  pub first_good : (k : ℕ) (p : List ℕ) (ps : List (List ℕ)) (e : Event) → read p ≡ Ok e → first_refused read k (p ∷ ps) ≡ first_refused read (suc k) ps
  unfolding first_refused
  first_good k p ps e h = rw (h, first_refused)

  pub first-refused : (k : ℕ) (p : List ℕ) (ps : List (List ℕ)) (f : Refusal) → read p ≡ Err f → first_refused read k (p ∷ ps) ≡ record { number = f.number; place = k }
  unfolding first_refused
  first-refused k p ps f h = rw (h, first_refused)

  pub events-good : (p : List ℕ) (ps : List (List ℕ)) (e : Event) → read p ≡ Ok e → events read (p ∷ ps) ≡ e ∷ events read ps
  unfolding events each
  events-good p ps e h = ap (λ d. found d ++ events read ps) h

  -- the parts are read as these events, one by one
  abbrev pub AllRead : List (List ℕ) → List Event → Type 0
  AllRead [] [] = Unit {0}
  AllRead [] (e ∷ es) = ⊥
  AllRead (p ∷ ps) [] = ⊥
  AllRead (p ∷ ps) (e ∷ es) = (read p ≡ Ok e) × AllRead ps es

  pub read_none : (k : ℕ) (ps : List (List ℕ)) (es : List Event) → AllRead ps es → first_refused read k ps ≡ record { number = 0; place = 0 }
  unfolding first_refused
  read_none k [] [] h = refl
  read_none k [] (e ∷ es) h = absurd h
  read_none k (p ∷ ps) [] h = absurd h
  read_none k (p ∷ ps) (e ∷ es) h = first_good k p ps e h.0 ∙ read_none (suc k) ps es h.1

  pub read-events : (ps : List (List ℕ)) (es : List Event) → AllRead ps es → events read ps ≡ es
  unfolding events each
  read-events [] [] h = refl
  read-events [] (e ∷ es) h = absurd h
  read-events (p ∷ ps) [] h = absurd h
  read-events (p ∷ ps) (e ∷ es) h = events-good p ps e h.0 ∙ ap (λ r. e ∷ r) (read-events ps es h.1)

  -- where no part is refused, all are read
  pub none_read : ((p : List ℕ) (f : Refusal) → read p ≡ Err f → 1 ≤ f.number) → (k : ℕ) (ps : List (List ℕ)) → (first_refused read k ps).number ≡ 0 → AllRead ps (events read ps)
  unfolding first_refused events each
  none_read counted k [] h = tt
  none_read counted k (p ∷ ps) h = go (read p) refl (none_read counted (suc k) ps)
    where
      go : (d : Result Event Refusal) → read p ≡ d → ((first_refused read (suc k) ps).number ≡ 0 → AllRead ps (events read ps)) → AllRead (p ∷ ps) (events read (p ∷ ps))
      go (Ok e) q rest = subst (λ es. AllRead (p ∷ ps) es) (sym (events-good p ps e q)) (q, rest (sym (ap (λ f. f.number) (first_good k p ps e q)) ∙ h))
      go (Err f) q rest = let z : f.number ≡ 0 = sym (ap (λ g. g.number) (first-refused k p ps f q)) ∙ h in absurd (omega (arith, counted p f q))

-- a refusal has a number above 0
pub line-counted : (line : List ℕ) (f : Refusal) → line_read line ≡ Err f → 1 ≤ f.number
line-counted line f h = let n : f.number ≡ 14 = subst Fourteen h (line-fourteen line) in omega arith

pub record-counted : (bs : List ℕ) (f : Refusal) → decoded bs ≡ Err f → 1 ≤ f.number
record-counted bs f h = go (first_fault (size_check bs ∷ checks bs)) refl
  where
    go : (n : ℕ) → first_fault (size_check bs ∷ checks bs) ≡ n → 1 ≤ f.number
    go zero z =
        let g : Ok (event bs) ≡ Err f = sym (decoded-passed bs z) ∙ h in
        let no : ◌≡◌ {A = ℕ} 0 1 = cc g in absurd (omega arith)
    go (suc n) z =
        let g : Err (record { number = suc n; place = 0 }) ≡ Err f = sym (decoded-failed bs n z) ∙ h in
        let same : suc n ≡ f.number = cc g in omega arith

-- ---- Every event in range

abbrev pub AllIn : List Event → Type 0
AllIn [] = Unit {0}
AllIn (e ∷ es) = T (in_range e) × AllIn es

-- the lines of what is written, and how many
pub lines-written : (es : List Event) → lines (each line_of es) ≡ map line_of es
unfolding each lines line_of
lines-written [] = refl
lines-written (e ∷ es) =
    ap lines (append_assoc (spaced (words_of e)) (line_feed ∷ []) (each line_of es))
    ∙ lines-first (spaced (words_of e)) (each line_of es) (body-lacks e)
    ∙ ap (λ r. line_of e ∷ r) (lines-written es)

pub lines-read : (es : List Event) → AllIn es → AllRead line_read (map line_of es) es
lines-read [] h = tt
lines-read (e ∷ es) h = (read-written e h.0, lines-read es h.1)

lacking : (b : List ℕ) → lacks line_feed b ≡ true → feeds b ≡ 0
unfolding feeds keep
lacking [] h = refl
lacking (c ∷ b) h = let p = lacks-first line_feed c b h in ap length (keep-false (λ x. eqb x line_feed) c b p.0) ∙ lacking b p.1

pub feeds-both : (a b : List ℕ) → feeds (a ++ b) ≡ feeds a + feeds b
unfolding feeds keep
feeds-both [] b = sym (zero-add (feeds b))
feeds-both (c ∷ a) b = by (eqb c line_feed)
    (λ e. ap length (keep-true (λ x. eqb x line_feed) c (a ++ b) e) ∙ omega (arith, feeds-both a b, ap length (keep-true (λ x. eqb x line_feed) c a e)))
    (λ e. ap length (keep-false (λ x. eqb x line_feed) c (a ++ b) e) ∙ omega (arith, feeds-both a b, ap length (keep-false (λ x. eqb x line_feed) c a e)))

pub feeds-written : (es : List Event) → feeds (each line_of es) ≡ length es
unfolding each feeds keep line_of
feeds-written [] = refl
feeds-written (e ∷ es) =
    let b : List ℕ = spaced (words_of e) in
    omega (arith, feeds-both (b ++ (line_feed ∷ [])) (each line_of es), feeds-both b (line_feed ∷ []), lacking b (body-lacks e), feeds-written es)

-- a text whose lines all read is what would be written
pub text-written : (ls : List (List ℕ)) (es : List Event) → AllRead line_read ls es → (each line_of es ≡ each (λ l. l) ls) × AllIn es
unfolding each
text-written [] [] h = (refl, tt)
text-written [] (e ∷ es) h = absurd h
text-written (l ∷ ls) [] h = absurd h
text-written (l ∷ ls) (e ∷ es) h =
    let r = written_read l e h.0 in
    let s = text-written ls es h.1 in
    (ap₂ (λ x y. x ++ y) r.0 s.0, (r.1, s.1))

-- ---- Records

pub length-records : (es : List Event) → length (each encoded es) ≡ 8 * length es
unfolding each
length-records [] = refl
length-records (e ∷ es) = omega (arith, length-append (encoded e) (each encoded es), length-encoded e, length-records es)

-- the records of what is written
pub records-written : (es : List Event) → records (length es) (each encoded es) ≡ map encoded es
unfolding each records
records-written [] = refl
records-written (e ∷ es) =
    ap₂ (λ x y. x ∷ records (length es) y) (take_at (encoded e) (each encoded es) 8 (length-encoded e)) (drop_at (encoded e) (each encoded es) 8 (length-encoded e))
    ∙ ap (λ r. encoded e ∷ r) (records-written es)

pub records-read : (es : List Event) → AllIn es → AllRead decoded (map encoded es) es
records-read [] h = tt
records-read (e ∷ es) h = (decode-encoded e h.0, records-read es h.1)

-- all records together are the file
pub file-written : (n : ℕ) (bs : List ℕ) (es : List Event) → length bs ≡ 8 * n → AllRead decoded (records n bs) es → (each encoded es ≡ bs) × AllIn es
unfolding each records
file-written zero [] [] l h = (refl, tt)
file-written zero (b ∷ bs) es l h = absurd (omega arith)
file-written zero [] (e ∷ es) l h = absurd h
file-written (suc n) bs [] l h = absurd h
file-written (suc n) bs (e ∷ es) l h =
    let r = encode-decoded (take 8 bs) e h.0 in
    let s = file-written n (drop 8 bs) es (omega (arith, length-drop 8 bs)) h.1 in
    (ap₂ (λ x y. x ++ y) r s.0 ∙ take-append-drop 8 bs, (decoded-range (take 8 bs) e h.0, s.1))

-- ---- What reading a text gives, case by case

pub read-size : (text out : List ℕ) (n : ℕ) → first_fault (read_checks text out) ≡ n → 1 ≤ n → read_text text out ≡ refused n 0 out
unfolding read_text
read-size text out zero h l = absurd (omega arith)
read-size text out (suc n) h l = rw (h, read_text)

pub read-line-refused : (text out : List ℕ) (f : Refusal) → first_fault (read_checks text out) ≡ 0 → first_refused line_read 0 (lines text) ≡ f → 1 ≤ f.number
    → read_text text out ≡ refused f.number f.place out
unfolding read_text
read-line-refused text out f h g l = at f.number (ap (λ x. x.number) g) l
    ∙ ap (λ x. refused x.number x.place out) g
  where
    at : (n : ℕ) → (first_refused line_read 0 (lines text)).number ≡ n → 1 ≤ n → read_text text out ≡ refused (first_refused line_read 0 (lines text)).number (first_refused line_read 0 (lines text)).place out
    at zero e l = absurd (omega arith)
    at (suc n) e l = rw (h, e, read_text) (ap (λ m. refused m (first_refused line_read 0 (lines text)).place out) e)

pub read_done : (text out : List ℕ) → first_fault (read_checks text out) ≡ 0 → (first_refused line_read 0 (lines text)).number ≡ 0
    → read_text text out ≡ done (each encoded (events line_read (lines text))) out
unfolding read_text
read_done text out h g = rw (h, g, read_text)

-- ---- What writing a text gives, case by case

abbrev pub text_of : List ℕ → List ℕ
text_of input = each line_of (events decoded (records_of input))

pub write-size : (input out : List ℕ) (n : ℕ) → first_fault (write_checks input) ≡ n → 1 ≤ n → write_text input out ≡ refused n 0 out
unfolding write_text
write-size input out zero h l = absurd (omega arith)
write-size input out (suc n) h l = rw (h, write_text)

pub write-record-refused : (input out : List ℕ) (f : Refusal) → first_fault (write_checks input) ≡ 0 → first_refused decoded 0 (records_of input) ≡ f → 1 ≤ f.number
    → write_text input out ≡ refused f.number f.place out
unfolding write_text
write-record-refused input out f h g l = at f.number (ap (λ x. x.number) g) l
    ∙ ap (λ x. refused x.number x.place out) g
  where
    at : (n : ℕ) → (first_refused decoded 0 (records_of input)).number ≡ n → 1 ≤ n → write_text input out ≡ refused (first_refused decoded 0 (records_of input)).number (first_refused decoded 0 (records_of input)).place out
    at zero e l = absurd (omega arith)
    at (suc n) e l = rw (h, e, write_text) (ap (λ m. refused m (first_refused decoded 0 (records_of input)).place out) e)

pub write-unfit : (input out : List ℕ) → first_fault (write_checks input) ≡ 0 → (first_refused decoded 0 (records_of input)).number ≡ 0 → length out < length (text_of input)
    → write_text input out ≡ refused 3 0 out
unfolding write_text
write-unfit input out h g l = rw (h, g, lt-leb (length (text_of input)) (length out) l, write_text)

pub write_done : (input out : List ℕ) → first_fault (write_checks input) ≡ 0 → (first_refused decoded 0 (records_of input)).number ≡ 0 → length (text_of input) ≤ length out
    → write_text input out ≡ done (text_of input) out
unfolding write_text
write_done input out h g l = rw (h, g, le-leb (length (text_of input)) (length out) l, write_text)

-- ---- Sizes

pub read-sizes : (text out : List ℕ) → feeds text ≤ 1024 → 8 * feeds text ≤ length out → first_fault (read_checks text out) ≡ 0
unfolding read_checks first_fault
read-sizes text out a b = simp (le-leb (feeds text) 1024 a, le-leb (8 * feeds text) (length out) b)

pub sizes-read : (text out : List ℕ) → first_fault (read_checks text out) ≡ 0 → (feeds text ≤ 1024) × (8 * feeds text ≤ length out)
unfolding read_checks
sizes-read text out h =
    let a = none_first 2 0 (leb (feeds text) 1024) _ (omega arith) h in
    let b = none_first 3 0 (leb (8 * feeds text) (length out)) _ (omega arith) a.1 in
    (leb-true (feeds text) 1024 a.0, leb-true (8 * feeds text) (length out) b.0)

pub write-sizes : (input : List ℕ) → length input % 8 ≡ 0 → length input ≤ 8192 → first_fault (write_checks input) ≡ 0
unfolding write_checks first_fault
write-sizes input a b = simp (eq-eqb (length input % 8) 0 a, le-leb (length input) 8192 b)

pub sizes-written : (input : List ℕ) → first_fault (write_checks input) ≡ 0 → (length input % 8 ≡ 0) × (length input ≤ 8192)
unfolding write_checks
sizes-written input h =
    let a = none_first 1 0 (eqb (length input % 8) 0) _ (omega arith) h in
    let b = none_first 2 0 (leb (length input) 8192) _ (omega arith) a.1 in
    (eqb-true (length input % 8) 0 a.0, leb-true (length input) 8192 b.0)

-- ---- Both ways

result-done : (bytes out : List ℕ) → result (done bytes out) ≡ bytes
unfolding done over
result-done bytes out = take-append_seam bytes (drop (length bytes) out)

not-ended : {C : Type 0} (n k : ℕ) (out : List ℕ) → Ended (refused n k out) → C
unfolding refused
not-ended n k out h = absurd (omega arith)

-- a text that was read: its events
pub record TextRead (text out : List ℕ) : Type 0 where
  pub es : List Event
  pub ending : read_text text out ≡ done (each encoded es) out
  pub whole : each line_of es ≡ text
  pub in-range : AllIn es
  pub few : length es ≤ 1024
  pub room : 8 * length es ≤ length out

pub text-read : (text out : List ℕ) → Ended (read_text text out) → TextRead text out
text-read text out h = sizes (first_fault (read_checks text out)) refl
  where
    lined : (n : ℕ) → (first_refused line_read 0 (lines text)).number ≡ n → first_fault (read_checks text out) ≡ 0 → TextRead text out
    lined (suc n) e z = not-ended _ _ out (subst Ended (read-line-refused text out (first_refused line_read 0 (lines text)) z refl (omega arith)) h)
    lined zero e z =
        let es : List Event = events line_read (lines text) in
        let w = text-written (lines text) es (none_read line_read line-counted 0 (lines text) e) in
        let same : each line_of es ≡ text = w.0 ∙ lines-together text in
        let n : feeds text ≡ length es = sym (ap feeds same) ∙ feeds-written es in
        let s = sizes-read text out z in
        record { es = es; ending = read_done text out z e; whole = same; in-range = w.1; few = omega arith; room = omega arith }

    sizes : (n : ℕ) → first_fault (read_checks text out) ≡ n → TextRead text out
    sizes zero e = lined (first_refused line_read 0 (lines text)).number refl e
    sizes (suc n) e = not-ended _ _ out (subst Ended (read-size text out (suc n) e (omega arith)) h)

-- a file of records that was written: its events
pub record FileWritten (input out : List ℕ) : Type 0 where
  pub es : List Event
  pub ending : write_text input out ≡ done (each line_of es) out
  pub whole : each encoded es ≡ input
  pub in-range : AllIn es
  pub few : length es ≤ 1024
  pub room : length (each line_of es) ≤ length out

pub file-read : (input out : List ℕ) → Ended (write_text input out) → FileWritten input out
file-read input out h = sizes (first_fault (write_checks input)) refl
  where
    fitting : first_fault (write_checks input) ≡ 0 → (first_refused decoded 0 (records_of input)).number ≡ 0 → (b : Bool) → leb (length (text_of input)) (length out) ≡ b → FileWritten input out
    fitting z e false l = not-ended _ _ out (subst Ended (write-unfit input out z e (leb-false (length (text_of input)) (length out) l)) h)
    fitting z e true l =
        let room : length (text_of input) ≤ length out = leb-true (length (text_of input)) (length out) l in
        let es : List Event = events decoded (records_of input) in
        let s = sizes-written input z in
        let n : length input ≡ 8 * (length input / 8) = omega arith in
        let w = file-written (length input / 8) input es n (none_read decoded record-counted 0 (records_of input) e) in
        let m : length input ≡ 8 * length es = sym (ap length w.0) ∙ length-records es in
        record { es = es; ending = write_done input out z e room; whole = w.0; in-range = w.1; few = omega arith; room = room }

    lined : (n : ℕ) → (first_refused decoded 0 (records_of input)).number ≡ n → first_fault (write_checks input) ≡ 0 → FileWritten input out
    lined (suc n) e z = not-ended _ _ out (subst Ended (write-record-refused input out (first_refused decoded 0 (records_of input)) z refl (omega arith)) h)
    lined zero e z = fitting z e (leb (length (text_of input)) (length out)) refl

    sizes : (n : ℕ) → first_fault (write_checks input) ≡ n → FileWritten input out
    sizes zero e = lined (first_refused decoded 0 (records_of input)).number refl e
    sizes (suc n) e = not-ended _ _ out (subst Ended (write-size input out (suc n) e (omega arith)) h)

-- the text of events in range is read as their records, and their records are written as that text
pub events-text : (es : List Event) (out : List ℕ) → AllIn es → length es ≤ 1024 → 8 * length es ≤ length out → read_text (each line_of es) out ≡ done (each encoded es) out
events-text es out r few room =
    let text : List ℕ = each line_of es in
    let n : feeds text ≡ length es = feeds-written es in
    let all : AllRead line_read (lines text) es = subst (λ ls. AllRead line_read ls es) (sym (lines-written es)) (lines-read es r) in
    read_done text out (read-sizes text out (omega arith) (omega arith)) (ap (λ f. f.number) (read_none line_read 0 (lines text) es all))
    ∙ ap (λ x. done (each encoded x) out) (read-events line_read (lines text) es all)

pub events-file : (es : List Event) (out : List ℕ) → AllIn es → length es ≤ 1024 → length (each line_of es) ≤ length out → write_text (each encoded es) out ≡ done (each line_of es) out
events-file es out r few room =
    let input : List ℕ = each encoded es in
    let n : length input ≡ 8 * length es = length-records es in
    let m : length input / 8 ≡ length es = omega arith in
    let same : records_of input ≡ map encoded es = ap (λ k. records k input) m ∙ records-written es in
    let all : AllRead decoded (records_of input) es = subst (λ ps. AllRead decoded ps es) (sym same) (records-read es r) in
    let found-es : text_of input ≡ each line_of es = ap (each line_of) (read-events decoded (records_of input) es all) in
    write_done input out (write-sizes input (omega arith) (omega arith)) (ap (λ f. f.number) (read_none decoded 0 (records_of input) es all)) (subst (λ t. length t ≤ length out) (sym found-es) room)
    ∙ ap (λ t. done t out) found-es

-- Reading what was written from a file of records gives these records again
pub write-then-read : (input out back : List ℕ) → Ended (write_text input out) → length input ≤ length back
    → read_text (result (write_text input out)) back ≡ done input back
write-then-read input out back h room =
    let w : FileWritten input out = file-read input out h in
    let same : result (write_text input out) ≡ each line_of w.es = ap result w.ending ∙ result-done (each line_of w.es) out in
    let n : length input ≡ 8 * length w.es = sym (ap length w.whole) ∙ length-records w.es in
    ap (λ t. read_text t back) same ∙ events-text w.es back w.in-range w.few (omega arith) ∙ ap (λ b. done b back) w.whole

-- A text that reads, when its records are written, comes back
pub read-then-write : (text out back : List ℕ) → Ended (read_text text out) → length text ≤ length back
    → write_text (result (read_text text out)) back ≡ done text back
read-then-write text out back h room =
    let r : TextRead text out = text-read text out h in
    let same : result (read_text text out) ≡ each encoded r.es = ap result r.ending ∙ result-done (each encoded r.es) out in
    let fits : length (each line_of r.es) ≤ length back = subst (λ t. length t ≤ length back) (sym r.whole) room in
    ap (λ b. write_text b back) same ∙ events-file r.es back r.in-range r.few fits ∙ ap (λ t. done t back) r.whole
