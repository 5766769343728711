-- Laws for the passes over whole files: the first part and then the others, and what is written after what is written.
use Prim.Native.Nat.{ℕ, zero, suc, ◌+◌, ◌-◌, ◌/◌, ◌≤◌, ◌<◌, min}
use native.Mathlib.Omega.{arith}
use native.Mathlib.Numerals.{add-one}
use mathlib.Core.Path.{◌≡◌, refl, sym, ap, ap₂, subst, ◌∙◌}
use mathlib.Core.Bool.{Bool, true, false, cond}
use mathlib.Core.List.{List, [], ◌∷◌, ◌++◌, append_assoc, append-nil}
use lib.ListN.{length, get_or, take-append-drop, take, drop, length-append, length-drop}
use lib.Seq.{drop-drop, take_at, drop_at, take-append_seam, drop-append_seam, length-take-le}
use lib.Dec.{eqb, ltb}
use borrow.Author.Tests.{le-leb, lt-leb, ltb-true, ltb-false}
use Rattle.std.specs.Prelude.{Result, Ok, Err, count_by}
use Rattle.std.specs.List.{IsFirstMatchOrLen}
use Rattle.std.proofs.lemmas.List.Recursion.{is_count_by}
use borrow.Rule.Slice.PartMut.{put_mid}
use denote.Ref.{Bor}
use denote.Param.Members.{Mut}
use Rattle.std.specs.declared.slice.SplitInclusive.{SplitInclusive}
use Rattle.std.specs.Slice.Iter.{split_inclusive_rest, split_inclusive_callee}
use Rattle.std.specs.Fn.{ComputesKey}
use Rattle.lists.specs.Lists.{keep, each, over}
use Rattle.lists.proofs.Tests.{by}
use Rattle.lists.proofs.Places.{rest-whole, put-over}
use Rattle.lists.proofs.Lists.{keep-true, keep-false, each_append}
use Rattle.record.specs.declared.Event.{Event}
use Rattle.record.specs.declared.Refusal.{Refusal as Given}
use Rattle.record.specs.Faults.{Refusal}
use Rattle.record.specs.Answers.{number, refusal_of, told}
use Rattle.record.specs.Record.{encoded, encoded_over, encoded_size, records, records_of}
use Rattle.record.proofs.Laws.{encoded-over, size-over, length-encoded}
use Rattle.text.specs.Line.{line_feed, glued, line_of, line_over, line_room}
use Rattle.text.specs.File.{first_refused, found, events, feeds, lines}
use Rattle.text.specs.Steps.{part_bytes, all_bytes}
use Rattle.text.proofs.Words.{lines_cut, lines-on}
use Rattle.text.proofs.Files.{first_good, first-refused}

-- ---- Line feeds

pub feeds-counted : (text : List ℕ) → count_by (λ c. eqb c line_feed) text ≡ feeds text
unfolding feeds keep
feeds-counted text = sym (is_count_by feeds (λ c. eqb c line_feed) refl step text)
  where
    step : (c : ℕ) (text : List ℕ) → feeds (c ∷ text) ≡ cond (eqb c line_feed) (1 + feeds text) (feeds text)
    step c text = by (eqb c line_feed)
        (λ e. rw e (omega (arith, ap length (keep-true (λ c. eqb c line_feed) c text e))))
        (λ e. rw e (omega (arith, ap length (keep-false (λ c. eqb c line_feed) c text e))))

-- ---- The first line, and the others

-- how many bytes stand before the first line feed; all where there is none
unfoldable pub before : List ℕ → ℕ
before [] = 0
before (b ∷ bs) = elim (eqb b line_feed) [ true ↦ 0 | false ↦ suc (before bs) ]

-- how many bytes the first line has, with its line feed
unfoldable pub line_size : List ℕ → ℕ
line_size bs = min (before bs + 1) (length bs)

pub size-cut : (c : ℕ) (bs : List ℕ) → eqb c line_feed ≡ true → line_size (c ∷ bs) ≡ 1
unfolding line_size before
size-cut c bs e = let z : before (c ∷ bs) ≡ 0 = rw (e, before) in omega arith

pub size-on : (c : ℕ) (bs : List ℕ) → eqb c line_feed ≡ false → line_size (c ∷ bs) ≡ suc (line_size bs)
unfolding line_size before
size-on c bs e = let z : before (c ∷ bs) ≡ suc (before bs) = rw (e, before) in omega arith

pub lines-begin : (bs : List ℕ) → 0 < length bs → lines bs ≡ take (line_size bs) bs ∷ lines (drop (line_size bs) bs)
unfolding lines glued line_size before
lines-begin [] l = absurd (omega arith)
lines-begin (c ∷ bs) l = by (eqb c line_feed)
    (λ e. lines_cut c bs e ∙ sym (ap (λ n. take n (c ∷ bs) ∷ lines (drop n (c ∷ bs))) (size-cut c bs e)))
    (λ e. lines-on c bs e ∙ more bs (lines-begin bs) ∙ sym (ap (λ n. take n (c ∷ bs) ∷ lines (drop n (c ∷ bs))) (size-on c bs e)))
  where
    more : (bs : List ℕ) → (0 < length bs → lines bs ≡ take (line_size bs) bs ∷ lines (drop (line_size bs) bs)) → glued c (lines bs) ≡ (c ∷ take (line_size bs) bs) ∷ lines (drop (line_size bs) bs)
    more [] h = refl
    more (b ∷ bs) h = ap (glued c) (h (omega arith))

-- where the first line feed is known
before-here : (bs : List ℕ) (i : ℕ) → i < length bs → ((k : ℕ) → k < i → eqb (get_or bs k 0) line_feed ≡ false) → eqb (get_or bs i 0) line_feed ≡ true → before bs ≡ i
unfolding before
before-here [] i l none here = absurd (omega arith)
before-here (b ∷ bs) zero l none here = rw (here, before)
before-here (b ∷ bs) (suc i) l none here = rw (none 0 (omega arith), before) (ap suc (before-here bs i (omega arith) (λ k h. none (suc k) (omega arith)) here))

before-none : (bs : List ℕ) → ((k : ℕ) → k < length bs → eqb (get_or bs k 0) line_feed ≡ false) → before bs ≡ length bs
unfolding before
before-none [] none = refl
before-none (b ∷ bs) none = rw (none 0 (omega arith), before) (ap suc (before-none bs (λ k h. none (suc k) (omega arith))))

-- the bytes to the first line feed are the first line
pub lines-next : (bs x rest : List ℕ) (i : ℕ) → bs ≡ x ++ rest → 0 < length bs → length x ≡ min (i + 1) (length bs) → IsFirstMatchOrLen (λ c. eqb c line_feed) bs i → lines bs ≡ x ∷ lines rest
unfolding line_size
lines-next bs x rest i e some n f =
    lines-begin bs some ∙ ap (λ m. take m bs ∷ lines (drop m bs)) size
    ∙ ap₂ (λ p q. p ∷ lines q) (ap (take (length x)) e ∙ take-append_seam x rest) (ap (drop (length x)) e ∙ drop-append_seam x rest)
  where
    size : line_size bs ≡ length x
    size = by (ltb i (length bs))
        (λ l. let h : i < length bs = ltb-true i (length bs) l in
        omega (arith, before-here bs i h (λ k b. f.0 k 0 (omega arith) b) (f.1 h 0)))
        (λ l. omega (arith, ltb-false i (length bs) l, before-none bs (λ k b. f.0 k 0 (omega arith) (omega (arith, ltb-false i (length bs) l)))))

-- as they come
pub line-next : {F : Type 0} {g : Mut F (Bor ℕ × Unit {0}) Bool} (s t : SplitInclusive ℕ F) (x : Bor (List ℕ)) → ComputesKey g (λ c. eqb c line_feed) (split_inclusive_callee s)
    → (split_inclusive_rest s ≡ x.now ++ split_inclusive_rest t) × ((i : ℕ) × (length x.now ≡ min (i + 1) (length (split_inclusive_rest s)))
    × ((p : ℕ → Bool) → ComputesKey g p (split_inclusive_callee s) → ComputesKey g p (split_inclusive_callee t) × IsFirstMatchOrLen p (split_inclusive_rest s) i)) × (0 < length (split_inclusive_rest s))
    → lines (split_inclusive_rest s) ≡ x.now ∷ lines (split_inclusive_rest t)
line-next s t x k h = lines-next (split_inclusive_rest s) x.now (split_inclusive_rest t) h.1.0 h.0 h.2 h.1.1 (h.1.2 (λ c. eqb c line_feed) k).1

pub lines-none : (bs : List ℕ) → length bs ≡ 0 → lines bs ≡ []
unfolding lines
lines-none [] e = refl
lines-none (b ∷ bs) e = absurd (omega arith)

-- ---- The first record, and the others

records-begin : (bs : List ℕ) → 8 ≤ length bs → records_of bs ≡ take 8 bs ∷ records_of (drop 8 bs)
unfolding records
records-begin bs l =
    let n : length bs / 8 ≡ suc (length (drop 8 bs) / 8) = omega (arith, length-drop 8 bs) in ap (λ k. records k bs) n

pub records-next : (bs x rest : List ℕ) → bs ≡ x ++ rest → length x ≡ 8 → records_of bs ≡ x ∷ records_of rest
records-next bs x rest e n =
    records-begin bs (omega (arith, ap length e, length-append x rest))
    ∙ ap₂ (λ p q. p ∷ records_of q) (ap₂ take (sym n) e ∙ take-append_seam x rest) (ap₂ drop (sym n) e ∙ drop-append_seam x rest)

pub records-none : (bs : List ℕ) → length bs < 8 → records_of bs ≡ []
unfolding records
records-none bs l = let n : length bs / 8 ≡ 0 = omega arith in ap (λ k. records k bs) n

-- ---- The first refusal

-- a part that reads is passed over, and one that is refused decides
module _ (read : List ℕ → Result Event Refusal) (k : ℕ) (p : List ℕ) (ps qs : List (List ℕ)) (e : qs ≡ p ∷ ps) where
  pub refusal-on : (r : Result Event Given) (x : Event) → told r ≡ read p → r ≡ Ok x → first_refused read k qs ≡ first_refused read (k + 1) ps
  refusal-on r x h q = ap (first_refused read k) e ∙ first_good read k p ps x (sym h ∙ ap told q) ∙ ap (λ n. first_refused read n ps) (sym (add-one k))

  pub refusal-here : (r : Result Event Given) (f : Given) → told r ≡ read p → r ≡ Err f → first_refused read k qs ≡ record { number = number f.fault; place = k }
  refusal-here r f h q = ap (first_refused read k) e ∙ first-refused read k p ps (refusal_of f) (sym h ∙ ap told q)

pub refusal-end : (read : List ℕ → Result Event Refusal) (k : ℕ) (qs : List (List ℕ)) → qs ≡ [] → first_refused read k qs ≡ record { number = 0; place = 0 }
unfolding first_refused
refusal-end read k qs e = ap (first_refused read k) e

-- ---- What is written for each part

pub bytes_on : (put : Event → List ℕ) (read : List ℕ → Result Event Refusal) (p : List ℕ) (ps qs : List (List ℕ)) → qs ≡ p ∷ ps
    → all_bytes put read qs ≡ part_bytes put (read p) ++ all_bytes put read ps
unfolding all_bytes part_bytes events each
bytes_on put read p ps qs e = ap (all_bytes put read) e ∙ each_append put (found (read p)) (events read ps)

pub bytes-end : (put : Event → List ℕ) (read : List ℕ → Result Event Refusal) (qs : List (List ℕ)) → qs ≡ [] → all_bytes put read qs ≡ []
unfolding all_bytes events each
bytes-end put read qs e = ap (all_bytes put read) e

pub part-good : (put : Event → List ℕ) (d : Result Event Refusal) (e : Event) → d ≡ Ok e → part_bytes put d ≡ put e
unfolding part_bytes each
part-good put d e h = ap (part_bytes put) h ∙ append-nil (put e)

pub part_none : (put : Event → List ℕ) (d : Result Event Refusal) (f : Refusal) → d ≡ Err f → part_bytes put d ≡ []
unfolding part_bytes each
part_none put d f h = ap (part_bytes put) h

-- ---- Written after what is written

-- what is to be written, after n bytes of it are
pub record Put (total old out : List ℕ) (n : ℕ) (rest : List ℕ) : Type 0 where
  pub same_size : length out ≡ length old
  pub sizes : n + length rest ≡ length total
  pub bytes : over total old ≡ take n out ++ over rest (drop n out)

pub put-none : (total old : List ℕ) → Put total old old 0 total
put-none total old = record { same_size = refl; sizes = omega arith; bytes = refl }

pub put_all : (total old out : List ℕ) (n : ℕ) (rest : List ℕ) → Put total old out n rest → rest ≡ [] → (n ≡ length total) × (out ≡ over total old)
unfolding over
put_all total old out n rest p e =
    (omega (arith, p.sizes, ap length e), sym (p.bytes ∙ ap (λ r. take n out ++ over r (drop n out)) e ∙ take-append-drop n out))

pub put_on : (total old out out' b rest rest' : List ℕ) (n : ℕ) → length total ≤ length old → Put total old out n rest → rest ≡ b ++ rest'
    → out' ≡ take n out ++ b ++ drop (n + length b) out → Put total old out' (n + length b) rest'
unfolding over
put_on total old out out' b rest rest' n room p e w =
    let m : length rest ≡ length b + length rest' = ap length e ∙ length-append b rest' in
    let l : n + length b ≤ length out = omega (arith, p.sizes, p.same_size) in
    let front : List ℕ = take n out ++ b in
    let tail : List ℕ = drop (n + length b) out in
    let f : length front ≡ n + length b = omega (arith, length-append (take n out) b, length-take-le n out (omega arith)) in
    let split : over rest (drop n out) ≡ b ++ over rest' tail =
    ap (λ r. over r (drop n out)) e
    ∙ append_assoc b rest' (drop (length (b ++ rest')) (drop n out))
    ∙ ap (λ r. b ++ (rest' ++ r)) (ap (λ i. drop i (drop n out)) (length-append b rest') ∙ sym (drop-drop (length rest') (length b) (drop n out)) ∙ ap (drop (length rest')) (drop-drop (length b) n out)) in
    record {
      same_size = ap length w ∙ omega (arith, length-append front tail, length-drop (n + length b) out, p.same_size);
      sizes = omega (arith, p.sizes);
      bytes =
          p.bytes ∙ ap (λ r. take n out ++ r) split ∙ sym (append_assoc (take n out) b (over rest' tail))
          ∙ sym (ap₂ (λ x y. x ++ over rest' y) (ap (take (n + length b)) w ∙ take_at front tail (n + length b) f) (ap (drop (n + length b)) w ∙ drop_at front tail (n + length b) f));
    }

-- the bytes b are written after them: they have room, and the others follow
module _ (total old out new b rest rest' : List ℕ) (n m : ℕ) (room : length total ≤ length old) (p : Put total old out n rest) (e : rest ≡ b ++ rest') where
  size : length rest ≡ length b + length rest'
  size = ap length e ∙ length-append b rest'

  pub put-room : length b ≤ length (take (length out - n) (drop n out))
  put-room = omega (arith, size, p.sizes, p.same_size, room, length-drop n out, ap length (rest-whole out n))

  module _ (k : m ≡ length b) where
    pub put-sum : n + m ≤ length total
    put-sum = omega (arith, k, size, p.sizes)

    pub put-next : new ≡ over b (take (length out - n) (drop n out)) → Put total old (put_mid n (length out - n) out new) (n + m) rest'
    put-next w =
        let l : n ≤ length out = omega (arith, p.sizes, p.same_size, room) in
        subst (λ j. Put total old (put_mid n (length out - n) out new) (n + j) rest') (sym k) (put_on total old out _ b rest rest' n room p e (put-over b out new n l w))

-- ---- A line, written where it fits

pub line-fits : (e : Event) (old : List ℕ) → length (line_of e) ≤ length old → (line_room e old ≡ length (line_of e)) × (line_over e old ≡ over (line_of e) old)
unfolding line_room line_over
line-fits e old h =
    (ap (λ t. cond t (length (line_of e)) 0) (le-leb (length (line_of e)) (length old) h), ap (λ t. cond t (over (line_of e) old) old) (le-leb (length (line_of e)) (length old) h))

pub line-unfit : (e : Event) (old : List ℕ) → length old < length (line_of e) → (line_room e old ≡ 0) × (line_over e old ≡ old)
unfolding line_room line_over
line-unfit e old h =
    (ap (λ t. cond t (length (line_of e)) 0) (lt-leb (length (line_of e)) (length old) h), ap (λ t. cond t (over (line_of e) old) old) (lt-leb (length (line_of e)) (length old) h))

-- ---- One part, written

pub part-fits : (put : Event → List ℕ) (d : Result Event Refusal) (e : Event) (n : ℕ) (old out : List ℕ) → d ≡ Ok e → n ≡ length (put e) → out ≡ over (put e) old → (n ≡ length (part_bytes put d)) × (out ≡ over (part_bytes put d) old)
part-fits put d e n old out h p q =
    let same : part_bytes put d ≡ put e = part-good put d e h in (p ∙ sym (ap length same), q ∙ sym (ap (λ b. over b old) same))

pub part-empty : (put : Event → List ℕ) (d : Result Event Refusal) (f : Refusal) (old : List ℕ) → d ≡ Err f → (0 ≡ length (part_bytes put d)) × (old ≡ over (part_bytes put d) old)
unfolding over
part-empty put d f old h =
    let same : part_bytes put d ≡ [] = part_none put d f h in (sym (ap length same), sym (ap (λ b. over b old) same))

pub record-fits : (e : Event) (old : List ℕ) → 8 ≤ length old → (encoded_size old ≡ length (encoded e)) × (encoded_over e old ≡ over (encoded e) old)
unfolding over
record-fits e old h = (size-over old h ∙ sym (length-encoded e), encoded-over e old h ∙ ap (λ n. encoded e ++ drop n old) (sym (length-encoded e)))

pub record-room : (d : Result Event Refusal) (e : Event) (n : ℕ) → d ≡ Ok e → length (part_bytes encoded d) ≤ n → 8 ≤ n
record-room d e n h l = omega (arith, ap length (part-good encoded d e h), length-encoded e)
