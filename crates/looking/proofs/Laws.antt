-- What a recording that isn't refused is, and what the arrays then hold of it: the laws that the layers above cite.
use Prim.Native.Nat.{ℕ, zero, suc, ◌-◌, ◌*◌, ◌/◌, ◌%◌, ◌≤◌, ◌<◌}
use native.Mathlib.Omega.{arith}
use mathlib.Core.Path.{◌≡◌, refl, sym, ap, ◌∙◌, subst}
use mathlib.Core.Bool.{false, ◌&&◌}
use mathlib.Core.List.{List, [], ◌∷◌, ◌++◌, map}
use lib.ListN.{length, take, drop, length-drop}
use lib.Seq.{length-take-le}
use lib.Dec.{T, eqb, leb, eqb_refl}
use borrow.Author.Tests.{leb-false}
use Rattle.record.specs.declared.Event.{Event}
use Rattle.record.specs.Faults.{Check, first_fault}
use Rattle.record.specs.Record as Record
use Rattle.record.specs.Record.{event, encoded, in_range, kind, target, records, records_of}
use Rattle.record.proofs.Laws.{decoded-good, decoded-range, encode-decoded}
use Rattle.replay.specs.Machine.{fresh, fault_of, next, possible}
use Rattle.lists.specs.Lists.{all_of, over}
use Rattle.lists.proofs.Tests.{by, and_both}
use Rattle.lists.proofs.Lists.{Among, among-cons, Every, all-of, over-front}
use Rattle.graph.specs.declared.Labelled.{Labelled}
use Rattle.graph.specs.declared.Tally.{Tally}
use Rattle.graph.specs.Transactions.{none_yet, begins, full, tallied, tally_from, labelled, transactions}
use Rattle.graph.proofs.Numbers.{count-begun, count-unbegun, labels-lt, labelled-take, sane-none}
use Rattle.graph.proofs.Meaning.{take-take}
use Rattle.graph.proofs.Round.{labelled-length}
use Rattle.looking.specs.declared.seeing.Run.{Run}
use Rattle.looking.specs.Refusals.{input_checks, start, onwards, record_checks, first_refusal, refused_by, events}
use Rattle.looking.specs.Looked.{input_refusal, sound_events, Looking, looked}
use Rattle.looking.proofs.Refusing.{sized, size-passed, sizes-passed, more-passed, refusal-on, refusal-at}
use Rattle.looking.proofs.Seen.{parts-passed}
use Rattle.looking.proofs.Scanned.{record_in, record-shift, events-size, sound-all}

-- ---- The records, one after the other

-- a record has no fault of form
abbrev pub InForm : List ℕ → Type 0
InForm bs = first_fault (Record.checks bs) ≡ 0

-- the 513th transaction isn't begun
pub counted-few : (s : Tally) (e : Event) → s.count ≤ 512 → full s e ≡ false → (tallied s e).count ≤ 512
unfolding full
counted-few s e h f = by (begins s e)
    (λ b. omega (arith, count-begun s e b, leb-false 512 s.count (ap (λ t. t && leb 512 s.count) (sym b) ∙ f)))
    (λ b. omega (arith, count-unbegun s e b))

-- what is known of records, where none of them has a fault
record Fine (r : Run) (rs : List (List ℕ)) : Type 0 where
  can-be : T (possible r.state (map event rs))
  in-form : Every InForm rs
  few : r.tally.count ≤ 512 → (tally_from r.tally (map event rs)).count ≤ 512

fine-none : (r : Run) → Fine r []
unfolding possible tally_from
fine-none r = record { can-be = tt; in-form = tt; few = λ h. h }

fine_more : (r : Run) (bs : List ℕ) (rs : List (List ℕ)) → first_fault (record_checks r bs) ≡ 0 → Fine (onwards r (event bs)) rs → Fine r (bs ∷ rs)
unfolding possible tally_from
fine_more r bs rs q f =
    let e : Event = event bs in
    let p = parts-passed r bs q in
    record {
      can-be = and_both (eqb (fault_of r.state e) 0) (possible (next r.state e) (map event rs)) (subst (λ n. T (eqb n 0)) (sym p.1) (eqb_refl 0)) f.can-be;
      in-form = (p.0, f.in-form);
      few = λ h. f.few (counted-few r.tally e h p.2);
    }

all-fine : (r : Run) (k : ℕ) (rs : List (List ℕ)) → (first_refusal r k rs).number ≡ 0 → Fine r rs
all-fine r k [] z = fine-none r
all-fine r k (bs ∷ rs) z = go (first_fault (record_checks r bs)) refl (all-fine (onwards r (event bs)) (suc k) rs)
  where
    go : (n : ℕ) → first_fault (record_checks r bs) ≡ n → ((first_refusal (onwards r (event bs)) (suc k) rs).number ≡ 0 → Fine (onwards r (event bs)) rs) → Fine r (bs ∷ rs)
    go zero q again = fine_more r bs rs q (again (ap (λ f. f.number) (sym (refusal-on r k bs rs q)) ∙ z))
    go (suc n) q again = absurd (omega (arith, z, ap (λ f. f.number) (refusal-at r k bs rs n q)))

-- each has 8 bytes
records-sized : (n : ℕ) (bs : List ℕ) → length bs ≡ 8 * n → Every (λ r. length r ≡ 8) (records n bs)
unfolding records
records-sized zero bs h = tt
records-sized (suc n) bs h = (length-take-le 8 bs (omega arith), records-sized n (drop 8 bs) (length-drop 8 bs ∙ rest))
  where
    rest : length bs - 8 ≡ 8 * n
    rest = omega (arith, h)

ranged : (rs : List (List ℕ)) → Every (λ r. length r ≡ 8) rs → Every InForm rs → (e : Event) → Among e (map event rs) → T (in_range e)
ranged [] s f e m = elim m [ ]
ranged (r ∷ rs) s f e m = among-cons m (λ q. subst (λ x. T (in_range x)) (sym q) (decoded-range r (event r) (decoded-good r s.0 f.0))) (λ n. ranged rs s.1 f.1 e n)

-- ---- A recording that isn't refused

pub record Passed (input : List ℕ) : Type 0 where
  pub whole : length input % 8 ≡ 0
  pub most : length input / 8 ≤ 1024
  pub can-be : T (possible fresh (events input))
  pub in-range : T (all_of in_range (events input))
  pub few : transactions (events input) ≤ 512
  pub in-form : Every InForm (records_of input)
  pub sizes : Every (λ bs. length bs ≡ 8) (records_of input)

pub passed : (input : List ℕ) → (refused_by (input_checks input) input).number ≡ 0 → Passed input
unfolding start events transactions none_yet
passed input none =
    let first : first_fault (input_checks input) ≡ 0 = sizes-passed (input_checks input) input none in
    let f : Fine start (records_of input) = all-fine start 0 (records_of input) (ap (λ x. x.number) (sym (size-passed (input_checks input) input first)) ∙ none) in
    let s = records-sized (length input / 8) input (omega (arith, (sized input first).whole)) in
    record {
      whole = (sized input first).whole;
      most = omega (arith, (sized input first).most);
      can-be = f.can-be;
      in-range = all-of in_range (events input) (ranged (records_of input) s f.in-form);
      few = f.few (omega arith);
      in-form = f.in-form;
      sizes = s;
    }

-- by 1, 2 and more sizes
pub passed-more : (input : List ℕ) (more : List Check) → (refused_by (input_checks input ++ more) input).number ≡ 0 → Passed input
passed-more input more none =
    passed input (ap (λ f. f.number) (sym (more-passed input more (sizes-passed (input_checks input ++ more) input none))) ∙ none)

-- the bytes of a record are those of its event
bytes_of : (n : ℕ) (bs : List ℕ) → Every (λ r. length r ≡ 8) (records n bs) → Every InForm (records n bs) → (i : ℕ) → i < n → encoded (event (record_in bs i)) ≡ record_in bs i
unfolding records
bytes_of zero bs s f i h = absurd (omega arith)
bytes_of (suc n) bs s f zero h = encode-decoded (take 8 bs) (event (take 8 bs)) (decoded-good (take 8 bs) s.0 f.0)
bytes_of (suc n) bs s f (suc i) h = subst (λ r. encoded (event r) ≡ r) (record-shift bs i) (bytes_of n (drop 8 bs) s.1 f.1 i (omega arith))

pub record-bytes : (input : List ℕ) → Passed input → (i : ℕ) → i < length input / 8 → encoded (event (record_in input i)) ≡ record_in input i
record-bytes input p i h = bytes_of (length input / 8) input p.sizes p.in-form i h

-- ---- What the array of records holds

-- of a recording that isn't refused, and how many transactions there are
pub record Noted (input : List ℕ) (records : List Labelled) (n : ℕ) : Type 0 where
  pub are : take (length input / 8) records ≡ labelled (events input)
  pub counted : n ≡ transactions (events input)

-- each record is of one of 512 transactions
pub noted-few : (input : List ℕ) → Passed input → (x : Labelled) → Among x (labelled (events input)) → x.transaction < 512
unfolding transactions
noted-few input p x m = omega (arith, labels-lt none_yet (events input) sane-none x m, p.few)

module _ (input : List ℕ) (old : List Labelled) (r : Looking) (is : r ≡ looked input old) where
  pub looked-refusal : refused_by (input_checks input) input ≡ r.refusal
  unfolding looked
  looked-refusal = ap (λ x. x.refusal) (sym is)

  pub looked-noted : r.refusal.number ≡ 0 → Noted input r.records r.transactions
  unfolding looked over
  looked-noted none =
      let no-refusal : (input_refusal input).number ≡ 0 = ap (λ f. f.number) looked-refusal ∙ none in
      let es : List Event = events input in
      let size : length (labelled es) ≡ length input / 8 = labelled-length none_yet es ∙ events-size input in
      let all_sound : sound_events input ≡ es = sound-all input no-refusal in
      let records-are : over (labelled es) old ≡ r.records = ap (λ l. over (labelled l) old) (sym all_sound) ∙ ap (λ x. x.records) (sym is) in
      record {
        are = subst (λ l. take (length input / 8) l ≡ labelled es) records-are
            (subst (λ k. take k (over (labelled es) old) ≡ labelled es) size (over-front (labelled es) old));
        counted = ap (λ x. x.transactions) is ∙ ap transactions all_sound;
      }

-- fewer records
pub noted-prefix : (input : List ℕ) (records : List Labelled) (n k : ℕ) → k ≤ length input / 8 → Noted input records n
    → take k records ≡ labelled (take k (events input))
noted-prefix input records n k h f =
    sym (take-take k (length input / 8) records h) ∙ ap (take k) f.are ∙ sym (labelled-take none_yet k (events input))
