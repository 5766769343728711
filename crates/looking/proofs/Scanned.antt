-- Laws of looking at the records one after the other: what those so far have led to, and what the rest will.
use Prim.Native.Nat.{ℕ, zero, suc, ◌+◌, ◌-◌, ◌*◌, ◌/◌, ◌≤◌, ◌<◌}
use native.Mathlib.Omega.{arith}
use native.Mathlib.Numerals.{add-one}
use mathlib.Core.Path.{◌≡◌, refl, sym, ap, ap₂, ◌∙◌, subst}
use mathlib.Core.Logic.{◌≢◌}
use mathlib.Core.List.{List, [], ◌∷◌, ◌++◌, map}
use lib.ListN.{length, get_or, set, take, drop, length-append, length-drop, length-map}
use lib.Seq.{length-take-le, drop-drop, take_all, take-append_seam, drop-append_seam}
use Rattle.record.specs.declared.Event.{Event}
use Rattle.record.specs.Faults.{Refusal, first_fault}
use Rattle.record.specs.Record.{event, records, records_of}
use Rattle.replay.specs.declared.State.{State}
use Rattle.replay.specs.Machine.{fresh}
use Rattle.lists.specs.Lists.{over}
use Rattle.lists.proofs.Lists.{over-next}
use Rattle.graph.specs.declared.Labelled.{Labelled}
use Rattle.graph.specs.declared.Tally.{Tally}
use Rattle.graph.specs.Transactions.{unseen, none_yet, belongs, tallied, tally_from, labelled_from, labelled, transactions}
use Rattle.graph.specs.Held.{past_end, labelled_as}
use Rattle.graph.proofs.Numbers.{labelled-take}
use Rattle.graph.proofs.Round.{labelled-length}
use Rattle.std.specs.Prelude.{Ok, Err}
use Rattle.looking.specs.declared.seeing.Run.{Run}
use Rattle.looking.specs.Refusals.{input_checks, start, no_refusal, first_refusal, events}
use Rattle.looking.specs.Looked.{input_refusal, sound_events, Looking, looked}
use Rattle.looking.specs.Seeing.{Saw}
use Rattle.looking.proofs.Refusing.{size-refused, size-passed, refusal-on, refusal-at}
use Rattle.looking.proofs.Seen.{Taken, taken, Stopped, stopped}

-- ---- The records from one on

-- the bytes of record i of a recording
abbrev pub record_in : List ℕ → ℕ → List ℕ
record_in input i = take 8 (drop (8 * i) input)

unfoldable pub rest_from : List ℕ → ℕ → List (List ℕ)
rest_from input i = records (length input / 8 - i) (drop (8 * i) input)

rest_all : (input : List ℕ) → rest_from input 0 ≡ records_of input
unfolding rest_from
rest_all input = let z : length input / 8 - 0 ≡ length input / 8 = omega arith in ap (λ k. records k input) z

rest-next : (input : List ℕ) (i : ℕ) → i < length input / 8 → rest_from input i ≡ record_in input i ∷ rest_from input (suc i)
unfolding rest_from records
rest-next input i h =
    let k : length input / 8 - i ≡ suc (length input / 8 - suc i) = omega arith in
    let m : 8 * i + 8 ≡ 8 * suc i = omega arith in
    ap (λ n. records n (drop (8 * i) input)) k
    ∙ ap (λ l. record_in input i ∷ records (length input / 8 - suc i) l) (drop-drop 8 (8 * i) input ∙ ap (λ n. drop n input) m)

rest-none : (input : List ℕ) (i : ℕ) → length input / 8 ≤ i → rest_from input i ≡ []
unfolding rest_from records
rest-none input i h = let z : length input / 8 - i ≡ 0 = omega arith in ap (λ k. records k (drop (8 * i) input)) z

pub bytes-size : (input : List ℕ) (i : ℕ) → i < length input / 8 → length (record_in input i) ≡ 8
bytes-size input i h = length-take-le 8 (drop (8 * i) input) (omega (arith, length-drop (8 * i) input))

-- what is left of a recording, cut after its first 8 bytes
pub record Cut (input bytes after : List ℕ) (i : ℕ) : Type 0 where
  pub within : i < length input / 8
  pub is : bytes ≡ record_in input i
  pub rest : after ≡ drop (8 * (i + 1)) input

pub cut_at : (input rest bytes after : List ℕ) (i : ℕ) → rest ≡ drop (8 * i) input → rest ≡ bytes ++ after → length bytes ≡ 8 → 8 * i ≤ length input → Cut input bytes after i
cut_at input rest bytes after i from parts size more =
    let all : drop (8 * i) input ≡ bytes ++ after = sym from ∙ parts in
    let sizes : length input - 8 * i ≡ length bytes + length after = sym (length-drop (8 * i) input) ∙ ap length all ∙ length-append bytes after in
    let next : 8 * i + 8 ≡ 8 * (i + 1) = omega arith in
    record {
      within = omega arith;
      is = sym (ap (take 8) all ∙ ap (λ n. take n (bytes ++ after)) (sym size) ∙ take-append_seam bytes after);
      rest = sym (ap (λ n. drop n input) (sym next) ∙ sym (drop-drop 8 (8 * i) input) ∙ ap (drop 8) all ∙ ap (λ n. drop n (bytes ++ after)) (sym size) ∙ drop-append_seam bytes after);
    }

-- ---- The events

-- how many records a recording has
records-size : (n : ℕ) (bs : List ℕ) → length (records n bs) ≡ n
unfolding records
records-size zero bs = refl
records-size (suc n) bs = ap suc (records-size n (drop 8 bs))

pub events-size : (input : List ℕ) → length (events input) ≡ length input / 8
unfolding events
events-size input = length-map (records_of input) event ∙ records-size (length input / 8) input

pub record-shift : (bs : List ℕ) (i : ℕ) → record_in (drop 8 bs) i ≡ record_in bs (suc i)
record-shift bs i =
    let m : 8 + 8 * i ≡ 8 * suc i = omega arith in
    ap (take 8) (drop-drop (8 * i) 8 bs ∙ ap (λ k. drop k bs) m)

-- the event of record i
record-at : (n : ℕ) (bs : List ℕ) (i : ℕ) (d : Event) → i < n → get_or (map event (records n bs)) i d ≡ event (record_in bs i)
unfolding records
record-at zero bs i d h = absurd (omega arith)
record-at (suc n) bs zero d h = refl
record-at (suc n) bs (suc i) d h = record-at n (drop 8 bs) i d (omega arith) ∙ ap event (record-shift bs i)

pub event-at : (input : List ℕ) (i : ℕ) (d : Event) → i < length input / 8 → get_or (events input) i d ≡ event (record_in input i)
unfolding events
event-at input i d h = record-at (length input / 8) input i d h

-- ---- Each with its transaction

-- one event more
tally-next : (s : Tally) (es : List Event) (i : ℕ) (d : Event) → i < length es → tally_from s (take (suc i) es) ≡ tallied (tally_from s (take i es)) (get_or es i d)
unfolding tally_from
tally-next s [] i d h = absurd (omega arith)
tally-next s (e ∷ es) zero d h = refl
tally-next s (e ∷ es) (suc i) d h = tally-next (tallied s e) es i d (omega arith)

labelled_at : (s : Tally) (es : List Event) (i : ℕ) (d : Event) (x : Labelled) → i < length es
    → get_or (labelled_from s es) i x ≡ labelled_as (belongs (tally_from s (take i es)) (get_or es i d)) (get_or es i d)
unfolding tally_from labelled_from
labelled_at s [] i d x h = absurd (omega arith)
labelled_at s (e ∷ es) zero d x h = refl
labelled_at s (e ∷ es) (suc i) d x h = labelled_at (tallied s e) es i d x (omega arith)

-- the first so many events noted, with their transactions, in an array
unfoldable pub noted : List Event → List Labelled → List Labelled
noted es old = over (labelled es) old

-- one event more, stored at place i
noted-next : (es : List Event) (old : List Labelled) (i : ℕ) → i < length es → i < length old
    → set (noted (take i es) old) i (labelled_as (belongs (tally_from none_yet (take i es)) (get_or es i past_end)) (get_or es i past_end)) ≡ noted (take (suc i) es) old
unfolding noted
noted-next es old i h room =
    ap₂ (λ (l : List Labelled) (x : Labelled). set (over l old) i x) (labelled-take none_yet i es) (sym (labelled_at none_yet es i past_end unseen h))
    ∙ over-next (labelled es) old i unseen (omega (arith, labelled-length none_yet es)) room
    ∙ ap (λ l. over l old) (sym (labelled-take none_yet (suc i) es))

-- ---- The records so far

-- the first i records have led to r, and are noted
pub record Under (input : List ℕ) (old : List Labelled) (r : Run) (here : List Labelled) (i : ℕ) : Type 0 where
  pub refused : first_refusal start 0 (records_of input) ≡ first_refusal r i (rest_from input i)
  pub tally-is : r.tally ≡ tally_from none_yet (take i (events input))
  pub noted-are : here ≡ noted (take i (events input)) old

pub under-start : (input : List ℕ) (s : State) (c : Tally) (old : List Labelled) → s ≡ fresh → c ≡ none_yet → Under input old (record { state = s; tally = c }) old 0
unfolding start tally_from noted over labelled_from
under-start input s c old h k =
    subst (λ x. Under input old (record { state = x; tally = c }) old 0) (sym h) (subst (λ y. Under input old (record { state = fresh; tally = y }) old 0) (sym k)
    (record { refused = ap (first_refusal start 0) (sym (rest_all input)); tally-is = refl; noted-are = refl }))

module _ (input : List ℕ) (old : List Labelled) (r : Run) (here : List Labelled) (i : ℕ) (more : i < length input / 8) (bs : List ℕ) (is : bs ≡ record_in input i) where
  next : rest_from input i ≡ bs ∷ rest_from input (suc i)
  next = rest-next input i more ∙ ap (λ x. x ∷ rest_from input (suc i)) (sym is)

  own : event bs ≡ get_or (events input) i past_end
  own = ap event is ∙ sym (event-at input i past_end more)

  within : i < length (events input)
  within = omega (arith, events-size input)

  -- one more, without a fault
  pub under_more : (after : Run) (x : Labelled) → i < length old → Under input old r here i → Saw r bs after (Ok x) → Under input old after (set here i x) (i + 1)
  under_more after x room u s =
      let t : Taken r bs after x = taken r bs after x s in
      let es : List Event = events input in
      subst (Under input old after (set here i x)) (sym (add-one i)) (record {
        refused = u.refused ∙ ap (first_refusal r i) next ∙ refusal-on r i bs (rest_from input (suc i)) t.faultless
            ∙ ap (λ y. first_refusal y (suc i) (rest_from input (suc i))) (sym t.after_is);
        tally-is = ap (λ y. y.tally) t.after_is ∙ ap₂ tallied u.tally-is own ∙ sym (tally-next none_yet es i past_end within);
        noted-are = ap₂ (λ (l : List Labelled) (y : Labelled). set l i y) u.noted-are
            (t.record-is ∙ ap₂ (λ (s : Tally) (e : Event). labelled_as (belongs s e) e) u.tally-is own)
            ∙ noted-next es old i within room;
      })

  -- one with a fault
  stop-refused : (after : Run) (n : ℕ) → Under input old r here i → Saw r bs after (Err n)
      → (first_refusal start 0 (records_of input) ≡ record { number = n; place = i }) × (n ≢ 0) × (after.tally ≡ r.tally)
  stop-refused after n u s =
      let t : Stopped r bs after n = stopped r bs after n s in
      let f = u.refused ∙ ap (first_refusal r i) next ∙ refusal-at r i bs (rest_from input (suc i)) t.number t.fault-is in
      (f ∙ ap (λ m. record { number = m; place = i }) (sym t.number_is), λ z. absurd (omega (arith, t.number_is, z)), t.uncounted)

-- ---- The three ways to the end

-- the events before the fault
sound-at : (input : List ℕ) (n k : ℕ) → input_refusal input ≡ record { number = n; place = k } → n ≢ 0 → sound_events input ≡ take k (events input)
unfolding sound_events
sound-at input zero k h some = absurd (some refl)
sound-at input (suc n) k h some = rw (ap (λ f. f.number) h, sound_events) (ap (λ f. take f.place (events input)) h)

pub sound-all : (input : List ℕ) → (input_refusal input).number ≡ 0 → sound_events input ≡ events input
unfolding sound_events
sound-all input h = rw (h, sound_events)

-- the refusal, the events before it, and what was noted, are all that is found
found : (input : List ℕ) (old : List Labelled) (f : Refusal) (es : List Event) (n : ℕ) (here : List Labelled)
    → input_refusal input ≡ f → sound_events input ≡ es → n ≡ transactions es → here ≡ noted es old
    → ◌≡◌ {A = Looking} (record { refusal = f; transactions = n; records = here }) (looked input old)
unfolding looked noted
found input old f es n here is_f is-es is-n is-here =
    ap₂ (λ (m : ℕ) (a : List Labelled). record { refusal = f; transactions = m; records = a }) is-n is-here
    ∙ ap₂ (λ (g : Refusal) (l : List Event). record { refusal = g; transactions = transactions l; records = noted l old }) (sym is_f) (sym is-es)

-- 1 or 2
pub looked-unfit : (input : List ℕ) (old : List Labelled) (n : ℕ) → first_fault (input_checks input) ≡ n → n ≢ 0
    → ◌≡◌ {A = Looking} (record { refusal = record { number = n; place = 0 }; transactions = 0; records = old }) (looked input old)
unfolding transactions tally_from none_yet noted over labelled_from
looked-unfit input old n h some =
    let is_f : input_refusal input ≡ record { number = n; place = 0 } = size-refused (input_checks input) input n h some in
    found input old (record { number = n; place = 0 }) [] 0 old is_f (sound-at input n 0 is_f some) refl refl

module _ (input : List ℕ) (fit : first_fault (input_checks input) ≡ 0) (old : List Labelled) (r : Run) (here : List Labelled) (i : ℕ) (u : Under input old r here i) where
  count-is : r.tally.count ≡ transactions (take i (events input))
  unfolding transactions
  count-is = ap (λ t. t.count) u.tally-is

  -- a fault at record i
  pub looked-stop : i < length input / 8 → (bs : List ℕ) → bs ≡ record_in input i → (after : Run) (n : ℕ) → Saw r bs after (Err n)
      → ◌≡◌ {A = Looking} (record { refusal = record { number = n; place = i }; transactions = after.tally.count; records = here }) (looked input old)
  looked-stop more bs is after n s =
      let f = stop-refused input old r here i more bs is after n u s in
      let is_f : input_refusal input ≡ record { number = n; place = i } = size-passed (input_checks input) input fit ∙ f.0 in
      found input old (record { number = n; place = i }) (take i (events input)) after.tally.count here is_f (sound-at input n i is_f f.1) (ap (λ t. t.count) f.2 ∙ count-is) u.noted-are

  -- no fault
  pub looked-end : i ≡ length input / 8 → ◌≡◌ {A = Looking} (record { refusal = no_refusal; transactions = r.tally.count; records = here }) (looked input old)
  unfolding first_refusal
  looked-end e =
      let is_f : input_refusal input ≡ no_refusal = size-passed (input_checks input) input fit ∙ u.refused ∙ ap (first_refusal r i) (rest-none input i (omega (arith, e))) in
      found input old no_refusal (take i (events input)) r.tally.count here is_f
      (sound-all input (ap (λ f. f.number) is_f) ∙ sym (take_all i (events input) (omega (arith, events-size input, e)))) count-is u.noted-are
