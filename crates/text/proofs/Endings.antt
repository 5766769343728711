-- Laws of the whole answer: each way in which the two public functions end.
use Prim.Native.Nat.{ℕ, ◌*◌, ◌%◌, ◌≤◌, ◌<◌}
use native.Mathlib.Omega.{arith}
use mathlib.Core.Path.{◌≡◌, refl, sym, ap, ap₂, ◌∙◌}
use mathlib.Core.Logic.{◌≢◌}
use mathlib.Core.List.{List}
use lib.ListN.{length}
use borrow.Author.Tests.{le-leb, lt-leb, eq-eqb, ne_eqb}
use Rattle.std.specs.Prelude.{Result, Ok, Err}
use Rattle.std.specs.Result.{IsErrAnd}
use Rattle.lists.specs.Lists.{each, over}
use Rattle.record.specs.declared.Event.{Event}
use Rattle.record.specs.Faults.{first_fault, Refusal}
use Rattle.record.specs.declared.Refusal.{Refusal as Given}
use Rattle.record.specs.Answers.{number, refusal_of}
use Rattle.record.specs.Record.{encoded, decoded, records_of}
use Rattle.record.proofs.Laws.{number-some}
use Rattle.record.proofs.Numbers.{refusals-same}
use Rattle.text.specs.Line.{line_of, line_read}
use Rattle.text.specs.File.{ending, done, refused, first_refused, events, feeds, lines, read_checks, read_text, write_checks, write_text}
use Rattle.text.specs.Steps.{refusal_in, all_bytes}
use Rattle.text.proofs.Words.{lines-together}
use Rattle.text.proofs.Files.{none_read, line-counted, text-written, feeds-written, length-records, read-size, read-line-refused, read_done, write-size, write-record-refused, write-unfit, write_done, read-sizes, write-sizes}

-- ---- How a function ends

ends-refused : (r : Given) (n place : ℕ) (out : List ℕ) → refusal_of r ≡ record { number = n; place = place } → ending (Err r) out ≡ refused n place out
unfolding refused
ends-refused r n place out h = ap (λ (r : Refusal). record { answer = record { kind = 2; first = r.number; second = r.place }; out = out }) h

-- a refusal that is passed on
pub passed : {A : Type 0} (r : Result A Given) (f : Given) → IsErrAnd r (λ e. e ≡ f) → r ≡ Err f
passed (Ok x) f h = absurd h
passed (Err e) f h = ap Err h

-- what a pass over the parts says of its refusal tells its answer
pub passes-same : (a b : Result Unit Given) → refusal_in a ≡ refusal_in b → a ≡ b
passes-same (Ok u) (Ok v) e = refl
passes-same (Ok u) (Err s) e = absurd (number-some s.fault (sym (ap (λ x. x.number) e)))
passes-same (Err r) (Ok v) e = absurd (number-some r.fault (ap (λ x. x.number) e))
passes-same (Err r) (Err s) e = ap Err (refusals-same r s (ap (λ x. x.number) e) (ap (λ x. x.place) e))

ends-done : (n : ℕ) (bytes old out : List ℕ) → n ≡ length bytes → out ≡ over bytes old → ending (Ok n) out ≡ done bytes old
unfolding done
ends-done n bytes old out p q = ap₂ (λ m o. record { answer = record { kind = 0; first = m; second = 0 }; out = o }) p q

-- ---- Reading

module _ (text out : List ℕ) where
  pub over-feeds : 1024 < feeds text → first_fault (read_checks text out) ≡ 2
  unfolding read_checks first_fault
  over-feeds h = simp (lt-leb (feeds text) 1024 h)

  short-out : feeds text ≤ 1024 → length out < 8 * feeds text → first_fault (read_checks text out) ≡ 3
  unfolding read_checks first_fault
  short-out h l = simp (le-leb (feeds text) 1024 h, lt-leb (8 * feeds text) (length out) l)

  pub read-two : (r : Given) → 1024 < feeds text → refusal_of r ≡ record { number = 2; place = 0 } → ending (Err r) out ≡ read_text text out
  read-two r h e = ends-refused r 2 0 out e ∙ sym (read-size text out 2 (over-feeds h) (omega arith))

  pub read-three : (r : Given) → feeds text ≤ 1024 → length out < 8 * feeds text → refusal_of r ≡ record { number = 3; place = 0 } → ending (Err r) out ≡ read_text text out
  read-three r h l e = ends-refused r 3 0 out e ∙ sym (read-size text out 3 (short-out h l) (omega arith))

  module _ (few : feeds text ≤ 1024) (room : 8 * feeds text ≤ length out) where
    pub read-fourteen : (r : Given) → refusal_of r ≡ first_refused line_read 0 (lines text) → ending (Err r) out ≡ read_text text out
    read-fourteen r e =
        let some : number r.fault ≢ 0 = number-some r.fault in
        ends-refused r (first_refused line_read 0 (lines text)).number (first_refused line_read 0 (lines text)).place out e
        ∙ sym (read-line-refused text out (first_refused line_read 0 (lines text)) (read-sizes text out few room) refl (omega (arith, ap (λ i. i.number) e)))

    module _ (none : first_refused line_read 0 (lines text) ≡ record { number = 0; place = 0 }) where
      -- where all lines read there is room for their records
      pub records-fit : length (all_bytes encoded line_read (lines text)) ≤ length out
      unfolding all_bytes
      records-fit =
          let es : List Event = events line_read (lines text) in
          let w = text-written (lines text) es (none_read line_read line-counted 0 (lines text) (ap (λ i. i.number) none)) in
          let n : feeds text ≡ length es = sym (ap feeds (w.0 ∙ lines-together text)) ∙ feeds-written es in
          omega (arith, length-records es)

      pub read_all : (n : ℕ) (out' : List ℕ) → n ≡ length (all_bytes encoded line_read (lines text)) → out' ≡ over (all_bytes encoded line_read (lines text)) out
          → ending (Ok n) out' ≡ read_text text out
      unfolding all_bytes
      read_all n out' p q =
          ends-done n (each encoded (events line_read (lines text))) out out' p q
          ∙ sym (read_done text out (read-sizes text out few room) (ap (λ i. i.number) none))

-- ---- Writing

module _ (input out : List ℕ) where
  not-whole : length input % 8 ≢ 0 → first_fault (write_checks input) ≡ 1
  unfolding write_checks first_fault
  not-whole h = simp (ne_eqb (length input % 8) 0 h)

  too_long : length input % 8 ≡ 0 → 8192 < length input → first_fault (write_checks input) ≡ 2
  unfolding write_checks first_fault
  too_long h l = simp (eq-eqb (length input % 8) 0 h, lt-leb (length input) 8192 l)

  pub write-one : (r : Given) → length input % 8 ≢ 0 → refusal_of r ≡ record { number = 1; place = 0 } → ending (Err r) out ≡ write_text input out
  write-one r h e = ends-refused r 1 0 out e ∙ sym (write-size input out 1 (not-whole h) (omega arith))

  pub write_two : (r : Given) → length input % 8 ≡ 0 → 8192 < length input → refusal_of r ≡ record { number = 2; place = 0 } → ending (Err r) out ≡ write_text input out
  write_two r h l e = ends-refused r 2 0 out e ∙ sym (write-size input out 2 (too_long h l) (omega arith))

  module _ (whole : length input % 8 ≡ 0) (few : length input ≤ 8192) where
    pub write-faulty : (r : Given) → refusal_of r ≡ first_refused decoded 0 (records_of input) → ending (Err r) out ≡ write_text input out
    write-faulty r e =
        let some : number r.fault ≢ 0 = number-some r.fault in
        ends-refused r (first_refused decoded 0 (records_of input)).number (first_refused decoded 0 (records_of input)).place out e
        ∙ sym (write-record-refused input out (first_refused decoded 0 (records_of input)) (write-sizes input whole few) refl (omega (arith, ap (λ i. i.number) e)))

    module _ (none : first_refused decoded 0 (records_of input) ≡ record { number = 0; place = 0 }) where
      pub write-three : (r : Given) → length out < length (all_bytes line_of decoded (records_of input)) → refusal_of r ≡ record { number = 3; place = 0 } → ending (Err r) out ≡ write_text input out
      unfolding all_bytes
      write-three r l e = ends-refused r 3 0 out e ∙ sym (write-unfit input out (write-sizes input whole few) (ap (λ i. i.number) none) l)

      pub write-all : (n : ℕ) (out' : List ℕ) → length (all_bytes line_of decoded (records_of input)) ≤ length out → n ≡ length (all_bytes line_of decoded (records_of input)) → out' ≡ over (all_bytes line_of decoded (records_of input)) out
          → ending (Ok n) out' ≡ write_text input out
      unfolding all_bytes
      write-all n out' l p q =
          ends-done n (each line_of (events decoded (records_of input))) out out' p q
          ∙ sym (write_done input out (write-sizes input whole few) (ap (λ i. i.number) none) l)
