-- Laws of the whole promise: a recording that is refused, one whose text doesn't fit, and one whose text is written.
use Prim.Native.Nat.{ℕ, zero, suc, ◌/◌, ◌<◌, ◌≤◌}
use native.Mathlib.Omega.{arith}
use mathlib.Core.Path.{◌≡◌, refl, sym, ap, ap₂, ◌∙◌, subst}
use mathlib.Core.Logic.{◌≢◌}
use mathlib.Core.List.{List, [], ◌++◌}
use lib.Dec.{leb}
use Rattle.std.specs.Prelude.{Result, Ok, Err}
use Rattle.std.specs.Result.{IsErrAnd}
use lib.ListN.{length, take, drop, replicate, length-replicate}
use borrow.Author.Tests.{le-leb, lt-leb, leb-true}
use Rattle.lists.specs.Lists.{over, written_at}
use Rattle.lists.proofs.Lists.{at-among}
use Rattle.lists.proofs.Places.{written_start}
use Rattle.record.specs.declared.Event.{Event}
use Rattle.record.specs.Faults.{Refusal, first_fault}
use Rattle.record.specs.declared.Fault.{Fault}
use Rattle.record.specs.declared.Refusal.{Refusal as Given}
use Rattle.record.specs.Answers.{number, at_no_record, refusal_of, Numbers, refused_as, bytes_or_refused, Ending}
use Rattle.record.proofs.Laws.{none_first}
use Rattle.trace.specs.Paths.{has_edge}
use Rattle.rows.specs.Bits.{cleared}
use Rattle.rows.proofs.Laws.{cleared-is}
use Rattle.graph.specs.declared.Labelled.{Labelled}
use Rattle.graph.specs.Transactions.{labelled, transactions, work_size}
use Rattle.graph.specs.Edges.{edges}
use Rattle.looking.specs.Refusals.{events}
use Rattle.looking.specs.Looked.{Looking, looked}
use Rattle.looking.proofs.Refusing.{inputs-passed, inputs-next, size-refused, more-passed}
use Rattle.looking.proofs.Laws.{Passed, passed, passed-more, Noted, looked-refusal, looked-noted, noted-few}
use Rattle.picture.specs.Picture.{drawing, picture}
use Rattle.picture.specs.Drawn.{written_as, size_checks, refusal, Put, fitted, drawn}
use Rattle.picture.specs.Linking.{Few, Links}
use Rattle.picture.specs.Putting.{text_of}
use Rattle.picture.proofs.Texts.{text-is}

-- ---- An answer in numbers

-- a fault passed on by `?`
pub refused_by_fault : (r : Result ℕ Given) (f : Fault) → IsErrAnd r (λ e. e ≡ at_no_record f) → bytes_or_refused r ≡ refused_as (record { number = number f; place = 0 })
refused_by_fault (Ok n) f h = absurd h
refused_by_fault (Err e) f h = ap (λ r. refused_as (refusal_of r)) h

-- ---- Not refused

-- the work area is long enough
pub work-long : (input work : List ℕ) → first_fault (size_checks input work) ≡ 0 → 4096 ≤ length work
unfolding size_checks
work-long input work h =
    let c = none_first 4 0 (leb work_size (length work)) [] (omega arith) (sym (inputs-next input _ (inputs-passed input _ h)) ∙ h) in
    leb-true work_size (length work) c.0

-- there are at most 512 transactions
pub refusal-few : (input work : List ℕ) → (refusal input work).number ≡ 0 → transactions (events input) ≤ 512
unfolding size_checks
refusal-few input work none = (passed-more input _ none).few

-- ---- Refused

abbrev pub left : Numbers → List ℕ → List ℕ → Ending
left a o w = record { answer = a; out = o; work = w }

module _ (input out work : List ℕ) where
  drawn-refused : (r : Refusal) → refusal input work ≡ r → r.number ≢ 0 → left (refused_as r) out work ≡ drawn input out work
  unfolding drawn
  drawn-refused r h some = go r.number refl
    where
      go : (n : ℕ) → r.number ≡ n → left (refused_as r) out work ≡ drawn input out work
      go zero q = absurd (some q)
      go (suc n) q = sym (rw (ap (λ f. f.number) h ∙ q, drawn) (ap (λ f. left (refused_as f) out work) h))

  -- with 1, 2 or 4
  pub drawn-unsized : (n : ℕ) → n ≡ first_fault (size_checks input work) → n ≢ 0 → left (refused_as (record { number = n; place = 0 })) out work ≡ drawn input out work
  drawn-unsized n h some = drawn-refused (record { number = n; place = 0 }) (size-refused (size_checks input work) input n (sym h) some) some

  drawn-fine : (p : Put) (w : List ℕ) → (refusal input work).number ≡ 0 → p ≡ fitted (picture (events input)) out → w ≡ over (replicate work_size 0) work
      → left p.answer p.out w ≡ drawn input out work
  unfolding drawn
  drawn-fine p w h q e = sym (rw (h, drawn, q, e))

  -- ---- Looked through

  module _ (sized : first_fault (size_checks input work) ≡ 0) (old : List Labelled) (l : Looking) (is : l ≡ looked input old) where
    refusal_is : refusal input work ≡ l.refusal
    unfolding size_checks
    refusal_is = more-passed input _ sized ∙ looked-refusal input old l is

    -- with the number of the first record that has a fault
    pub drawn-faulty : l.refusal.number ≢ 0 → left (refused_as l.refusal) out work ≡ drawn input out work
    drawn-faulty some = drawn-refused l.refusal refusal_is some

    module _ (none : l.refusal.number ≡ 0) where
      all-passed : Passed input
      all-passed = passed input (ap (λ f. f.number) (looked-refusal input old l is) ∙ none)

      all_noted : Noted input l.records l.transactions
      all_noted = looked-noted input old l is none

      -- the records that are linked
      abbrev all : List Labelled
      all = take (length input / 8) l.records

      pub all_few : Few all
      all_few = subst Few (sym all_noted.are) (λ i d h. noted-few input all-passed _ (at-among (labelled (events input)) i d h))

      pub most : length input / 8 ≤ 1024
      most = all-passed.most

      pub count-few : l.transactions ≤ 512
      count-few = omega (arith, all_noted.counted, all-passed.few)

      -- ---- Linked and put

      module _ (w : List ℕ) (links : Links all w) (rest : drop 4096 w ≡ drop 4096 work) where
        text-right : text_of w l.transactions ≡ picture (events input)
        unfolding picture
        text-right =
            let es : List Event = events input in
            text-is w l.transactions (edges (labelled es)) count-few
            (λ a b ha hb. links.is a b ha hb ∙ ap (λ xs. has_edge (edges xs) a b) all_noted.are)
            ∙ ap (λ k. drawing k (edges (labelled es))) all_noted.counted

        cleared-right : cleared w ≡ over (replicate work_size 0) work
        unfolding over
        cleared-right =
            let k : ℕ = work_size in
            let z : ℕ = 0 in
            cleared-is w links.long ∙ ap (λ v. replicate k z ++ v) (rest ∙ ap (λ m. drop m work) (sym (length-replicate k z)))

        pub drawn-put : (a : Numbers) (out' w' : List ℕ) → ◌≡◌ {A = Put} (record { answer = a; out = out' }) (fitted (text_of w l.transactions) out) → w' ≡ cleared w
            → left a out' w' ≡ drawn input out work
        drawn-put a out' w' p c =
            drawn-fine (record { answer = a; out = out' }) w' (ap (λ f. f.number) refusal_is ∙ none) (p ∙ ap (λ t. fitted t out) text-right) (c ∙ cleared-right)

-- ---- Where the text fits, and where it doesn't

pub fitted-not : (text out : List ℕ) → length out < length text → ◌≡◌ {A = Put} (record { answer = refused_as (record { number = 3; place = 0 }); out = out }) (fitted text out)
unfolding fitted
fitted-not text out h = sym (rw (lt-leb (length text) (length out) h, fitted))

pub fitted-all : (text out out' : List ℕ) (n : ℕ) → n ≡ length text → n ≤ length out → out' ≡ written_at out 0 text
    → ◌≡◌ {A = Put} (record { answer = written_as n; out = out' }) (fitted text out)
unfolding fitted
fitted-all text out out' n e h p =
    ap₂ (λ (k : ℕ) (o : List ℕ). record { answer = written_as k; out = o }) e (p ∙ written_start out text)
    ∙ sym (rw (le-leb (length text) (length out) (omega (arith, e, h)), fitted))
