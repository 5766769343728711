-- Laws of the whole promise: a recording that is refused, and one that is not.
use Prim.Native.Nat.{ℕ, zero, suc, ◌/◌, ◌≤◌}
use native.Mathlib.Omega.{arith}
use mathlib.Core.Path.{◌≡◌, refl, sym, ap, ◌∙◌, subst}
use mathlib.Core.List.{List, [], ◌∷◌, ◌++◌}
use lib.Dec.{leb}
use lib.ListN.{length, take, drop, replicate, length-replicate}
use borrow.Author.Tests.{leb-true}
use Rattle.std.specs.Prelude.{Some, None, Result, Ok, Err, IsErrAnd}
use Rattle.record.specs.declared.Fault.{Fault}
use Rattle.record.specs.declared.Refusal.{Refusal as Given}
use Rattle.record.specs.Faults.{Refusal, Check, check, first_fault}
use Rattle.record.specs.Answers.{Numbers, number, refusal_of, refusal_in, refused_as, at_no_record, Ending}
use Rattle.record.proofs.Laws.{none_first, number-some}
use Rattle.lists.specs.Lists.{over}
use Rattle.rows.specs.Bits.{begun}
use Rattle.rows.proofs.Laws.{length-begun, rest-begun}
use Rattle.graph.specs.declared.Labelled.{Labelled}
use Rattle.graph.specs.Transactions.{none_yet, transactions, work_size, labelled}
use Rattle.graph.specs.Violation.{shortest}
use Rattle.graph.specs.Named.{named}
use Rattle.graph.proofs.Labels.{labelled-events}
use Rattle.graph.proofs.Round.{labelled-length}
use Rattle.ancestors.specs.Ancestors.{Stands, Found}
use Rattle.ancestors.specs.Search.{Searched}
use Rattle.ancestors.proofs.Standing.{begun-stands}
use Rattle.looking.specs.declared.Looked.{Looked}
use Rattle.looking.specs.Refusals.{input_checks, refused_by, events}
use Rattle.looking.specs.Looked.{Looking, looked}
use Rattle.looking.proofs.Refusing.{size-refused, sizes-passed, inputs-next, inputs-passed, more-passed}
use Rattle.looking.proofs.Laws.{Passed, passed, Noted, looked-refusal, looked-noted}
use Rattle.looking.proofs.Scanned.{events-size}
use Rattle.checker.specs.declared.Answer.{Answer}
use Rattle.checker.specs.declared.Answer.TheVariants.{Refused}
use Rattle.checker.specs.Verdict.{numbers, verdict}
use Rattle.checker.specs.Judged.{size_checks, refusal, judged}
use Rattle.checker.specs.Left.{records_left, order_left}
use Rattle.checker.specs.Concluded.{Sound, FindsShortest, refused_in, Whole, LookedAt, history, Ready, Concluded}

-- the three contents that are left
abbrev pub left : Numbers → List ℕ → List ℕ → Ending
left a o w = record { answer = a; out = o; work = w }

-- ---- Looking, with the sizes tried before

module _ (input out work : List ℕ) where
  abbrev pub more : List Check
  more = check 3 0 (leb (length input) (length out)) ∷ check 4 0 (leb work_size (length work)) ∷ []

  refusal_is : refusal input out work ≡ refused_by (size_checks input out work) input
  unfolding refusal
  refusal_is = refl

  records-kept : (old : List Labelled) (n : ℕ) → first_fault (size_checks input out work) ≡ suc n → records_left input out work old ≡ old
  unfolding records_left
  records-kept old n h = rw (h, records_left)

  pub records-looked : (old : List Labelled) → first_fault (size_checks input out work) ≡ 0 → records_left input out work old ≡ (looked input old).records
  unfolding records_left
  records-looked old h = rw (h, records_left)

  -- a recording that isn't refused: its sizes, and what looking finds
  pub sizes-of : (refusal input out work).number ≡ 0 → first_fault (size_checks input out work) ≡ 0
  unfolding refusal
  sizes-of fine = sizes-passed (size_checks input out work) input fine

  -- a size is refused: nothing changes
  pub looked-sizes : (old : List Labelled) (r : Result ℕ Given) (f : Fault) → IsErrAnd r (λ e. e ≡ at_no_record f) → number f ≡ first_fault (size_checks input out work)
      → LookedAt input out work old r old
  looked-sizes old (Ok n) f h is = absurd h
  looked-sizes old (Err e) f h is = record {
    refusal_is = ap refusal_of h ∙ sym (refusal_is ∙ size-refused (size_checks input out work) input (number f) (sym is) (number-some f));
    records-are = go (number f) refl;
    whole = λ n q. absurd (ok-err q);
  }
    where
      ok-err : {n : ℕ} {e : Given} → ◌≡◌ {A = Result ℕ Given} (Err e) (Ok n) → ⊥
      ok-err q = cc

      go : (m : ℕ) → number f ≡ m → old ≡ records_left input out work old
      go zero q = absurd (number-some f q)
      go (suc m) q = sym (records-kept old m (sym is ∙ q))

  -- the sizes are right
  module _ (fine : first_fault (size_checks input out work) ≡ 0) where
    rooms : (length input ≤ length out) × (work_size ≤ length work)
    unfolding size_checks
    rooms =
        let first : first_fault (input_checks input) ≡ 0 = inputs-passed input more fine in
        let two : first_fault more ≡ 0 = sym (inputs-next input more first) ∙ fine in
        let c = none_first 3 0 (leb (length input) (length out)) _ (omega arith) two in
        let d = none_first 4 0 (leb work_size (length work)) [] (omega arith) c.1 in
        (leb-true (length input) (length out) c.0, leb-true work_size (length work) d.0)

    refused-alike : refusal input out work ≡ refused_by (input_checks input) input
    unfolding refusal size_checks
    refused-alike = more-passed input more fine

    pub looked-none : (refusal input out work).number ≡ 0 → (old : List Labelled) → (looked input old).refusal.number ≡ 0
    looked-none none old = ap (λ r. r.number) (sym (refused-alike ∙ looked-refusal input old (looked input old) refl)) ∙ none

    module _ (old : List Labelled) (l : Looked) (xs : List Labelled)
        (is : ◌≡◌ {A = Looking} (record { refusal = refusal_in l.refusal; transactions = l.transactions; records = xs }) (looked input old)) where
      abbrev now : Looking
      now = record { refusal = refusal_in l.refusal; transactions = l.transactions; records = xs }

      alike : refusal_in l.refusal ≡ refusal input out work
      alike = sym (refused-alike ∙ looked-refusal input old now is)

      records-are : xs ≡ records_left input out work old
      records-are = ap (λ x. x.records) is ∙ sym (records-looked old fine)

      pub looked_some : (e : Given) → l.refusal ≡ Some e → LookedAt input out work old (Err e) xs
      looked_some e some = record { refusal_is = ap refusal_in (sym some) ∙ alike; records-are = records-are; whole = λ n q. absurd (ok-err q) }
        where
          ok-err : {n : ℕ} {e : Given} → ◌≡◌ {A = Result ℕ Given} (Err e) (Ok n) → ⊥
          ok-err q = cc

      pub looked_ok : l.refusal ≡ None → LookedAt input out work old (Ok l.transactions) xs
      looked_ok none = record {
        refusal_is = ap refusal_in (sym none) ∙ alike;
        records-are = records-are;
        whole = λ n q.
            let zero-is : (refusal_in l.refusal).number ≡ 0 = ap (λ o. (refusal_in o).number) none in
            let p : Passed input = passed input (ap (λ x. x.number) (looked-refusal input old now is) ∙ zero-is) in
            let f : Noted input xs l.transactions = looked-noted input old now is zero-is in
            record {
              size = omega (arith, p.whole);
              are = f.are;
              sound = record { most = omega (arith, events-size input, p.most); few = p.few; can-be = p.can-be; in-range = p.in-range };
              counted = sym (same q) ∙ f.counted;
              long = rooms.1;
              out-room = rooms.0;
            };
      }
        where
          same : {m n : ℕ} → ◌≡◌ {A = Result ℕ Given} (Ok m) (Ok n) → m ≡ n
          same q = cc

-- ---- A recording that is refused

module _ (input out work : List ℕ) (old : List Labelled) (r : Result ℕ Given) (xs : List Labelled) (f : LookedAt input out work old r xs) where
  module _ (e : Given) (some : r ≡ Err e) where
    given : refusal_of e ≡ refusal input out work
    given = ap refused_in (sym some) ∙ f.refusal_is

    again : (P : Refusal → Type 0) → ((n k : ℕ) → refusal input out work ≡ record { number = suc n; place = k } → P (record { number = suc n; place = k })) → P (refusal_of e)
    again P h = at (number e.fault) refl
      where
        at : (n : ℕ) → number e.fault ≡ n → P (refusal_of e)
        at zero q = absurd (number-some e.fault q)
        at (suc n) q =
            let same : refusal_of e ≡ record { number = suc n; place = e.place } = ap (λ m. record { number = m; place = e.place }) q in
            subst P (sym same) (h n e.place (sym given ∙ same))

    judged-at : (n k : ℕ) → refusal input out work ≡ record { number = suc n; place = k } → left (refused_as (record { number = suc n; place = k })) out work ≡ judged input out work
    unfolding judged
    judged-at n k h = sym (rw (h, judged) (ap (λ r. left (refused_as r) out work) h))

    pub judged-refused : left (numbers (Refused e)) out work ≡ judged input out work
    judged-refused = again (λ r. left (refused_as r) out work ≡ judged input out work) judged-at

    order-at : (order : List ℕ) (n k : ℕ) → refusal input out work ≡ record { number = suc n; place = k } → order ≡ order_left input out work order
    unfolding order_left
    order-at order n k h = sym (rw (h, order_left))

    pub order-refused : (order : List ℕ) → order ≡ order_left input out work order
    order-refused order = again (λ r. order ≡ order_left input out work order) (order-at order)

  -- ---- A recording that isn't

  module _ (n : ℕ) (none : r ≡ Ok n) where
    no-refusal : (refusal input out work).number ≡ 0
    no-refusal = ap (λ x. x.number) (sym f.refusal_is) ∙ ap (λ x. (refused_in x).number) none

    whole : Whole input out work xs n
    whole = f.whole n none

    -- its records
    abbrev pub seen : List Labelled
    seen = take (length input / 8) xs

    history_is : history seen ≡ events input
    history_is = ap history whole.are ∙ labelled-events none_yet (events input)

    pub seen-most : length input / 8 ≤ 1024
    seen-most = omega (arith, events-size input, whole.sound.most)

    seen-size : length seen ≡ length input / 8
    seen-size = ap length whole.are ∙ labelled-length none_yet (events input) ∙ events-size input

    module _ (start : List ℕ) (start_is : start ≡ begun n work) where
      -- the rows begun stand for no edges
      begun-none : Stands (transactions (events input)) start []
      begun-none = subst (λ v. Stands (transactions (events input)) v []) (sym (start_is ∙ ap (λ m. begun m work) whole.counted))
          (begun-stands (transactions (events input)) work whole.sound.few whole.long)

      -- what an engine finds
      pub found : (finds : List ℕ → List Labelled → Searched) → FindsShortest finds → (prefix : ℕ) (w : List ℕ)
          → ◌≡◌ {A = Searched} (record { prefix = prefix; rows = w }) (finds start seen) → Found (events input) start prefix w
      found finds right prefix w is =
          subst (λ s. Found (events input) start s.prefix s.rows) (sym (is ∙ ap (finds start) whole.are)) (right (events input) whole.sound start begun-none)

      module _ (prefix : ℕ) (w : List ℕ) (find : Found (events input) start prefix w) where
        start-long : length start ≡ length work
        start-long = ap length start_is ∙ length-begun n work whole.long

        pub ready : Ready seen n prefix w out
        ready =
            let h : events input ≡ history seen = sym history_is in
            record {
              are = whole.are ∙ ap labelled h;
              sound = subst Sound h whole.sound;
              counted = whole.counted ∙ ap transactions h;
              found = subst (λ es. Found es w prefix w) h (record { first = find.first; stands = find.stands; row = find.row; size = refl; rest = refl });
              long = omega (arith, find.size, start-long, whole.long);
              out-room = omega (arith, seen-size, whole.size, whole.out-room);
            }

        cleared-same : over (replicate work_size 0) w ≡ over (replicate work_size 0) work
        unfolding over
        cleared-same =
            let n₀ : ℕ = work_size in
            let z : ℕ = 0 in
            ap (λ t. replicate n₀ z ++ t) (subst (λ k. drop k w ≡ drop k work) (sym (length-replicate n₀ z)) (find.rest ∙ ap (drop work_size) start_is ∙ rest-begun n work whole.long))

        judged-passed : (x : Numbers) (o v : List ℕ) → x ≡ (verdict (events input)).answer → o ≡ over (verdict (events input)).written out → v ≡ over (replicate work_size 0) work
            → left x o v ≡ judged input out work
        unfolding judged
        judged-passed x o v p q r = sym (rw (no-refusal, judged, p, q, r))

        order-passed : (order order' : List ℕ) → order' ≡ over (named (events input) (shortest (events input))) order → order' ≡ order_left input out work order
        unfolding order_left
        order-passed order order' p = p ∙ sym (rw (no-refusal, order_left))

        module _ (order : List ℕ) (x : Answer) (out' work' order' : List ℕ) (end : Concluded (history seen) out w order x out' work' order') where
          ended : Concluded (events input) out w order x out' work' order'
          ended = subst (λ es. Concluded es out w order x out' work' order') history_is end

          pub judged-whole : left (numbers x) out' work' ≡ judged input out work
          judged-whole = judged-passed (numbers x) out' work' ended.written.answer ended.written.written (ended.cleared ∙ cleared-same)

          pub order-whole : order' ≡ order_left input out work order
          order-whole = order-passed order order' ended.all_named
