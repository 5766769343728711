-- Laws of what a judgement leaves besides the answer, for those who go on from it: the array holds the recording, and the front of the order the
-- transactions that the answer names. And of the lines that are reported.
use Prim.Native.Nat.{ℕ, zero, suc, ◌/◌, ◌≤◌}
use native.Mathlib.Omega.{arith}
use mathlib.Core.Path.{◌≡◌, refl, sym, ap, ap₂, ◌∙◌, subst, fun_ext}
use mathlib.Core.Logic.{◌≢◌}
use mathlib.Core.List.{List, [], ◌∷◌, map}
use lib.ListN.{length, get_or, take}
use Rattle.record.specs.declared.Event.{Event}
use Rattle.record.specs.Faults.{first_fault}
use Rattle.lists.specs.Lists.{over}
use Rattle.lists.proofs.Lists.{Among, at-among, over-front}
use Rattle.graph.specs.declared.Labelled.{Labelled}
use Rattle.graph.specs.Transactions.{none_yet, labelled}
use Rattle.graph.specs.Violation.{shortest}
use Rattle.graph.specs.Named.{named}
use Rattle.graph.proofs.Round.{labelled-length}
use Rattle.graph.proofs.Sizes.{order-size, cycle-most}
use Rattle.looking.specs.Refusals.{events}
use Rattle.looking.specs.Looked.{looked}
use Rattle.looking.proofs.Laws.{Noted, noted-few, looked-noted}
use Rattle.looking.proofs.Scanned.{events-size}
use Rattle.checker.specs.declared.Answer.{Answer}
use Rattle.checker.specs.declared.Answer.TheVariants.{Cooperable, Violation, Refused}
use Rattle.checker.specs.declared.Line.{Line}
use Rattle.checker.specs.Verdict.{numbers, cooperable, violation}
use Rattle.checker.specs.Judged.{size_checks, refusal, judged}
use Rattle.checker.specs.Report as Report
use Rattle.checker.specs.Report.{reported}
use Rattle.checker.specs.Left.{records_left, order_left}
use Rattle.graph.specs.Held.{record_past_end}
use Rattle.checker.specs.Writing.{Few, line_of}
use Rattle.checker.specs.Concluded.{named_in}
use Rattle.checker.proofs.Judging.{left, records-looked, looked-none, sizes-of}
use Rattle.checker.proofs.Demand3.{passed, is-cooperable, is-violation, refused-keeps}
use Rattle.checker.proofs.Ending.{named-serial, named-cycle, over-long}

module _ (input out work : List ℕ) (fine : (refusal input out work).number ≡ 0) where
  abbrev es : List Event
  es = events input

  -- at most 512 transactions are named
  pub named-most : length (named es (shortest es)) ≤ 512
  named-most = go (shortest es) refl
    where
      go : (p : ℕ) → shortest es ≡ p → length (named es (shortest es)) ≤ 512
      go zero h = omega (arith, ap length (named-serial es h), order-size es h, (passed input out work fine).few)
      go (suc k) h = omega (arith, ap length (named-cycle es k h), cycle-most es (suc k), (passed input out work fine).few)

  -- the answer says how many
  pub named_count : (x : Answer) (o w : List ℕ) → left (numbers x) o w ≡ judged input out work → named_in x ≡ length (named es (shortest es))
  unfolding cooperable violation
  named_count x o w is = go (shortest es) refl x (ap (λ e. e.answer) is)
    where
      go : (p : ℕ) → shortest es ≡ p → (y : Answer) → numbers y ≡ (judged input out work).answer → named_in y ≡ length (named es (shortest es))
      go zero h (Cooperable n t) q = ap (λ z. z.second) (q ∙ ap (λ e. e.answer) (is-cooperable input out work fine h)) ∙ sym (order-size es h) ∙ ap length (sym (named-serial es h))
      go zero h (Violation k m) q = absurd (omega (arith, ap (λ z. z.kind) (q ∙ ap (λ e. e.answer) (is-cooperable input out work fine h))))
      go zero h (Refused r) q = absurd (omega (arith, ap (λ z. z.kind) (q ∙ ap (λ e. e.answer) (is-cooperable input out work fine h))))
      go (suc k) h (Violation j m) q = ap (λ z. z.second) (q ∙ ap (λ e. e.answer) (is-violation input out work fine k h)) ∙ ap length (sym (named-cycle es k h))
      go (suc k) h (Cooperable n t) q = absurd (omega (arith, ap (λ z. z.kind) (q ∙ ap (λ e. e.answer) (is-violation input out work fine k h))))
      go (suc k) h (Refused r) q = absurd (omega (arith, ap (λ z. z.kind) (q ∙ ap (λ e. e.answer) (is-violation input out work fine k h))))

  -- the array holds the recording
  pub left-noted : (old xs : List Labelled) → xs ≡ records_left input out work old → Noted input xs (looked input old).transactions
  left-noted old xs is =
      let sizes : first_fault (size_checks input out work) ≡ 0 = sizes-of input out work fine in
      let none : (looked input old).refusal.number ≡ 0 = looked-none input out work sizes fine old in
      subst (λ l. Noted input l (looked input old).transactions) (sym (is ∙ records-looked input out work old sizes)) (looked-noted input old (looked input old) refl none)

  -- the front of the order is what is named
  order-named : (order : List ℕ) → order_left input out work order ≡ over (named es (shortest es)) order
  unfolding order_left
  order-named order = rw (fine, order_left)

  pub left-named : (order order' : List ℕ) → order' ≡ order_left input out work order → (k : ℕ) → k ≡ length (named es (shortest es)) → take k order' ≡ named es (shortest es)
  left-named order order' is k count = ap₂ take count (is ∙ order-named order) ∙ over-front (named es (shortest es)) order

  pub left-long : (order order' : List ℕ) → order' ≡ order_left input out work order → length (named es (shortest es)) ≤ length order'
  left-long order order' is = omega (arith, ap length (is ∙ order-named order), over-long (named es (shortest es)) order)

  pub left-size : (order order' : List ℕ) → order' ≡ order_left input out work order → (k : ℕ) → k ≡ length (named es (shortest es)) → k ≡ length (take k order')
  left-size order order' is k count = count ∙ ap length (sym (left-named order order' is k count))

  -- there are as many records, and they are of few transactions
  pub noted-size : (xs : List Labelled) (n : ℕ) → Noted input xs n → length input / 8 ≡ length (take (length input / 8) xs)
  noted-size xs n f = sym (ap length f.are ∙ labelled-length none_yet es ∙ events-size input)

  pub noted-front : (xs : List Labelled) (n : ℕ) → Noted input xs n → (length (take (length input / 8) xs) ≤ 1024) × Few (take (length input / 8) xs)
  noted-front xs n f =
      let p = passed input out work fine in (
        omega (arith, noted-size xs n f, p.most),
        λ i h. noted-few input p _ (subst (Among (get_or (take (length input / 8) xs) i record_past_end)) f.are (at-among (take (length input / 8) xs) i record_past_end h)),
      )

  reported-fine : (lines : List Line) → reported input out work lines ≡ over (Report.lines es) lines
  unfolding reported
  reported-fine lines = rw (fine, reported)

  line-is : (a : ℕ) → line_of (labelled es) a ≡ Report.line es a
  unfolding line_of Report.line
  line-is a = refl

  -- so the lines that are written for the named transactions are those to be reported
  pub reported-some : (xs : List Labelled) (n : ℕ) → Noted input xs n → (order order' : List ℕ) → order' ≡ order_left input out work order → (k : ℕ) → k ≡ length (named es (shortest es))
      → (lines lines' : List Line) → lines' ≡ over (map (line_of (take (length input / 8) xs)) (take k order')) lines → lines' ≡ reported input out work lines
  unfolding Report.lines
  reported-some xs n f order order' is k count lines lines' p =
      p
      ∙ ap (λ l. over l lines) (ap₂ (λ ys l. map (line_of ys) l) f.are (left-named order order' is k count) ∙ ap (λ g. map g (named es (shortest es))) (fun_ext line-is))
      ∙ sym (reported-fine lines)

-- Where no transaction is named, nothing is reported
module _ (input out work : List ℕ) (x : Answer) (o w : List ℕ) (is : left (numbers x) o w ≡ judged input out work) where
  -- a refused recording names none
  refused_none : (n : ℕ) → (refusal input out work).number ≡ suc n → named_in x ≡ 0
  refused_none n h = go x (ap (λ e. e.answer) (is ∙ refused-keeps input out work n h))
    where
      go : (y : Answer) → numbers y ≡ record { kind = 2; first = suc n; second = (refusal input out work).place } → named_in y ≡ 0
      go (Cooperable m t) q = absurd (omega (arith, ap (λ z. z.kind) q))
      go (Violation k m) q = absurd (omega (arith, ap (λ z. z.kind) q))
      go (Refused r) q = refl

  pub told-some : named_in x ≢ 0 → (refusal input out work).number ≡ 0
  told-some some = go (refusal input out work).number refl
    where
      go : (n : ℕ) → (refusal input out work).number ≡ n → (refusal input out work).number ≡ 0
      go zero h = h
      go (suc n) h = absurd (some (refused_none n h))

  reported-at : (lines : List Line) (n : ℕ) → (refusal input out work).number ≡ suc n → reported input out work lines ≡ lines
  unfolding reported
  reported-at lines n h = rw (h, reported)

  pub told_none : named_in x ≡ 0 → (lines : List Line) → lines ≡ reported input out work lines
  unfolding Report.lines over
  told_none none lines = go (refusal input out work).number refl
    where
      empty : (l : List ℕ) → length l ≡ 0 → l ≡ []
      empty [] h = refl
      empty (y ∷ l) h = absurd (omega arith)

      go : (n : ℕ) → (refusal input out work).number ≡ n → lines ≡ reported input out work lines
      go zero h = ap (λ l. over (map (Report.line (events input)) l) lines) (sym (empty (named (events input) (shortest (events input))) (sym (named_count input out work h x o w is) ∙ none)))
          ∙ sym (reported-fine input out work h lines)
      go (suc n) h = sym (reported-at lines n h)
