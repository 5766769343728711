-- From what the checker answers and leaves to what is told: the laws that the code cites.
use Prim.Native.Nat.{ℕ, zero, suc, ◌+◌, ◌/◌, ◌<◌, ◌≤◌}
use native.Mathlib.Omega.{arith}
use native.Mathlib.Numerals.{add-one}
use mathlib.Core.Path.{◌≡◌, refl, sym, ap, ap₂, ◌∙◌, subst, fun_ext}
use mathlib.Core.Logic.{inl, inr}
use mathlib.Core.List.{List, [], map, map-map}
use lib.ListN.{length, take}
use lib.Seq.{length-take-le}
use borrow.Author.Tests.{lt-ltb}
use Rattle.std.specs.Prelude.{Option, None, Some, Result, Ok, Err}
use Rattle.record.specs.declared.Event.{Event}
use Rattle.record.specs.Faults.{Refusal}
use Rattle.record.specs.Answers as Answers
use Rattle.record.specs.Answers.{Ending, refusal_of}
use Rattle.record.specs.declared.Refusal.{Refusal as Given}
use Rattle.lists.specs.Lists.{over, below}
use Rattle.lists.proofs.Lists.{Earliest, earliest}
use Rattle.graph.specs.declared.Labelled.{Labelled}
use Rattle.graph.specs.Transactions.{none_yet, labelled}
use Rattle.graph.specs.Violation.{cyclic_up_to, shortest, cycle_of}
use Rattle.graph.specs.Named.{named}
use Rattle.graph.proofs.Round.{labelled-length}
use Rattle.looking.specs.Refusals.{events}
use Rattle.looking.specs.Looked.{looked}
use Rattle.looking.proofs.Scanned.{events-size}
use Rattle.looking.proofs.Laws.{Passed, noted-prefix}
use Rattle.checker.specs.declared.Answer.{Answer}
use Rattle.checker.specs.declared.Answer.TheVariants as Checker
use Rattle.checker.specs.Verdict.{violation}
use Rattle.checker.specs.Verdict as Verdict
use Rattle.checker.specs.Judged.{refusal, judged}
use Rattle.checker.specs.Left.{records_left, order_left}
use Rattle.checker.proofs.Demand3.{passed, kind-cooperable, kind-violation, is-violation, refused-keeps}
use Rattle.checker.proofs.Ending.{named-cycle}
use Rattle.checker.proofs.Reporting.{named-most, left-noted, left-named, left-long, left-size}
use Rattle.reasons.specs.declared.Cause.{Cause}
use Rattle.reasons.specs.Why.{cause_of, origin_of, goal_of, cause_at, told, numbers, Asked, asked}
use Rattle.reasons.specs.Lines.{lines, explained}
use Rattle.reasons.specs.Telling.{line_at}
use Rattle.reasons.proofs.Right.{right, told-fine, told-edge}

-- What a violation at record k with a cycle of n transactions says of a recording, and of the records and the order that are left
pub record Violates (input out work : List ℕ) (records : List Labelled) (order : List ℕ) (k n : ℕ) : Type 0 where
  pub not-refused : (refusal input out work).number ≡ 0
  pub some : shortest (events input) ≡ suc k
  pub size : n ≡ length (cycle_of (events input) (suc k))
  pub cycle-is : take n order ≡ cycle_of (events input) (suc k)
  pub records-are : take (k + 1) records ≡ labelled (take (suc k) (events input))
  pub prefix-size : k + 1 ≡ length (take (k + 1) records)
  pub most : k < 1024
  pub few : n ≤ 512
  pub room : n ≤ length order
  pub front : n ≡ length (take n order)

prefix-within : (es : List Event) (k : ℕ) → shortest es ≡ suc k → k < length es
unfolding shortest
prefix-within es k e = let q : Earliest (cyclic_up_to es) 1 (length es) (suc k) = earliest (cyclic_up_to es) 1 (length es) k e in omega (arith, q.inside)

module _ (input out work : List ℕ) (old records : List Labelled) (order₀ order : List ℕ) (left-are : records ≡ records_left input out work old) (order_is : order ≡ order_left input out work order₀) where
  violates : (k : ℕ) → (refusal input out work).number ≡ 0 → shortest (events input) ≡ suc k → Violates input out work records order k (length (cycle_of (events input) (suc k)))
  violates k none e =
      let es : List Event = events input in
      let p : Passed input = passed input out work none in
      let inside : k < length input / 8 = subst (λ m. k < m) (events-size input) (prefix-within es k e) in
      let front : take (k + 1) records ≡ labelled (take (k + 1) es) =
      noted-prefix input records (looked input old).transactions (k + 1) (omega arith) (left-noted input out work none old records left-are) in
      let count : length (cycle_of es (suc k)) ≡ length (named es (shortest es)) = ap length (sym (named-cycle es k e)) in
      record {
        not-refused = none;
        some = e;
        size = refl;
        cycle-is = left-named input out work none order₀ order order_is _ count ∙ named-cycle es k e;
        records-are = front ∙ ap (λ m. labelled (take m es)) (add-one k);
        prefix-size = sym (ap length front ∙ labelled-length none_yet (take (k + 1) es) ∙ length-take-le (k + 1) es (omega (arith, prefix-within es k e)));
        most = omega (arith, p.most);
        few = omega (arith, count, named-most input out work none);
        room = omega (arith, count, left-long input out work none order₀ order order_is);
        front = left-size input out work none order₀ order order_is _ count;
      }

  -- by the answer's numbers
  violates-by : (k n : ℕ) → (judged input out work).answer ≡ record { kind = 1; first = k; second = n } → Violates input out work records order k n
  unfolding violation
  violates-by k n by = go (refusal input out work).number refl (shortest (events input)) refl
    where
      go : (m : ℕ) → (refusal input out work).number ≡ m → (s : ℕ) → shortest (events input) ≡ s → Violates input out work records order k n
      go (suc m) e s q = absurd (omega (arith, ap (λ x. x.kind) by, ap (λ j. j.answer.kind) (refused-keeps input out work m e)))
      go zero e zero q = absurd (omega (arith, ap (λ x. x.kind) by, kind-cooperable input out work e q))
      go zero e (suc h) q =
          let x : ◌≡◌ {A = Answers.Numbers} (record { kind = 1; first = h; second = length (cycle_of (events input) (suc h)) }) (record { kind = 1; first = k; second = n }) =
          sym (ap (λ j. j.answer) (is-violation input out work e h q)) ∙ by in
          subst (λ m. Violates input out work records order k m) (ap (λ y. y.second) x)
          (subst (λ m. Violates input out work records order m (length (cycle_of (events input) (suc h)))) (ap (λ y. y.first) x) (violates h e q))

-- ---- all edges at once

explained-refused : (input out work : List ℕ) (old : List (Option Cause)) (n : ℕ) → (refusal input out work).number ≡ suc n → explained input out work old ≡ old
unfolding explained
explained-refused input out work old n e = rw (e, explained)

explained-fine : (input out work : List ℕ) (old : List (Option Cause)) → (refusal input out work).number ≡ 0 → explained input out work old ≡ over (map Some (lines (events input))) old
unfolding explained
explained-fine input out work old e = rw (e, explained)

lines-empty : (es : List Event) → shortest es ≡ 0 → lines es ≡ []
unfolding lines
lines-empty es e = rw (e, lines)

lines-some : (es : List Event) (k : ℕ) → shortest es ≡ suc k → lines es ≡ map (cause_at es k) (below (length (cycle_of es (suc k))))
unfolding lines
lines-some es k e = rw (e, lines)

over_none : (old : List (Option Cause)) → over (map Some []) old ≡ old
unfolding over
over_none old = refl

-- ---- What was answered and left by the checker

module _ (input out work : List ℕ) (r : Answer) (out' work' : List ℕ)
    (j : ◌≡◌ {A = Ending} (record { answer = Verdict.numbers r; out = out'; work = work' }) (judged input out work)) where
  answer-is : (s : Answer) → r ≡ s → (judged input out work).answer ≡ Verdict.numbers s
  answer-is s e = sym (ap (λ x. x.answer) j) ∙ ap Verdict.numbers e

  -- the checker's answer itself
  pub judged-as : (s : Answer) → r ≡ s → ◌≡◌ {A = Ending} (record { answer = Verdict.numbers s; out = out'; work = work' }) (judged input out work)
  judged-as s e = ap (λ (x : Answer). record { answer = Verdict.numbers x; out = out'; work = work' }) (sym e) ∙ j

  -- what is told, and what is left
  asked-as : (p : ℕ) (t : Result (Option Cause) Refusal) → told input out work p ≡ t → ◌≡◌ {A = Asked} (record { answer = numbers t; out = out'; work = work' }) (asked input out work p)
  unfolding asked
  asked-as p t q =
      ap (λ (u : Result (Option Cause) Refusal). record { answer = numbers u; out = out'; work = work' }) (sym q)
      ∙ ap (λ (x : Ending). record { answer = numbers (told input out work p); out = x.out; work = x.work }) j

  pub says-refused : (p : ℕ) (f : Given) → r ≡ Checker.Refused f → ◌≡◌ {A = Asked} (record { answer = numbers (Err (refusal_of f)); out = out'; work = work' }) (asked input out work p)
  says-refused p f e = asked-as p (Err (refusal_of f)) (((right input out work p).refused (refusal_of f)).1 (answer-is (Checker.Refused f) e))

  pub says-cooperable : (p n m : ℕ) → r ≡ Checker.Cooperable n m → ◌≡◌ {A = Asked} (record { answer = numbers (Ok None); out = out'; work = work' }) (asked input out work p)
  says-cooperable p n m e = asked-as p (Ok None) ((right input out work p).no-such-edge.1 (inl (ap (λ a. a.kind) (answer-is (Checker.Cooperable n m) e))))

  -- where there is no violation, there are no lines
  pub lines_none : ((k n : ℕ) → r ≡ Checker.Violation k n → ⊥) → (old : List (Option Cause)) → old ≡ explained input out work old
  lines_none other old = go (refusal input out work).number refl (shortest (events input)) refl
    where
      no-violation : (s : Answer) → r ≡ s → (Verdict.numbers s).kind ≡ 1 → ⊥
      no-violation (Checker.Cooperable n t) e q = omega (arith, q)
      no-violation (Checker.Violation k n) e q = other k n e
      no-violation (Checker.Refused f) e q = omega (arith, q)

      go : (m : ℕ) → (refusal input out work).number ≡ m → (h : ℕ) → shortest (events input) ≡ h → old ≡ explained input out work old
      go (suc m) q h p = sym (explained-refused input out work old m q)
      go zero q zero p = sym (explained-fine input out work old q ∙ ap (λ l. over (map Some l) old) (lines-empty (events input) p) ∙ over_none old)
      go zero q (suc h) p = absurd (no-violation r refl (sym (ap (λ a. a.kind) (answer-is r refl)) ∙ kind-violation input out work q h p))

  module _ (k n : ℕ) (e : r ≡ Checker.Violation k n) where
    pub says_past : (p : ℕ) → n ≤ p → ◌≡◌ {A = Asked} (record { answer = numbers (Ok None); out = out'; work = work' }) (asked input out work p)
    says_past p h =
        let a = answer-is (Checker.Violation k n) e in
        asked-as p (Ok None) ((right input out work p).no-such-edge.1 (inr (ap (λ x. x.kind) a, omega (arith, h, ap (λ x. x.second) a))))

    -- the records and the order, as they were left
    module _ (old records : List Labelled) (order₀ order : List ℕ) (left-are : records ≡ records_left input out work old) (order_is : order ≡ order_left input out work order₀) where
      pub violated : Violates input out work records order k n
      violated = violates-by input out work old records order₀ order left-are order_is k n (answer-is (Checker.Violation k n) e)

      -- what makes the edge at a place, by these
      cause-is : (p : ℕ) → cause_of (take (k + 1) records) (origin_of (take n order) p) (goal_of (take n order) p) ≡ cause_at (events input) k p
      unfolding cause_at
      cause-is p = ap₂ (λ xs y. cause_of xs (origin_of y p) (goal_of y p)) violated.records-are violated.cycle-is

      pub says-because : (p : ℕ) → p < n → (c : Cause)
          → c ≡ cause_of (take (k + 1) records) (origin_of (take n order) p) (goal_of (take n order) p)
          → ◌≡◌ {A = Asked} (record { answer = numbers (Ok (Some c)); out = out'; work = work' }) (asked input out work p)
      says-because p h c q =
          let v = violated in
          asked-as p (Ok (Some c)) (told-fine input out work p v.not-refused ∙ ap Ok (told-edge (events input) p k v.some (lt-ltb p (length (cycle_of (events input) (suc k))) (omega (arith, h, v.size))) ∙ ap Some (sym (q ∙ cause-is p))))

      -- the lines that were written
      pub lines-violation : (before now : List (Option Cause)) → now ≡ over (map (line_at (take (k + 1) records) (take n order)) (below (length (take n order)))) before
          → now ≡ explained input out work before
      unfolding line_at
      lines-violation before now w =
          let v = violated in
          w ∙ ap₂ (λ f m. over (map f (below m)) before) (fun_ext (λ p. ap Some (cause-is p))) (ap length v.cycle-is)
          ∙ sym (explained-fine input out work before v.not-refused ∙ ap (λ l. over (map Some l) before) (lines-some (events input) k v.some)
          ∙ ap (λ l. over l before) (map-map Some (cause_at (events input) k) (below (length (cycle_of (events input) (suc k))))))
