-- Demand 3 holds of the promise: of every input, output and work area that are not refused.
use Prim.Native.Nat.{ℕ, zero, suc, ◌+◌, ◌*◌, ◌/◌, ◌%◌, ◌≤◌}
use native.Mathlib.Omega.{arith}
use mathlib.Core.Path.{◌≡◌, refl, sym, ap, ap₂, ◌∙◌, subst}
use mathlib.Core.Logic.{inl, inr, ⊎_elim}
use mathlib.Core.List.{List, [], ◌∷◌, ◌++◌, map}
use lib.ListN.{length, drop, replicate, length-map}
use lib.Dec.{T}
use Rattle.std.specs.Prelude.{Ok}
use Rattle.record.specs.declared.Event.{Event}
use Rattle.record.specs.Answers.{Ending}
use Rattle.record.specs.Record.{event, decoded, encoded, in_two, in_range, records, records_of}
use Rattle.record.proofs.Laws.{decode-encoded}
use Rattle.record.proofs.Written.{records-written}
use Rattle.replay.specs.Machine.{fresh, possible}
use Rattle.lists.specs.Lists.{each, over}
use Rattle.trace.specs.Paths.{Cycle}
use Rattle.lists.proofs.Lists.{Among, all-has}
use Rattle.trace.proofs.Swaps.{swaps-back, among-swaps, length-swaps}
use Rattle.trace.proofs.Reach.{cycle-means, cycle-made}
use Rattle.graph.specs.Conflict.{conflict}
use Rattle.graph.specs.Transactions.{work_size}
use Rattle.graph.specs.Swaps.{Swaps}
use Rattle.graph.specs.Serial.{serial_trace}
use Rattle.graph.specs.Violation.{edges_up_to, cyclic_up_to, shortest, transaction_at, cycle_of}
use Rattle.graph.specs.Rule.{Reported}
use Rattle.graph.proofs.Clash.{conflict-sym}
use Rattle.graph.proofs.Demand3.{cooperable-right, violation-right}
use Rattle.graph.proofs.Round.{cycle-right}
use Rattle.graph.proofs.Meaning.{shortest-cyclic, shortest-first}
use Rattle.checker.specs.Verdict.{Verdict, cooperable, violation, verdict}
use Rattle.looking.specs.Refusals.{events}
use Rattle.looking.proofs.Laws.{Passed, passed-more}
use Rattle.checker.specs.Judged.{size_checks, refusal, judged}
use Rattle.checker.specs.Demand3.{numbers_in, Written, Violated, Trusted}
use Rattle.checker.proofs.Commute.{swaps-replay}

-- ---- what is written can be read

-- numbers written one after the other, read back
numbers-written : (ns rest : List ℕ) → numbers_in (length ns) (each in_two ns ++ rest) ≡ ns
unfolding numbers_in each
numbers-written [] rest = refl
numbers-written (n ∷ ns) rest = ap₂ (λ m l. m ∷ l) whole (numbers-written ns rest)
  where
    whole : n % 256 + 256 * (n / 256) ≡ n
    whole = omega arith

-- ---- events in range

decoded-all : (t : List Event) → ((e : Event) → Among e t → T (in_range e)) → map decoded (map encoded t) ≡ map Ok t
decoded-all [] h = refl
decoded-all (e ∷ t) h = ap₂ (λ d l. d ∷ l) (decode-encoded e (h e Among.top)) (decoded-all t (λ f m. h f (Among.deeper m)))

-- what a recording that isn't refused is
pub passed : (input out work : List ℕ) → (refusal input out work).number ≡ 0 → Passed input
unfolding refusal size_checks
passed input out work fine = passed-more input _ fine

pub ranged : (input out work : List ℕ) → (refusal input out work).number ≡ 0 → (e : Event) → Among e (events input) → T (in_range e)
ranged input out work fine e m = all-has in_range e (events input) (passed input out work fine).in-range m

-- ---- the promise, case by case

module _ (input out work : List ℕ) (fine : (refusal input out work).number ≡ 0) where
  abbrev pub es : List Event
  es = events input

  -- the answer and the output, of any verdict
  abbrev pub kept : Verdict → Ending
  kept v = record { answer = v.answer; out = over v.written out; work = over (replicate work_size 0) work }

  judged-fine : (v : Verdict) → verdict es ≡ v → judged input out work ≡ kept v
  unfolding judged
  judged-fine v q = by-refusal ∙ ap kept q
    where
      by-refusal : judged input out work ≡ kept (verdict es)
      by-refusal = rw (fine, judged)

  can : T (possible fresh es)
  can = (passed input out work fine).can-be

  -- ---- cooperable

  module _ (none : shortest es ≡ 0) where
    pub is-cooperable : judged input out work ≡ kept (cooperable es)
    unfolding verdict
    is-cooperable = judged-fine (cooperable es) (rw (none, verdict))

    pub kind-cooperable : (judged input out work).answer.kind ≡ 0
    unfolding cooperable
    kind-cooperable = ap (λ j. j.answer.kind) is-cooperable

    reached : Swaps es (serial_trace es)
    reached = (cooperable-right es none).0

    decodes : map decoded (records (judged input out work).answer.first (judged input out work).out) ≡ map Ok (serial_trace es)
    unfolding cooperable over
    decodes =
        let t : List Event = serial_trace es in
        ap (λ j. map decoded (records j.answer.first j.out)) is-cooperable
        ∙ ap (λ n. map decoded (records n (each encoded t ++ drop (length (each encoded t)) out))) (length-swaps conflict reached)
        ∙ ap (map decoded) (records-written t (drop (length (each encoded t)) out))
        ∙ decoded-all t (λ e m. ranged input out work fine e (among-swaps conflict (swaps-back conflict conflict-sym reached) m))

    written : Written input out work
    unfolding events
    written =
        let s = swaps-replay fresh reached can in
        record {
          trace = serial_trace es;
          decodes = decodes;
          as_many = sym (length-swaps conflict reached) ∙ length-map (records_of input) event;
          reached = reached;
          serial = (cooperable-right es none).1;
          can-be = s.0;
          ends_same = sym s.1;
        }

  -- ---- violation

  module _ (k : ℕ) (some : shortest es ≡ suc k) where
    pub is-violation : judged input out work ≡ kept (violation es k)
    unfolding verdict
    is-violation = judged-fine (violation es k) (rw (some, verdict))

    pub kind-violation : (judged input out work).answer.kind ≡ 1
    unfolding violation
    kind-violation = ap (λ j. j.answer.kind) is-violation

    pub place_is : (judged input out work).answer.first ≡ k
    unfolding violation
    place_is = ap (λ j. j.answer.first) is-violation

    pub numbers-are : numbers_in (judged input out work).answer.second (judged input out work).out ≡ cycle_of es (suc k)
    unfolding violation over
    numbers-are =
        let c : List ℕ = cycle_of es (suc k) in
        ap (λ j. numbers_in j.answer.second j.out) is-violation ∙ numbers-written c (drop (length (each in_two c)) out)

    violated : Violated input out work
    unfolding cyclic_up_to
    violated = record {
      cycle = subst (λ n. Cycle (edges_up_to es (suc n))) (sym place_is) (cycle-means (edges_up_to es (suc k)) (shortest-cyclic es k some));
      no-shorter = λ j h c. subst T (shortest-first es k some j (subst (λ n. j ≤ n) place_is h)) (cycle-made (edges_up_to es j) c);
      by-rule = subst (λ n. Reported (edges_up_to es (suc n)) (transaction_at es n) (numbers_in (judged input out work).answer.second (judged input out work).out)) (sym place_is)
          (subst (Reported (edges_up_to es (suc k)) (transaction_at es k)) (sym numbers-are) (cycle-right es k some));
    }

  -- Demand 3, of every input, output and work area that are not refused
  pub demand-3 : Trusted input out work
  demand-3 = go (shortest es) refl
    where
      go : (p : ℕ) → shortest es ≡ p → Trusted input out work
      go zero e = record {
        one_of_two = inl (kind-cooperable e);
        exactly = ((λ q. (serial_trace es, reached e, (cooperable-right es e).1)), λ t. kind-cooperable e);
        cooperable = λ q. written e;
        violation = λ q. absurd (omega (arith, kind-cooperable e, q));
      }
      go (suc k) e = record {
        one_of_two = inr (kind-violation k e);
        exactly = ((λ q. absurd (omega (arith, kind-violation k e, q))), λ t. absurd (violation-right es k e t.0 t.1 t.2));
        cooperable = λ q. absurd (omega (arith, kind-violation k e, q));
        violation = λ q. violated k e;
      }

-- ---- the rest of what is promised

-- a refused recording changes nothing, and its answer is the refusal
pub refused-keeps : (input out work : List ℕ) (n : ℕ) → (refusal input out work).number ≡ suc n
    → judged input out work ≡ record { answer = record { kind = 2; first = suc n; second = (refusal input out work).place }; out = out; work = work }
unfolding judged
refused-keeps input out work n e = rw (e, judged) (ap (λ m. refused m) e)
  where
    refused : ℕ → Ending
    refused m = record { answer = record { kind = 2; first = m; second = (refusal input out work).place }; out = out; work = work }

-- an answer is of kind 0, 1 or 2
pub kinds : (input out work : List ℕ) → (judged input out work).answer.kind ≤ 2
kinds input out work = go (refusal input out work).number refl
  where
    go : (n : ℕ) → (refusal input out work).number ≡ n → (judged input out work).answer.kind ≤ 2
    go zero e = ⊎_elim (λ q. omega (arith, q)) (λ q. omega (arith, q)) (demand-3 input out work e).one_of_two
    go (suc n) e = omega (arith, ap (λ j. j.answer.kind) (refused-keeps input out work n e))
