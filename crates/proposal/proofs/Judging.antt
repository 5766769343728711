-- Events written as bytes and judged: the answer goes by the shortest prefix with a cycle.
use Prim.Native.Nat.{ℕ, suc, ◌*◌, ◌%◌, ◌≤◌}
use native.Mathlib.Omega.{arith}
use mathlib.Core.Path.{◌≡◌, ap, ◌∙◌}
use mathlib.Core.List.{List, [], ◌∷◌}
use lib.ListN.{length}
use lib.Dec.{T, leb}
use borrow.Author.Tests.{eq-eqb, le-leb}
use Rattle.record.specs.declared.Event.{Event}
use Rattle.record.specs.Faults.{first_fault, check}
use Rattle.record.specs.Record.{in_range}
use Rattle.replay.specs.Machine.{fresh, possible}
use Rattle.lists.specs.Lists.{all_of}
use Rattle.graph.specs.Transactions.{work_size, transactions}
use Rattle.graph.specs.Violation.{shortest}
use Rattle.looking.specs.Refusals.{input_checks, events}
use Rattle.looking.proofs.Refusing.{size-passed}
use Rattle.checker.specs.Verdict.{cooperable}
use Rattle.checker.specs.Judged.{size_checks, refusal}
use Rattle.checker.proofs.Demand3.{is-cooperable, kind-cooperable, kind-violation, place_is}
use Rattle.proposal.specs.Proposed.{bytes_of}
use Rattle.proposal.specs.Meaning.{Judges}
use Rattle.proposal.proofs.Bytes.{bytes-size, written-events, written-fine}

-- 1 to 4 are passed where the sizes fit
sizes-fine : (input out work : List ℕ) → length input % 8 ≡ 0 → length input ≤ 8192 → length input ≤ length out → 4096 ≤ length work
    → first_fault (size_checks input out work) ≡ 0
unfolding size_checks input_checks first_fault
sizes-fine input out work a b c d =
    ap (λ x. first_fault (check 1 0 x ∷ check 2 0 (leb (length input) 8192) ∷ check 3 0 (leb (length input) (length out)) ∷ check 4 0 (leb work_size (length work)) ∷ []))
    (eq-eqb (length input % 8) 0 a)
    ∙ ap (λ x. first_fault (check 2 0 x ∷ check 3 0 (leb (length input) (length out)) ∷ check 4 0 (leb work_size (length work)) ∷ [])) (le-leb (length input) 8192 b)
    ∙ ap (λ x. first_fault (check 3 0 x ∷ check 4 0 (leb work_size (length work)) ∷ [])) (le-leb (length input) (length out) c)
    ∙ ap (λ x. first_fault (check 4 0 x ∷ [])) (le-leb work_size (length work) d)

-- A possible history within the limits
pub record Within (es : List Event) : Type 0 where
  pub can : T (possible fresh es)
  pub fit : T (all_of in_range es)
  pub short : length es ≤ 1024
  pub few : transactions es ≤ 512

module _ (es : List Event) (w : Within es) (out work : List ℕ) (room : length (bytes_of es) ≤ length out) (area : 4096 ≤ length work) where
  fitting : first_fault (size_checks (bytes_of es) out work) ≡ 0
  fitting =
      let n : length (bytes_of es) ≡ 8 * length es = bytes-size es in
      sizes-fine (bytes_of es) out work (omega (arith, n)) (omega (arith, n, w.short)) room area

  not-refused : (refusal (bytes_of es) out work).number ≡ 0
  unfolding refusal
  not-refused = ap (λ f. f.number) (size-passed (size_checks (bytes_of es) out work) (bytes_of es) fitting) ∙ written-fine es w.can w.fit w.few

-- It is cooperable where no prefix has a cycle, and a violation at the record that ends the shortest with one
pub judges-cooperable : (es : List Event) → Within es → shortest es ≡ 0 → Judges es 0 (length es)
unfolding cooperable
judges-cooperable es w none = record {
  answer = λ out work room area.
      let fine = not-refused es w out work room area in
      let still : shortest (events (bytes_of es)) ≡ 0 = ap shortest (written-events es w.fit) ∙ none in (
        kind-cooperable (bytes_of es) out work fine still,
        ap (λ j. j.answer.first) (is-cooperable (bytes_of es) out work fine still) ∙ ap length (written-events es w.fit),
      );
}

pub judges-violation : (es : List Event) → Within es → (k : ℕ) → shortest es ≡ suc k → Judges es 1 k
judges-violation es w k some = record {
  answer = λ out work room area.
      let fine = not-refused es w out work room area in
      let still : shortest (events (bytes_of es)) ≡ suc k = ap shortest (written-events es w.fit) ∙ some in
      (kind-violation (bytes_of es) out work fine k still, place_is (bytes_of es) out work fine k still);
}
