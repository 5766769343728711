-- What proposed yields are, in document 02's words: what `proofs/Right` proves of every recording that isn't refused.
use Rattle.std.specs.Prelude.{ℕ, ◌≤◌, ◌≡◌, not, List, ◌∷◌, ◌++◌, length, take, T}
use Rattle.lists.specs.Lists.{keep}
use Rattle.record.specs.declared.Event.{Event}
use Rattle.record.specs.Answers.{Numbers}
use Rattle.looking.specs.Refusals.{events}
use Rattle.checker.specs.Judged.{judged}
use Rattle.proposal.specs.Walk.{Placed, given, yield_for, events_in, finished}
use Rattle.proposal.specs.Proposed.{bytes_of, proposed}

-- the records of the input: those that aren't added
unfoldable pub without_yields : List Placed → List Placed
without_yields ps = keep (λ p. not p.added) ps

-- The answer of judging some events, with an output and a work area that are large enough
pub record Judges (es : List Event) (kind first : ℕ) : Type 0 where
  pub answer : (out work : List ℕ) → length (bytes_of es) ≤ length out → 4096 ≤ length work
      → ((judged (bytes_of es) out work).answer.kind ≡ kind) × ((judged (bytes_of es) out work).answer.first ≡ first)

module _ (input out work : List ℕ) where
  abbrev pub records : List Placed
  records = finished (events input)

  abbrev pub answer : Numbers
  answer = (proposed input out work).answer

  abbrev pub left : List ℕ
  left = (proposed input out work).out

  pub record Right : Type 0 where
    -- what is written is the finished recording
    pub written : take answer.first left ≡ bytes_of (events_in records)
    -- it is cooperable (0), with that many records
    pub cooperable : Judges (events_in records) 0 (length records)
    -- it is the input once the added yields are taken out
    pub same : bytes_of (events_in (without_yields records)) ≡ input
    -- an added yield is one of the thread of the record that it stands before
    pub stands : (before after : List Placed) (p : Placed) → records ≡ before ++ (p ∷ after) → T p.added
        → (e : Event) × (rest : List Placed) × (p ≡ yield_for e) × (after ≡ given e ∷ rest)
    -- dropping any single added yield makes it a violation (1) at the record that the yield stood before, which then has the yield's place
    pub needed : (before after : List Placed) (p : Placed) → records ≡ before ++ (p ∷ after) → T p.added
        → Judges (events_in (before ++ after)) 1 (length before)
