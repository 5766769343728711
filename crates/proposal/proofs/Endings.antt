-- Laws of the whole promise: refused before the walk, refused in it, or finished.
use Prim.Native.Nat.{ℕ, zero, suc, ◌≤◌}
use native.Mathlib.Omega.{arith}
use mathlib.Core.Path.{◌≡◌, refl, sym, ap, ◌∙◌}
use mathlib.Core.Logic.{◌≢◌}
use mathlib.Core.List.{List, [], ◌∷◌}
use lib.ListN.{length, replicate}
use lib.Dec.{leb}
use borrow.Author.Tests.{leb-true}
use Rattle.record.specs.Faults.{Refusal, Check, check, first_fault}
use Rattle.record.proofs.Laws.{none_first}
use Rattle.lists.specs.Lists.{over}
use Rattle.graph.specs.Transactions.{work_size}
use Rattle.looking.specs.Refusals.{input_checks, refused_by, events}
use Rattle.looking.proofs.Refusing.{sized, inputs-next, inputs-passed, more-passed}
use Rattle.looking.proofs.Laws.{Passed, passed-more}
use Rattle.proposal.specs.declared.Added.{Added}
use Rattle.proposal.specs.Walk.{finished, stop}
use Rattle.proposal.specs.Proposed.{size_checks, refusal, done, refused, proposed, lines_from, told}

module _ (input out work : List ℕ) where
  -- 3 and 4
  abbrev room_checks : List Check
  room_checks = check 3 0 (leb 8192 (length out)) ∷ check 4 0 (leb work_size (length work)) ∷ []

  pub record Sizes : Type 0 where
    pub most : length input ≤ 8192
    pub out-room : 8192 ≤ length out
    pub work-room : 4096 ≤ length work

  pub sizes : first_fault (size_checks input out work) ≡ 0 → Sizes
  unfolding size_checks
  sizes h =
      let first : first_fault (input_checks input) ≡ 0 = inputs-passed input room_checks h in
      let c = none_first 3 0 (leb 8192 (length out)) _ (omega arith) (sym (inputs-next input room_checks first) ∙ h) in
      let d = none_first 4 0 (leb work_size (length work)) _ (omega arith) c.1 in
      record { most = (sized input first).most; out-room = leb-true 8192 (length out) c.0; work-room = leb-true work_size (length work) d.0 }

  -- where 1 to 4 are passed, the recording alone decides
  pub sizes-fit : first_fault (size_checks input out work) ≡ 0 → refusal input out work ≡ refused_by (input_checks input) input
  unfolding size_checks
  sizes-fit h = more-passed input room_checks h

  -- one that isn't refused before the walk
  pub unrefused : (refusal input out work).number ≡ 0 → Passed input
  unfolding size_checks
  unrefused none = passed-more input room_checks none

  -- the three ways it ends
  pub refused-before : (r : Refusal) → refusal input out work ≡ r → r.number ≢ 0 → proposed input out work ≡ refused r out work
  unfolding proposed
  refused-before r is some = go r.number refl
    where
      at : (n : ℕ) → (refusal input out work).number ≡ suc n → proposed input out work ≡ refused (refusal input out work) out work
      at n h = rw (h, proposed) (ap (λ m. refused (record { number = m; place = (refusal input out work).place }) out work) h)

      go : (n : ℕ) → r.number ≡ n → proposed input out work ≡ refused r out work
      go zero q = absurd (some q)
      go (suc n) q = at n (ap (λ f. f.number) is ∙ q) ∙ ap (λ f. refused f out work) is

  module _ (none : (refusal input out work).number ≡ 0) where
    pub refused-walking : (r : Refusal) → stop [] 0 (events input) ≡ r → r.number ≢ 0 → proposed input out work ≡ refused r out (over (replicate work_size 0) work)
    unfolding proposed
    refused-walking r is some = go r.number refl
      where
        at : (n : ℕ) → (stop [] 0 (events input)).number ≡ suc n → proposed input out work ≡ refused (stop [] 0 (events input)) out (over (replicate work_size 0) work)
        at n h = rw (none, h, proposed) (ap (λ m. refused (record { number = m; place = (stop [] 0 (events input)).place }) out (over (replicate work_size 0) work)) h)

        go : (n : ℕ) → r.number ≡ n → proposed input out work ≡ refused r out (over (replicate work_size 0) work)
        go zero q = absurd (some q)
        go (suc n) q = at n (ap (λ f. f.number) is ∙ q) ∙ ap (λ f. refused f out (over (replicate work_size 0) work)) is

    pub proposed-done : (stop [] 0 (events input)).number ≡ 0 → proposed input out work ≡ done (finished (events input)) out work
    unfolding proposed
    proposed-done h = rw (none, h, proposed)

  -- the lines
  pub told-refused : (old : List Added) → (proposed input out work).answer.kind ≡ 2 → told input out work old ≡ old
  unfolding told
  told-refused old h = rw (h, told)

  pub told-done : (old : List Added) → (proposed input out work).answer.kind ≡ 0 → told input out work old ≡ over (lines_from 0 (finished (events input))) old
  unfolding told
  told-done old h = rw (h, told)
