-- The records' ranks, from the last record to the first, and from one record of a transaction to its next: the laws that the code cites.
use Prim.Native.Nat.{ℕ, zero, suc, ◌+◌, ◌-◌, ◌<◌, ◌≤◌}
use native.Mathlib.Omega.{arith}
use native.Mathlib.Numerals.{add-one}
use mathlib.Core.Path.{◌≡◌, refl, sym, ap, ◌∙◌, subst}
use mathlib.Core.List.{List}
use lib.ListN.{length, get_or, set}
use lib.Seq.{get_or-set_same, get_or-set_other}
use Rattle.lists.proofs.Tests.{by-same}
use Rattle.graph.specs.declared.Labelled.{Labelled}
use Rattle.naming.specs.Naming.{transaction_at, candidate, Ranked}
use Rattle.naming.specs.Chains.{no_record, first_from, Linked}
use Rattle.naming.proofs.Linking.{first-end, first-own, first-other}
use Rattle.naming.proofs.Lowest.{lowest_from, from-other, from_all}

-- ---- one record more is ranked

after : {i : ℕ} (k : ℕ) → (k ≡ i → ⊥) → i ≤ k → suc i ≤ k
after k d le = omega arith

module _ (xs : List Labelled) (work : List ℕ) (t : ℕ) where
  pub ranked-none : (candidates lowest : List ℕ) → Ranked xs work t (length xs) candidates lowest
  ranked-none candidates lowest = ((λ k le lt. absurd (omega arith)), (λ k j le more lt. absurd (omega arith)))

  pub ranked-more : (i : ℕ) (candidates lowest : List ℕ) (b low : ℕ) → i < length candidates → i < length lowest → Ranked xs work t (suc i) candidates lowest
      → b ≡ candidate work t (transaction_at xs i) → ((j : ℕ) → i ≤ j → j < length xs → low ≤ candidate work t (transaction_at xs j))
      → Ranked xs work t i (set candidates i b) (set lowest i low)
  ranked-more i candidates lowest b low room space s is least = (own, lows)
    where
      own : (k : ℕ) → i ≤ k → k < length xs → get_or (set candidates i b) k 0 ≡ candidate work t (transaction_at xs k)
      own k le lt = by-same k i
          (λ e. subst (λ j. get_or (set candidates i b) j 0 ≡ candidate work t (transaction_at xs j)) (sym e) (get_or-set_same candidates i b 0 room ∙ is))
          (λ d. get_or-set_other candidates i k b 0 d ∙ s.0 k (after k d le) lt)

      lows : (k j : ℕ) → i ≤ k → k ≤ j → j < length xs → get_or (set lowest i low) k 0 ≤ candidate work t (transaction_at xs j)
      lows k j le more lt = by-same k i
          (λ e. let at : get_or (set lowest i low) k 0 ≡ low = ap (λ c. get_or (set lowest i low) c 0) e ∙ get_or-set_same lowest i low 0 space in
          omega (arith, at, least j (omega arith) lt))
          (λ d. let at : get_or (set lowest i low) k 0 ≡ get_or lowest k 0 = get_or-set_other lowest i k low 0 d in
          omega (arith, at, s.1 k j (after k d le) more lt))

-- ---- from one record of a transaction to its next

module _ (xs : List Labelled) (most : length xs ≤ 1024) (a : ℕ) where
  -- i is a's first record from record s on, or there is none; so the records between have no edge of a's
  pub record Reaches (s i : ℕ) : Type 0 where
    pub higher : s ≤ i
    pub of-a : i < length xs → transaction_at xs i ≡ a
    pub none : (k : ℕ) → s ≤ k → k < i → k < length xs → transaction_at xs k ≡ a → ⊥
    pub same : (work : List ℕ) (t low : ℕ) → lowest_from xs work t a i low ≡ lowest_from xs work t a s low

  record-reaches : (d s : ℕ) → s + d ≡ length xs → Reaches s (first_from xs a s)
  record-reaches zero s e = subst (Reaches s) (sym (first-end xs a s (omega arith))) (record {
    higher = omega arith;
    of-a = λ h. absurd (omega arith);
    none = λ k le lt h q. absurd (omega arith);
    same = λ work t low. from_all xs work t a no_record low most ∙ sym (from_all xs work t a s low (omega arith));
  })
  record-reaches (suc d) s e = by-same (transaction_at xs s) a
      (λ own. subst (Reaches s) (sym (first-own xs a s (omega arith) own)) (record { higher = omega arith; of-a = λ h. own; none = λ k le lt h q. absurd (omega arith); same = λ work t low. refl }))
      (λ other. let rest : Reaches (suc s) (first_from xs a (suc s)) = record-reaches d (suc s) (omega arith) in
      subst (Reaches s) (sym (first-other xs a s (omega arith) other)) (record {
        higher = omega (arith, rest.higher);
        of-a = rest.of-a;
        none = λ k le lt h q. by-same k s (λ e. other (ap (transaction_at xs) (sym e) ∙ q)) (λ d. rest.none k (after k d le) lt h q);
        same = λ work t low. rest.same work t low ∙ ap (λ k. lowest_from xs work t a k low) (sym (add-one s)) ∙ from-other xs work t a s low (omega arith) other;
      }))

  -- by the links
  module _ (firsts nexts : List ℕ) (linked : Linked xs 0 firsts nexts) (in-a : a < 512) where
    pub first-reaches : (i : ℕ) → i ≡ get_or firsts a no_record → Reaches 0 i
    first-reaches i is = subst (Reaches 0) (sym (is ∙ linked.first-is a in-a)) (record-reaches (length xs) 0 (omega arith))

    pub next-reaches : (i : ℕ) → i < length xs → transaction_at xs i ≡ a → (j : ℕ) → j ≡ get_or nexts i no_record → Reaches (suc i) j
    next-reaches i h own j is = subst (Reaches (suc i))
        (sym (is ∙ linked.next-is i (omega arith, h, omega (arith, own, in-a)) ∙ ap (λ b. first_from xs b (suc i)) own))
        (record-reaches (length xs - suc i) (suc i) (omega arith))
