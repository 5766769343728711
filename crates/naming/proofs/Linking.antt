-- Laws of the records linked by transaction: where each begins, and one record more linked.
use Prim.Native.Nat.{ℕ, zero, suc, ◌≤◌, ◌<◌}
use native.Mathlib.Omega.{arith}
use mathlib.Core.Path.{◌≡◌, refl, sym, ap, ◌∙◌, subst}
use mathlib.Core.Logic.{◌≢◌}
use mathlib.Core.Bool.{true, false}
use mathlib.Core.List.{List, ◌∷◌}
use lib.Dec.{eqb, ltb}
use lib.ListN.{length, get_or, set, drop, drop_of_length-le, length-set, length-replicate, replicate, take}
use lib.Seq.{ext_get_or, get_or-set_same, get_or-set_other, drop-cons, take_all}
use Rattle.std.proofs.lemmas.List.{get_or_default}
use borrow.Author.Tests.{eq-eqb, ne_eqb, ltb-true, ltb-false}
use Rattle.lists.proofs.Tests.{by, by-same}
use Rattle.graph.specs.declared.Labelled.{Labelled}
use Rattle.graph.specs.Transactions.{transaction_limit}
use Rattle.graph.specs.Held.{record_past_end}
use Rattle.naming.specs.Naming.{record_at, transaction_at}
use Rattle.naming.specs.Chains.{no_record, first_in, first_from, Within, Linked}

-- ---- a record of the transaction in front, and one of another

module _ (x : Labelled) (xs : List Labelled) (a : ℕ) where
  pub first-hit : eqb x.transaction a ≡ true → (k : ℕ) → first_in k (x ∷ xs) a ≡ k
  unfolding first_in
  first-hit same k = rw (same, first_in)

  pub first-miss : eqb x.transaction a ≡ false → (k : ℕ) → first_in k (x ∷ xs) a ≡ first_in (suc k) xs a
  unfolding first_in
  first-miss other k = rw (other, first_in)

-- arrays of none
empty : (n k : ℕ) → get_or (replicate n no_record) k no_record ≡ no_record
empty zero k = refl
empty (suc n) zero = refl
empty (suc n) (suc k) = empty n k

module _ (xs : List Labelled) where
  -- where there are no more than 1,024 records, all are linked
  pub linked-all : length xs ≤ 1024 → (firsts nexts : List ℕ) → Linked (take 1024 xs) 0 firsts nexts → Linked xs 0 firsts nexts
  linked-all most firsts nexts = subst (λ ys. Linked ys 0 firsts nexts) (take_all 1024 xs most)

  -- ---- a transaction's first record from record i on

  pub first-end : (a i : ℕ) → length xs ≤ i → first_from xs a i ≡ no_record
  unfolding first_in
  first-end a i h = ap (λ l. first_in i l a) (drop_of_length-le xs h)

  pub first-own : (a i : ℕ) → i < length xs → transaction_at xs i ≡ a → first_from xs a i ≡ i
  first-own a i h q = ap (λ l. first_in i l a) (drop-cons xs i record_past_end h)
      ∙ first-hit (record_at xs i) (drop (suc i) xs) a (eq-eqb (transaction_at xs i) a q) i

  pub first-other : (a i : ℕ) → i < length xs → transaction_at xs i ≢ a → first_from xs a i ≡ first_from xs a (suc i)
  first-other a i h q = ap (λ l. first_in i l a) (drop-cons xs i record_past_end h)
      ∙ first-miss (record_at xs i) (drop (suc i) xs) a (ne_eqb (transaction_at xs i) a q) i

  -- ---- one record more is linked

  pub linked-none : Linked xs (length xs) (replicate 512 no_record) (replicate 1024 no_record)
  linked-none = record {
    firsts-long = length-replicate 512 no_record;
    nexts-long = length-replicate 1024 no_record;
    first-is = λ a in-a. empty 512 a ∙ sym (first-end a (length xs) (omega arith));
    next-is = λ k w. absurd (omega (arith, w.0, w.1));
    none-is = λ k no. empty 1024 k;
  }

  module _ (i : ℕ) (firsts nexts : List ℕ) (h : i < length xs) (s : Linked xs (suc i) firsts nexts) where
    -- one of a transaction that has no place is passed by
    pub linked-skip : 512 ≤ transaction_at xs i → Linked xs i firsts nexts
    linked-skip many = record {
      firsts-long = s.firsts-long;
      nexts-long = s.nexts-long;
      first-is = λ a in-a. s.first-is a in-a ∙ sym (first-other a i h (λ e. absurd (omega arith)));
      next-is = λ k w. by-same k i (λ e. absurd (omega (arith, many, w.2, ap (transaction_at xs) e))) (λ d. s.next-is k (omega (arith, w.0, d), w.1, w.2));
      none-is = λ k no. s.none-is k (λ w. no (omega (arith, w.0), w.1, w.2));
    }

    pub linked-more : length xs ≤ 1024 → transaction_at xs i < 512
        → Linked xs i (set firsts (transaction_at xs i) i) (set nexts i (get_or firsts (transaction_at xs i) 0))
    linked-more most few =
        let b : ℕ = transaction_at xs i in
        let v : ℕ = get_or firsts b 0 in
        let long : b < length firsts = omega (arith, few, s.firsts-long) in
        let room : i < length nexts = omega (arith, h, most, s.nexts-long) in
        record {
          firsts-long = length-set firsts b i ∙ s.firsts-long;
          nexts-long = length-set nexts i v ∙ s.nexts-long;
          first-is = λ a in-a. by-same b a
              (λ e. subst (λ c. get_or (set firsts b i) c no_record ≡ i) e (get_or-set_same firsts b i no_record long) ∙ sym (first-own a i h e))
              (λ d. get_or-set_other firsts b a i no_record (λ e. d (sym e)) ∙ s.first-is a in-a ∙ sym (first-other a i h d));
          next-is = λ k w. by-same i k
              (λ e. subst (λ c. get_or (set nexts i v) c no_record ≡ first_from xs (transaction_at xs c) (suc c)) e
              (get_or-set_same nexts i v no_record room ∙ get_or_default firsts b 0 no_record long ∙ s.first-is b few))
              (λ d. get_or-set_other nexts i k v no_record (λ e. d (sym e)) ∙ s.next-is k (omega (arith, w.0, d), w.1, w.2));
          none-is = λ k no. by-same i k
              (λ e. absurd (no (subst (Within xs i) e (omega arith, h, few))))
              (λ d. get_or-set_other nexts i k v no_record (λ e. d (sym e)) ∙ s.none-is k (λ w. no (omega (arith, w.0), w.1, w.2)));
        }

-- ---- Two answers of linking the same records are the same

module _ (xs : List Labelled) (f n g m : List ℕ) (a : Linked xs 0 f n) (b : Linked xs 0 g m) where
  next-same : (k : ℕ) → get_or n k no_record ≡ get_or m k no_record
  next-same k =
      let none : (Within xs 0 k → ⊥) → get_or n k no_record ≡ get_or m k no_record = λ no. a.none-is k no ∙ sym (b.none-is k no) in
      by (ltb k (length xs))
      (λ p.
      by (ltb (transaction_at xs k) transaction_limit)
      (λ q.
      let here : Within xs 0 k = (omega arith, ltb-true k (length xs) p, ltb-true (transaction_at xs k) transaction_limit q) in
      a.next-is k here ∙ sym (b.next-is k here))
      (λ q. none (λ w. absurd (omega (arith, w.2, ltb-false (transaction_at xs k) transaction_limit q)))))
      (λ p. none (λ w. absurd (omega (arith, w.1, ltb-false k (length xs) p))))

  pub linked-same : (f ≡ g) × (n ≡ m)
  linked-same = (
    ext_get_or no_record f g (a.firsts-long ∙ sym b.firsts-long) (λ i l. let few : i < transaction_limit = omega (arith, l, a.firsts-long) in a.first-is i few ∙ sym (b.first-is i few)),
    ext_get_or no_record n m (a.nexts-long ∙ sym b.nexts-long) (λ i l. next-same i),
  )
