-- What is named of the records, where they fit and where they don't: the laws that the code cites.
use Prim.Native.Nat.{ℕ, suc, ◌+◌, ◌<◌, ◌≤◌, min}
use native.Mathlib.Omega.{arith}
use native.Mathlib.Numerals.{add-one}
use mathlib.Core.Path.{◌≡◌, sym, ap, ap₂, ◌∙◌, subst}
use mathlib.Core.Bool.{true, false, ◌&&◌, and-false}
use mathlib.Core.List.{List, [], map}
use lib.ListN.{length, get_or, take, get_or-map}
use lib.Dec.{ltb, leb, leb→le}
use lib.Seq.{take_all}
use borrow.Author.Tests.{lt-ltb, le-ltb, le-leb, lt-leb, leb-false}
use Rattle.lists.specs.Lists.{over}
use Rattle.lists.proofs.Tests.{by, T_of}
use Rattle.rows.specs.Bits.{has}
use Rattle.graph.specs.declared.Labelled.{Labelled}
use Rattle.graph.specs.Transactions.{transaction_limit, work_size}
use Rattle.graph.specs.Edges.{edges}
use Rattle.graph.specs.Serial.{thread_of}
use Rattle.graph.specs.Held.{record_past_end}
use Rattle.naming.specs.Naming.{order_by, walk_by, transaction_at, cycle_by, fits, named_by}

-- ---- nothing is named where they don't fit

module _ (xs : List Labelled) (n p : ℕ) (work : List ℕ) where
  nothing : fits xs n p work ≡ false → named_by xs n p work ≡ []
  unfolding named_by
  nothing e = rw (e, named_by)

  pub nothing-many : transaction_limit < n → named_by xs n p work ≡ []
  unfolding fits
  nothing-many h = nothing (ap (λ b. b && (leb work_size (length work) && leb p (length xs))) (lt-leb n transaction_limit h))

  pub nothing-short : length work < work_size → named_by xs n p work ≡ []
  unfolding fits
  nothing-short h = nothing (ap (λ b. leb n transaction_limit && (b && leb p (length xs))) (lt-leb work_size (length work) h) ∙ and-false (leb n transaction_limit))

  pub nothing-beyond : length xs < p → named_by xs n p work ≡ []
  unfolding fits
  nothing-beyond h = nothing (ap (λ b. leb n transaction_limit && (leb work_size (length work) && b)) (lt-leb p (length xs) h)
      ∙ ap (λ b. leb n transaction_limit && b) (and-false (leb work_size (length work))) ∙ and-false (leb n transaction_limit))

-- nothing is written, of nothing
pub none_written : (new order : List ℕ) → new ≡ [] → (◌≡◌ {A = ℕ} 0 (length new)) × (order ≡ over new order)
unfolding over
none_written new order e = (sym (ap length e), sym (ap (λ l. over l order) e))

-- ---- and what is where they do

-- the cycle of the records up to record k
module _ (xs : List Labelled) (n k : ℕ) (work : List ℕ) where
  abbrev last : ℕ
  last = get_or (map (λ x. x.transaction) xs) k 0

  pub cycle-goes : last < n → has work last last ≡ true → cycle_by xs n k work ≡ walk_by (edges (take (suc k) xs)) work last n last
  unfolding cycle_by
  cycle-goes h own =
      let both : (ltb last n && has work last last) ≡ true = ap₂ (λ p q. p && q) (lt-ltb last n h) own in
      rw (both, cycle_by)

  cycle-none : (ltb last n && has work last last) ≡ false → cycle_by xs n k work ≡ []
  unfolding cycle_by
  cycle-none e = rw (e, cycle_by)

module _ (xs : List Labelled) (n : ℕ) (work : List ℕ) (few : n ≤ transaction_limit) (long : work_size ≤ length work) where
  fit : (p : ℕ) → p ≤ length xs → fits xs n p work ≡ true
  unfolding fits
  fit p h = ap₂ (λ a b. a && (b && leb p (length xs))) (le-leb n transaction_limit few) (le-leb work_size (length work) long) ∙ le-leb p (length xs) h

  pub named-order : named_by xs n 0 work ≡ order_by (thread_of xs) n work
  unfolding named_by
  named-order = rw (fit 0 (omega arith), named_by)

  pub named-cycle : (k : ℕ) → k < length xs → named_by xs n (suc k) work ≡ cycle_by xs n k work
  unfolding named_by
  named-cycle k h = rw (fit (suc k) (omega arith), named_by)

-- of the records those up to record i, which is of t
module _ (xs : List Labelled) (n i t : ℕ) (work : List ℕ) (few : n ≤ transaction_limit) (long : work_size ≤ length work) (inside : i < length xs) (is : t ≡ transaction_at xs i) where
  last-is : t ≡ last xs n i work
  last-is = is ∙ sym (get_or-map (λ x. x.transaction) xs i record_past_end)

  named-last : named_by xs n (suc i) work ≡ cycle_by xs n i work
  named-last = named-cycle xs n work few long i inside

  pub cycle-named : t < n → has work t t ≡ true → walk_by (edges (take (i + 1) xs)) work t n t ≡ named_by xs n (suc i) work
  cycle-named h own =
      ap₂ (λ k d. walk_by (edges (take k xs)) work d n d) (add-one i) last-is
      ∙ sym (named-last ∙ cycle-goes xs n i work (subst (λ d. d < n) last-is h) (ap (λ d. has work d d) (sym last-is) ∙ own))

  nothing-last : (ltb t n && has work t t) ≡ false → named_by xs n (suc i) work ≡ []
  nothing-last e = named-last ∙ cycle-none xs n i work (ap (λ d. ltb d n && has work d d) (sym last-is) ∙ e)

  pub nothing-outside : n ≤ t → named_by xs n (suc i) work ≡ []
  nothing-outside h = nothing-last (ap (λ b. b && has work t t) (le-ltb t n h))

  pub nothing-away : has work t t ≡ false → named_by xs n (suc i) work ≡ []
  nothing-away e = nothing-last (ap (λ b. ltb t n && b) e ∙ and-false (ltb t n))

-- the first 1,024 records, or all where there are fewer
pub first_ones : (k : ℕ) (xs : List Labelled) → k ≡ min (length xs) 1024 → take k xs ≡ take 1024 xs
first_ones k xs is = by (leb 1024 (length xs))
    (λ e. let many : 1024 ≤ length xs = leb→le 1024 (length xs) (T_of e) in let all : k ≡ 1024 = omega (arith, is, many) in ap (λ j. take j xs) all)
    (λ e. let fewer : length xs < 1024 = leb-false 1024 (length xs) e in take_all k xs (omega (arith, is, fewer)) ∙ sym (take_all 1024 xs (omega (arith, fewer))))
