-- The lowest rank that a transaction has an edge to, record by record: the laws that the code cites.
use Prim.Native.Nat.{ℕ, zero, suc, ◌+◌, ◌-◌, ◌<◌, ◌≤◌}
use native.Mathlib.Omega.{arith}
use native.Mathlib.Numerals.{add-one}
use mathlib.Core.Path.{◌≡◌, refl, sym, ap, ap₂, ◌∙◌, subst}
use mathlib.Core.Logic.{◌⊎◌, ⊎_elim}
use mathlib.Core.Bool.{Bool, true, false, cond, not, ◌&&◌, and-false}
use mathlib.Core.List.{List, [], ◌∷◌, ◌++◌}
use lib.ListN.{length, drop, drop_of_length-le}
use lib.Seq.{drop-cons}
use lib.Dec.{T, eqb, ltb, eqb→eq, eqb_refl, ltb→lt, nltb→le}
use borrow.Author.Tests.{lt-ltb, le-ltb, eq-eqb, ne_eqb}
use Rattle.std.specs.Prelude.{None, Some}
use Rattle.trace.specs.Paths.{Edge}
use Rattle.rows.specs.Bits.{has}
use Rattle.lists.specs.Lists.{from}
use Rattle.graph.specs.declared.Labelled.{Labelled}
use Rattle.graph.specs.Transactions.{transaction_limit}
use Rattle.graph.specs.Edges.{makes, edges_of, edges}
use Rattle.lists.proofs.Tests.{by, by-same, T_of, T-is, and_left, and_right}
use Rattle.lists.proofs.Lists.{from-among, from-bound, from_le, some-none, some-has, Holds, some_at}
use Rattle.graph.proofs.Ends.{of-true, of-false}
use Rattle.graph.specs.Held.{record_past_end}
use Rattle.naming.specs.Naming.{rank, candidate, record_at, transaction_at, meets, lowest_by, next_by}

pub rank_is : (t b : ℕ) → b ≡ t → rank t b ≡ 0
rank_is t b e = ap (λ p. cond p 0 (suc b)) (eq-eqb b t e)

pub rank-other : (t b : ℕ) → (b ≡ t → ⊥) → rank t b ≡ suc b
rank-other t b d = ap (λ p. cond p 0 (suc b)) (ne_eqb b t d)

module _ (work : List ℕ) (t : ℕ) where
  -- the lowest rank with one edge more, which begins at the transaction that is asked for
  abbrev pub with-one : ℕ → ℕ → ℕ
  with-one b low = cond (has work t b && ltb (rank t b) low) (rank t b) low

  with-lower : (b low : ℕ) → has work t b ≡ true → rank t b < low → with-one b low ≡ rank t b
  with-lower b low leads lt = ap₂ (λ p q. cond (p && q) (rank t b) low) leads (lt-ltb (rank t b) low lt)

  with-away : (b low : ℕ) → has work t b ≡ false → with-one b low ≡ low
  with-away b low e = ap (λ p. cond (p && ltb (rank t b) low) (rank t b) low) e

  with-higher : (b low : ℕ) → low ≤ rank t b → with-one b low ≡ low
  with-higher b low le = ap (λ q. cond (has work t b && q) (rank t b) low) (le-ltb (rank t b) low le) ∙ ap (λ q. cond q (rank t b) low) (and-false (has work t b))

  -- t itself is the lowest
  with-own : (b low : ℕ) → b ≡ t → has work t t ≡ true → with-one b low ≡ 0
  with-own b low e own = by (ltb 0 low)
      (λ lt. with-lower b low (ap (has work t) e ∙ own) (omega (arith, rank_is t b e, ltb→lt 0 low (T_of lt))) ∙ rank_is t b e)
      (λ ge. let z : low ≡ 0 = omega (arith, nltb→le 0 low (T_of (ap not ge))) in with-higher b low (omega (arith, z)) ∙ z)

  -- the candidate by another transaction
  module _ (b : ℕ) where
    abbrev counts : Bool
    counts = ltb b transaction_limit && (not (eqb b t) && has work t b)

    pub candidate-some : ltb b transaction_limit ≡ true → not (eqb b t) ≡ true → has work t b ≡ true → candidate work t b ≡ b
    candidate-some e d h =
        ap (λ p. cond (p && (not (eqb b t) && has work t b)) b transaction_limit) e
        ∙ ap₂ (λ p q. cond (p && q) b transaction_limit) d h

    candidate-never : counts ≡ false → candidate work t b ≡ transaction_limit
    candidate-never e = ap (λ p. cond p b transaction_limit) e

    pub candidate-beyond : ltb b transaction_limit ≡ false → candidate work t b ≡ transaction_limit
    candidate-beyond e = candidate-never (ap (λ p. p && (not (eqb b t) && has work t b)) e)

    pub candidate-own : not (eqb b t) ≡ false → candidate work t b ≡ transaction_limit
    candidate-own e = candidate-never (ap (λ p. ltb b transaction_limit && (p && has work t b)) e ∙ and-false (ltb b transaction_limit))

    pub candidate-away : has work t b ≡ false → candidate work t b ≡ transaction_limit
    candidate-away h = candidate-never (ap (λ p. ltb b transaction_limit && (not (eqb b t) && p)) h ∙ ap (λ p. ltb b transaction_limit && p) (and-false (not (eqb b t))) ∙ and-false (ltb b transaction_limit))

  -- the lowest rank by that, where `low` is no higher than one that is never the lowest
  module _ (b low : ℕ) (most : low ≤ transaction_limit) where
    pub candidate-lower : candidate work t b < low → with-one b (suc low) ≡ suc (candidate work t b)
    candidate-lower lt = by-same b t
        (λ own. absurd (omega (arith, lt, most, candidate-own b (ap not (eq-eqb b t own)))))
        (λ d. by (ltb b transaction_limit)
        (λ e. by (has work t b)
        (λ h. let is : candidate work t b ≡ b = candidate-some b e (ap not (ne_eqb b t d)) h in
        with-lower b (suc low) h (omega (arith, lt, is, rank-other t b d)) ∙ rank-other t b d ∙ sym (ap suc is))
        (λ h. absurd (omega (arith, lt, most, candidate-away b h))))
        (λ e. absurd (omega (arith, lt, most, candidate-beyond b e))))

    pub candidate-higher : (b ≡ t → ⊥) → low ≤ candidate work t b → with-one b (suc low) ≡ suc low
    candidate-higher d le = by (ltb b transaction_limit)
        (λ e. by (has work t b) (λ h. with-higher b (suc low) (omega (arith, le, candidate-some b e (ap not (ne_eqb b t d)) h, rank-other t b d))) (with-away b (suc low)))
        (λ e. let beyond : transaction_limit ≤ b = nltb→le b transaction_limit (T_of (ap not e)) in
        with-higher b (suc low) (omega (arith, beyond, most, rank-other t b d)))

  lowest-zero : (a : ℕ) (g : List Edge) → lowest_by work t a g 0 ≡ 0
  unfolding lowest_by
  lowest-zero a [] = refl
  lowest-zero a (e ∷ g) =
      let none : (eqb e.origin a && (has work t e.goal && ltb (rank t e.goal) 0)) ≡ false =
      ap (λ p. eqb e.origin a && (has work t e.goal && p)) (le-ltb (rank t e.goal) 0 (omega arith))
      ∙ ap (λ p. eqb e.origin a && p) (and-false (has work t e.goal)) ∙ and-false (eqb e.origin a) in
      ap (λ p. lowest_by work t a g (cond p (rank t e.goal) 0)) none ∙ lowest-zero a g

  lowest-append : (a : ℕ) (g h : List Edge) (low : ℕ) → lowest_by work t a (g ++ h) low ≡ lowest_by work t a h (lowest_by work t a g low)
  unfolding lowest_by
  lowest-append a [] h low = refl
  lowest-append a (e ∷ g) h low = lowest-append a g h (cond (eqb e.origin a && (has work t e.goal && ltb (rank t e.goal) low)) (rank t e.goal) low)

  -- one later record more
  later-made : (x y : Labelled) (ys : List Labelled) (low : ℕ) → makes x y ≡ true
      → lowest_by work t x.transaction (edges_of x (y ∷ ys)) low ≡ lowest_by work t x.transaction (edges_of x ys) (with-one y.transaction low)
  unfolding lowest_by
  later-made x y ys low e =
      ap (λ g. lowest_by work t x.transaction g low) (of-true x y ys e)
      ∙ ap (λ p. lowest_by work t x.transaction (edges_of x ys) (cond (p && (has work t y.transaction && ltb (rank t y.transaction) low)) (rank t y.transaction) low))
      (T-is (eqb x.transaction x.transaction) (eqb_refl x.transaction))

  later-none : (x y : Labelled) (ys : List Labelled) (low : ℕ) → makes x y ≡ false
      → lowest_by work t x.transaction (edges_of x (y ∷ ys)) low ≡ lowest_by work t x.transaction (edges_of x ys) low
  later-none x y ys low e = ap (λ g. lowest_by work t x.transaction g low) (of-false x y ys e)

  -- a record of another transaction has no edge of a's
  none_of : (x : Labelled) (ys : List Labelled) (a low : ℕ) → eqb x.transaction a ≡ false → lowest_by work t a (edges_of x ys) low ≡ low
  unfolding lowest_by edges_of
  none_of x [] a low e = refl
  none_of x (y ∷ ys) a low e = by (makes x y)
      (λ m. ap (λ g. lowest_by work t a g low) (of-true x y ys m)
      ∙ ap (λ p. lowest_by work t a (edges_of x ys) (cond (p && (has work t y.transaction && ltb (rank t y.transaction) low)) (rank t y.transaction) low)) e
      ∙ none_of x ys a low e)
      (λ m. ap (λ g. lowest_by work t a g low) (of-false x y ys m) ∙ none_of x ys a low e)

-- ---- whether record i has an edge to t

module _ (xs : List Labelled) (t : ℕ) where
  -- whether record k is of t, with an edge from i
  abbrev pub meets_at : ℕ → ℕ → Bool
  meets_at i k = eqb (transaction_at xs k) t && makes (record_at xs i) (record_at xs k)

  pub meets-other : (i k : ℕ) → (transaction_at xs k ≡ t → ⊥) → meets_at i k ≡ false
  meets-other i k d = ap (λ p. p && makes (record_at xs i) (record_at xs k)) (ne_eqb (transaction_at xs k) t d)

  pub meets-yes : (i k : ℕ) → i < k → k < length xs → transaction_at xs k ≡ t → makes (record_at xs i) (record_at xs k) ≡ true → meets xs i t ≡ true
  unfolding meets
  meets-yes i k lt h of-t m = T-is (meets xs i t)
      (some-has (meets_at i) k (from (suc i) (length xs - suc i)) (from-among (suc i) (length xs - suc i) k (omega arith) (omega arith)) (T_of (ap₂ (λ p q. p && q) (eq-eqb (transaction_at xs k) t of-t) m)))

  pub meets-no : (i : ℕ) → ((k : ℕ) → i < k → k < length xs → meets_at i k ≡ false) → meets xs i t ≡ false
  unfolding meets
  meets-no i none = some-none (meets_at i) (from (suc i) (length xs - suc i))
      (λ k m. let le : suc i ≤ k = from_le (suc i) (length xs - suc i) k m in let lt : k < suc i + (length xs - suc i) = from-bound (suc i) (length xs - suc i) k m in none k (omega arith) (inside i k le lt))
    where
      inside : (i k : ℕ) → suc i ≤ k → k < suc i + (length xs - suc i) → k < length xs
      inside i k le lt = omega arith

  pub unmet : (i k : ℕ) → meets xs i t ≡ false → i < k → k < length xs → transaction_at xs k ≡ t → makes (record_at xs i) (record_at xs k) ≡ false
  unmet i k none lt h of-t = by (makes (record_at xs i) (record_at xs k)) (λ m. absurd (subst T (sym (meets-yes i k lt h of-t m) ∙ none) tt)) (λ m. m)

-- ---- one record passed by

module _ (xs : List Labelled) (work : List ℕ) (t : ℕ) where
  -- the lowest rank in the end, where record i's edges to records before j have been asked for, and where those of a's records before i have
  abbrev pub lowest_after : ℕ → ℕ → ℕ → ℕ
  lowest_after i j low = lowest_by work t (transaction_at xs i) (edges_of (record_at xs i) (drop j xs)) low

  abbrev pub lowest_from : ℕ → ℕ → ℕ → ℕ
  lowest_from a i low = lowest_by work t a (edges (drop i xs)) low

  module _ (i j low : ℕ) (h : j < length xs) where
    passes : lowest_after i (j + 1) low ≡ lowest_by work t (transaction_at xs i) (edges_of (record_at xs i) (drop (suc j) xs)) low
    passes = ap (λ k. lowest_after i k low) (add-one j)

    stands : lowest_after i j low ≡ lowest_by work t (transaction_at xs i) (edges_of (record_at xs i) (record_at xs j ∷ drop (suc j) xs)) low
    stands = ap (λ ys. lowest_by work t (transaction_at xs i) (edges_of (record_at xs i) ys) low) (drop-cons xs j record_past_end h)

    pub passed_none : makes (record_at xs i) (record_at xs j) ≡ false → lowest_after i (j + 1) low ≡ lowest_after i j low
    passed_none e = passes ∙ sym (stands ∙ later-none work t (record_at xs i) (record_at xs j) (drop (suc j) xs) low e)

    pub passed-made : (r : ℕ) → with-one work t (transaction_at xs j) low ≡ r → makes (record_at xs i) (record_at xs j) ≡ true
        → lowest_after i (j + 1) r ≡ lowest_after i j low
    passed-made r is e =
        let later : List Labelled = drop (suc j) xs in
        ap (λ k. lowest_after i k r) (add-one j)
        ∙ sym (stands ∙ later-made work t (record_at xs i) (record_at xs j) later low e ∙ ap (lowest_by work t (transaction_at xs i) (edges_of (record_at xs i) later)) is)

    -- one that isn't lower, with an edge or without
    pub passed-same : with-one work t (transaction_at xs j) low ≡ low → lowest_after i (j + 1) low ≡ lowest_after i j low
    passed-same is = by (makes (record_at xs i) (record_at xs j)) (passed-made low is) passed_none

  -- all later records passed by
  pub passed-all : (i j low : ℕ) → length xs ≤ j → lowest_after i j low ≡ low
  unfolding lowest_by edges_of
  passed-all i j low h = ap (λ ys. lowest_by work t (transaction_at xs i) (edges_of (record_at xs i) ys) low) (drop_of_length-le xs h)

  -- none of those that are left is lower, or makes an edge
  pub passed-rest : (d i j low : ℕ) → j + d ≡ length xs
      → ((k : ℕ) → j ≤ k → k < length xs → (with-one work t (transaction_at xs k) low ≡ low) ⊎ (makes (record_at xs i) (record_at xs k) ≡ false))
      → lowest_after i j low ≡ low
  passed-rest zero i j low e same = passed-all i j low (omega arith)
  passed-rest (suc d) i j low e same =
      sym (⊎_elim (passed-same i j low (omega arith)) (passed_none i j low (omega arith)) (same j (omega arith) (omega arith)))
      ∙ passed-rest d i (j + 1) low (omega arith) (λ k h. same k (omega arith))

  -- a record after i, of t, with an edge
  met-later : has work t t ≡ true → (d i j k low : ℕ) → j + d ≡ k → k < length xs → transaction_at xs k ≡ t → makes (record_at xs i) (record_at xs k) ≡ true → lowest_after i j low ≡ 0
  met-later own zero i j k low e h of-t m =
      let at : k ≡ j = omega arith in
      sym (passed-made i j low (omega arith) 0 (subst (λ l. with-one work t (transaction_at xs l) low ≡ 0) at (with-own work t (transaction_at xs k) low of-t own))
      (subst (λ l. makes (record_at xs i) (record_at xs l) ≡ true) at m))
      ∙ lowest-zero work t (transaction_at xs i) (edges_of (record_at xs i) (drop (j + 1) xs))
  met-later own (suc d) i j k low e h of-t m = by (makes (record_at xs i) (record_at xs j))
      (λ q. sym (passed-made i j low (omega arith) (with-one work t (transaction_at xs j) low) refl q) ∙ met-later own d i (j + 1) k (with-one work t (transaction_at xs j) low) (omega arith) h of-t m)
      (λ q. sym (passed_none i j low (omega arith) q) ∙ met-later own d i (j + 1) k low (omega arith) h of-t m)

  -- the edges from a record on are its own and those from the next on
  from-split : (a i low : ℕ) → i < length xs → lowest_from a i low ≡ lowest_from a (i + 1) (lowest_by work t a (edges_of (record_at xs i) (drop (suc i) xs)) low)
  unfolding edges
  from-split a i low h =
      let later : List Labelled = drop (suc i) xs in
      ap (λ xs. lowest_by work t a (edges xs) low) (drop-cons xs i record_past_end h)
      ∙ lowest-append work t a (edges_of (record_at xs i) later) (edges later) low
      ∙ sym (ap (λ k. lowest_from a k (lowest_by work t a (edges_of (record_at xs i) later) low)) (add-one i))

  -- a record of a's passed by, and one of another transaction
  pub from-own : (a i low r : ℕ) → i < length xs → transaction_at xs i ≡ a → r ≡ lowest_after i (suc i) low → lowest_from a (i + 1) r ≡ lowest_from a i low
  from-own a i low r h own is =
      ap (lowest_from a (i + 1)) (is ∙ ap (λ b. lowest_by work t b (edges_of (record_at xs i) (drop (suc i) xs)) low) own)
      ∙ sym (from-split a i low h)

  pub from-other : (a i low : ℕ) → i < length xs → (transaction_at xs i ≡ a → ⊥) → lowest_from a (i + 1) low ≡ lowest_from a i low
  from-other a i low h other =
      sym (from-split a i low h ∙ ap (lowest_from a (i + 1)) (none_of work t (record_at xs i) (drop (suc i) xs) a low (ne_eqb (transaction_at xs i) a other)))

  -- all records passed by
  pub from_all : (a i low : ℕ) → length xs ≤ i → lowest_from a i low ≡ low
  unfolding lowest_by edges
  from_all a i low h = ap (λ xs. lowest_by work t a (edges xs) low) (drop_of_length-le xs h)

  -- where record i of a's has an edge to t, nothing is lower
  pub from-met : (a i low : ℕ) → has work t t ≡ true → i < length xs → transaction_at xs i ≡ a → meets xs i t ≡ true → lowest_from a i low ≡ 0
  unfolding meets
  from-met a i low own h of-a met =
      let f : Holds (meets_at xs t i) (from (suc i) (length xs - suc i)) = some_at (meets_at xs t i) (from (suc i) (length xs - suc i)) (T_of met) in
      let k : ℕ = f.x in
      let le : suc i ≤ k = from_le (suc i) (length xs - suc i) k f.in-l in
      let lt : k < suc i + (length xs - suc i) = from-bound (suc i) (length xs - suc i) k f.in-l in
      let of-t : transaction_at xs k ≡ t = eqb→eq (transaction_at xs k) t (and_left (eqb (transaction_at xs k) t) (makes (record_at xs i) (record_at xs k)) f.holds) in
      let m : makes (record_at xs i) (record_at xs k) ≡ true = T-is (makes (record_at xs i) (record_at xs k))
      (and_right (eqb (transaction_at xs k) t) (makes (record_at xs i) (record_at xs k)) f.holds) in
      sym (from-own a i low 0 h of-a (sym (met-later own (k - suc i) i (suc i) k low (omega arith) (omega arith) of-t m))) ∙ lowest-zero work t a (edges (drop (i + 1) xs))

  -- what comes next, by the lowest rank
  module _ (a i low : ℕ) (is : lowest_from a i low ≡ lowest_from a 0 (suc transaction_limit)) where
    pub next-closes : lowest_from a i low ≡ 0 → None ≡ next_by (edges xs) work t a
    unfolding next_by
    next-closes z = rw (sym is ∙ z, next_by)

    module _ (end : length xs ≤ i) where
      whole : lowest_by work t a (edges xs) (suc transaction_limit) ≡ low
      whole = sym is ∙ from_all a i low end

      pub next-goes : (b : ℕ) → low ≡ suc b → Some (cond (ltb b transaction_limit) b 0) ≡ next_by (edges xs) work t a
      unfolding next_by
      next-goes b e = rw (whole ∙ e, next_by)
