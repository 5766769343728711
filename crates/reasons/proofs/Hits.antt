-- Laws of the search over the records that arrays hold: what has been passed, and what the first hit is; and the edge at a place of a cycle.
use Prim.Native.Nat.{ℕ, suc, ◌+◌, ◌-◌, ◌<◌, ◌≤◌}
use native.Mathlib.Omega.{arith}
use native.Mathlib.Numerals.{add-one}
use mathlib.Core.Path.{◌≡◌, sym, ap, ◌∙◌}
use mathlib.Core.Bool.{Bool, true, false, ◌&&◌}
use mathlib.Core.List.{List}
use lib.ListN.{length, get_or, take, drop, length-drop, get_or-eq_default}
use lib.Seq.{get_or-drop}
use lib.Dec.{eqb}
use borrow.Author.Count.{below_more}
use borrow.Author.Tests.{eq-eqb, ne_eqb}
use Rattle.std.proofs.lemmas.List.{get_or_default}
use Rattle.lists.proofs.Tests.{T_of}
use Rattle.lists.proofs.Places.{rest-whole}
use Rattle.graph.specs.Conflict.{conflict}
use Rattle.graph.specs.declared.Labelled.{Labelled}
use Rattle.reasons.specs.declared.Reason.{Reason}
use Rattle.reasons.specs.declared.Cause.{Cause}
use Rattle.reasons.specs.Why.{no_event, at, makes_it, earliest_first, earliest_second, reason_of, cause_of, goal_of}
use Rattle.reasons.proofs.Pairs.{Pair, first_under, second-under, first-at, second_at, first-none, second_none}

abbrev no_record : Labelled
no_record = record { transaction = 0; event = no_event }

module _ (xs : List Labelled) (a b : ℕ) where
  -- no pair whose first record stands before record i makes the edge
  abbrev pub NoneBelow : ℕ → Type 0
  NoneBelow i = (k : ℕ) → k < i → (m : ℕ) → k < m → m < length xs → makes_it xs a b k m ≡ false

  -- nor one of record i and the k behind it
  abbrev pub NoneAt : ℕ → ℕ → Type 0
  NoneAt i k = (m : ℕ) → m < k → makes_it xs a b i (i + 1 + m) ≡ false

  -- what is answered: the two records
  abbrev pub Answered : ℕ → ℕ → Type 0
  Answered i j = (i ≡ earliest_first xs a b) × (j ≡ earliest_second xs a b (earliest_first xs a b))

  -- the first hit
  hit-first : (i j : ℕ) → i < j → j < length xs → makes_it xs a b i j ≡ true → NoneBelow i → ((m : ℕ) → i < m → m < j → makes_it xs a b i m ≡ false) → Answered i j
  unfolding earliest_first earliest_second
  hit-first i j h k t below at_i =
      let p : Pair (makes_it xs a b) (length xs) i j = record { ordered = h; within = k; hits = T_of t } in
      let e : earliest_first xs a b ≡ i = first-at (makes_it xs a b) (length xs) p below in
      (sym e, sym (ap (earliest_second xs a b) e ∙ second_at (makes_it xs a b) (length xs) p at_i))

  -- no hit
  pub hit-none : (n : ℕ) → length xs ≤ n → NoneBelow n → Answered 0 0
  unfolding earliest_first earliest_second
  hit-none n all below =
      let none : (c m : ℕ) → c < m → m < length xs → makes_it xs a b c m ≡ false = λ c m g q. below c (omega arith) m g q in
      let e : earliest_first xs a b ≡ 0 = first-none (makes_it xs a b) (length xs) none in
      (sym e, sym (ap (earliest_second xs a b) e ∙ second_none (makes_it xs a b) (length xs) none 0))

  -- ---- One record, and those behind it

  module _ (i : ℕ) (inside : i < length xs) where
    abbrev pub behind : List Labelled
    behind = take (length xs - (i + 1)) (drop (i + 1) xs)

    behind-length : length behind ≡ length xs - (i + 1)
    behind-length = ap length (rest-whole xs (i + 1)) ∙ length-drop (i + 1) xs

    behind-is : (k : ℕ) (e : Labelled) → k < length behind → get_or behind k e ≡ at xs (i + 1 + k)
    behind-is k e h = get_or_default behind k e no_record h ∙ ap (λ l. get_or l k no_record) (rest-whole xs (i + 1)) ∙ get_or-drop (i + 1) xs k no_record

    -- where all behind it are passed, none of them makes the edge with it
    pub none_behind : (k : ℕ) → length behind ≤ k → NoneAt i k → NoneBelow i → NoneBelow (i + 1)
    none_behind k all none below =
        below_more _ i below (λ m g q.
        let j : m ≡ i + 1 + (m - (i + 1)) = omega (arith, g) in
        ap (makes_it xs a b i) j ∙ none (m - (i + 1)) (omega (arith, g, q, all, behind-length)))

    -- it is read with some default
    module _ (d : Labelled) where
      is-at : get_or xs i d ≡ at xs i
      is-at = get_or_default xs i d no_record inside

      -- of another transaction
      pub passed_over : ((get_or xs i d).transaction ≡ a → ⊥) → NoneBelow i → NoneBelow (i + 1)
      unfolding makes_it
      passed_over other below = below_more _ i below (λ m g q. none m)
        where
          none : (m : ℕ) → makes_it xs a b i m ≡ false
          none m = rw (sym is-at, ne_eqb (get_or xs i d).transaction a other)

      -- and so is the record k behind it
      module _ (own : (get_or xs i d).transaction ≡ a) (k : ℕ) (e : Labelled) (within : k < length behind) where
        abbrev pub clashing : Bool
        clashing = conflict (get_or xs i d).event (get_or behind k e).event

        hit-is : makes_it xs a b i (i + 1 + k) ≡ (eqb (get_or behind k e).transaction b && clashing)
        unfolding makes_it
        hit-is = rw (sym is-at, eq-eqb (get_or xs i d).transaction a own, sym (behind-is k e within))

        pub passed_other : ((get_or behind k e).transaction ≡ b → ⊥) → NoneAt i k → NoneAt i (k + 1)
        passed_other other none = below_more _ k none (hit-is ∙ rw (ne_eqb (get_or behind k e).transaction b other))

        pub passed_apart : (get_or behind k e).transaction ≡ b → clashing ≡ false → NoneAt i k → NoneAt i (k + 1)
        passed_apart same apart none = below_more _ k none (hit-is ∙ rw (eq-eqb (get_or behind k e).transaction b same, apart))

        pub found_behind : (get_or behind k e).transaction ≡ b → clashing ≡ true → NoneBelow i → NoneAt i k → Answered i (i + 1 + k)
        found_behind same clash below none =
            hit-first i (i + 1 + k) (omega arith) (omega (arith, within, behind-length)) (hit-is ∙ rw (eq-eqb (get_or behind k e).transaction b same, clash)) below
            (λ m g l.
            let j : m ≡ i + 1 + (m - (i + 1)) = omega (arith, g) in
            ap (makes_it xs a b i) j ∙ none (m - (i + 1)) (omega (arith, g, l)))

  -- ---- the two records and the reason

  pub first_small : 1 ≤ length xs → earliest_first xs a b < length xs
  unfolding earliest_first
  first_small some = first_under (makes_it xs a b) (length xs) some

  pub second-small : 1 ≤ length xs → (i : ℕ) → earliest_second xs a b i < length xs
  unfolding earliest_second
  second-small some i = second-under (makes_it xs a b) (length xs) i some

  -- read with any defaults
  pub cause-right : (i j : ℕ) (d e : Labelled) (r : Reason) → Answered i j → i < length xs → j < length xs → r ≡ reason_of (get_or xs i d).event (get_or xs j e).event
      → ◌≡◌ {A = Cause} (record { first = i; second = j; reason = r }) (cause_of xs a b)
  unfolding cause_of
  cause-right i j d e r f h k q =
      let p : earliest_first xs a b ≡ i = sym f.0 in
      let s : earliest_second xs a b i ≡ j = ap (earliest_second xs a b) f.0 ∙ sym f.1 in
      rw (p, s, q, get_or_default xs i d no_record h, get_or_default xs j e no_record k)

-- ---- the edge at a place of a cycle goes to the next transaction, and at the last place back to the first

pub goal-next : (cycle : List ℕ) (p : ℕ) → p + 1 < length cycle → goal_of cycle p ≡ get_or cycle (p + 1) 0
goal-next cycle p h = get_or_default cycle (suc p) (get_or cycle 0 0) 0 (omega arith) ∙ ap (λ i. get_or cycle i 0) (sym (add-one p))

pub goal-first : (cycle : List ℕ) (p : ℕ) → length cycle ≤ p + 1 → goal_of cycle p ≡ get_or cycle 0 0
goal-first cycle p h = get_or-eq_default cycle (get_or cycle 0 0) {n = suc p} (omega arith)
