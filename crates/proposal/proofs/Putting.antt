-- Laws of what is kept that the code of a step cites: by the ways through it.
use Prim.Native.Nat.{ℕ, pred, ◌-◌, ◌≤◌, ◌<◌}
use native.Mathlib.Omega.{arith}
use mathlib.Core.Path.{◌≡◌, refl, sym, ap, ap₂, subst, ◌∙◌}
use mathlib.Core.Logic.{◌≢◌}
use mathlib.Core.Bool.{Bool, true, false, cond, ◌&&◌, ◌||◌}
use Rattle.std.specs.Prelude.{Result, Ok, Err, Some, None}
use mathlib.Core.List.{List}
use lib.ListN.{get_or}
use lib.Dec.{T, eqb, leb, ltb}
use borrow.Author.Tests.{eq-eqb, ne_eqb, lt-ltb, le-ltb}
use Rattle.record.specs.declared.Event.{Event}
use Rattle.record.specs.declared.Op.{Op}
use Rattle.record.specs.declared.Op.TheVariants.{Read, Write, Acquire, Release, Prewait, Postwait, Notify, Fork, Join, Yield}
use Rattle.graph.specs.Conflict.{joins}
use Rattle.graph.specs.declared.Tally.{Tally}
use Rattle.graph.specs.Transactions.{begins, belongs, full, tallied, numbered, counted}
use Rattle.looking.proofs.Seen.{counted-full, counted_of, counted-tallied}
use Rattle.second.specs.declared.Cells.{Cells}
use Rattle.second.specs.Taken.{closing, Taken, taken_as, taken}
use Rattle.lists.proofs.Tests.{by, or-false-both}
use Rattle.proposal.specs.Walk.{yield_of}
use Rattle.proposal.specs.Keeping.{Kept, needing, full_as, put_in, Stepping, step_as, last_in, readied, stepping}

pub not-both : {A B : Type 0} {a : A} {b : B} → ◌≡◌ {A = Result A B} (Ok a) (Err b) → ⊥
not-both h = let no : ◌≡◌ {A = ℕ} 0 1 = cc h in absurd (omega (arith, no))

pub same-mark : {A B : Type 0} {a b : A} → ◌≡◌ {A = Result A B} (Ok a) (Ok b) → a ≡ b
same-mark h = cc h

pub same-number : {A B : Type 0} {a b : B} → ◌≡◌ {A = Result A B} (Err a) (Err b) → a ≡ b
same-number h = cc h

-- ---- whether an event needs a yield

pub is-join : (o : Op) (u : ℕ) → o ≡ Join u → joins o ≡ true
unfolding joins
is-join o u h = ap joins h

pub no-join : (o : Op) → ((u : ℕ) → o ≡ Join u → ⊥) → joins o ≡ false
unfolding joins
no-join (Read x v) n = refl
no-join (Write x v) n = refl
no-join (Acquire m) n = refl
no-join (Release m) n = refl
no-join (Prewait m) n = refl
no-join (Postwait m) n = refl
no-join (Notify m) n = refl
no-join (Fork u) n = refl
no-join (Join u) n = absurd (n u refl)
no-join Yield n = refl

module _ (cells : Cells) (rows current : List ℕ) (e : Event) where
  abbrev own : ℕ
  own = get_or current e.thread 0

  abbrev by_tests : Bool → Bool → Bool
  by_tests j z = cond (j || z) false (closing cells rows (pred own) e)

  pub needing-join : joins e.op ≡ true → false ≡ needing cells rows current e
  unfolding needing
  needing-join h = sym (ap (λ j. by_tests j (eqb own 0)) h)

  module _ (no_join : joins e.op ≡ false) where
    pub needing-first : own ≡ 0 → false ≡ needing cells rows current e
    unfolding needing
    needing-first h = sym (ap₂ by_tests no_join (eq-eqb own 0 h))

    pub needing-open : own ≢ 0 → closing cells rows (own - 1) e ≡ needing cells rows current e
    unfolding needing
    needing-open h =
        let less : own - 1 ≡ pred own = omega arith in
        ap (λ a. closing cells rows a e) less ∙ sym (ap₂ by_tests no_join (ne_eqb own 0 h))

-- what the number says
abbrev number-by : Bool → ℕ
number-by b = cond b 13 0

not-full : (s : Tally) (e : Event) → 0 ≡ full_as s e → full s e ≡ false
unfolding full_as
not-full s e h = by (full s e) (λ b. absurd (omega (arith, h, ap number-by b))) (λ b. b)

is-full-by : (s : Tally) (e : Event) (f : ℕ) → f ≡ full_as s e → f ≢ 0 → (full s e ≡ true) × (f ≡ 13)
unfolding full_as
is-full-by s e f h some = by (full s e)
    (λ b. (b, h ∙ ap number-by b))
    (λ b. absurd (some (h ∙ ap number-by b)))

-- ---- an event put

module _ (k : Kept) (e : Event) where
  abbrev s : Tally
  s = k.tally

  abbrev with : ℕ → ℕ → Tally → Kept
  with n a t = record { cells = (taken k.cells k.rows n a e).cells; rows = (taken k.cells k.rows n a e).rows; tally = t }

  -- the number
  pub none-full : full s e ≡ false → full_as s e ≡ 0
  unfolding full_as
  none-full h = ap (λ b. cond b 13 0) h

  pub is-full : full s e ≡ true → full_as s e ≡ 13
  unfolding full_as
  is-full h = ap (λ b. cond b 13 0) h

  -- and what is kept
  put-open : full s e ≡ false → put_in k e ≡ with (tallied s e).count (belongs s e) (tallied s e)
  unfolding put_in
  put-open h = ap (λ b. cond b k (with (tallied s e).count (belongs s e) (tallied s e))) h

  pub put-none : full s e ≡ true → put_in k e ≡ k
  unfolding put_in
  put-none h = ap (λ b. cond b k (with (tallied s e).count (belongs s e) (tallied s e))) h

  pub put-taken : (a : ℕ) (t : Tally) (cells : Cells) (rows : List ℕ) → numbered s e ≡ Some a → t ≡ counted s e
      → taken_as cells rows ≡ taken k.cells k.rows t.count a e
      → (0 ≡ full_as s e) × (◌≡◌ {A = Kept} (record { cells = cells; rows = rows; tally = t }) (put_in k e))
  put-taken a t cells rows n c r =
      let o = counted_of s e a n in
      let is : t ≡ tallied s e = c ∙ counted-tallied s e o.0 in (
        sym (none-full o.0),
        ap (λ (y : Taken). record { cells = y.cells; rows = y.rows; tally = t }) r
            ∙ ap₂ (λ (u : Tally) (b : ℕ). with u.count b u) is (sym o.1)
            ∙ sym (put-open o.0),
      )

  pub put_full : (t : Tally) → numbered s e ≡ None → t ≡ counted s e
      → (13 ≡ full_as s e) × (◌≡◌ {A = Kept} (record { cells = k.cells; rows = k.rows; tally = t }) (put_in k e))
  unfolding counted
  put_full t n c =
      let f : full s e ≡ true = counted-full s e n in
      let same : t ≡ s = c ∙ ap (λ b. cond b s (tallied s e)) f in
      (sym (is-full f), ap (λ (u : Tally). record { cells = k.cells; rows = k.rows; tally = u }) same ∙ sym (put-none f))

  -- ---- a step, by whether the event needs a yield and whether there is room with it and without

  module _ (built : ℕ) where
    abbrev needs : Bool
    needs = needing k.cells k.rows s.current e

    abbrev yielded : Kept
    yielded = put_in k (yield_of e.thread)

    -- a yield of a thread in the middle of a transaction begins none
    pub yield-fits : needs ≡ true → full_as s (yield_of e.thread) ≡ 0
    unfolding needing full_as full begins joins
    yield-fits h =
        let own : ℕ = get_or s.current e.thread 0 in
        by (joins e.op || eqb own 0)
        (λ b. absurd (subst T (sym h ∙ ap (λ c. cond c false (closing k.cells k.rows (pred own) e)) b) tt))
        (λ b. ap (λ z. number-by (z && leb 512 s.count)) (or-false-both (joins e.op) (eqb own 0) b).1)

    abbrev ready_by : Bool → Bool → Bool → Stepping
    ready_by n y a = cond n (cond y (step_as (Err 15) k) (step_as (Ok true) yielded)) (cond a (step_as (Err 15) k) (step_as (Ok false) k))

    abbrev step_by : Bool → Bool → Bool → Stepping
    step_by n y a = cond n (cond y (step_as (Err 15) k) (last_in true yielded e)) (cond a (step_as (Err 15) k) (last_in false k e))

    module _ (is : needs ≡ true) where
      pub ready-short : 1022 < built → step_as (Err 15) k ≡ readied built k e
      unfolding readied
      ready-short h = sym (ap₂ (λ n y. ready_by n y (ltb 1023 built)) is (lt-ltb 1022 built h))

      pub ready-yield : (j : Kept) → built ≤ 1022 → j ≡ yielded → step_as (Ok true) j ≡ readied built k e
      unfolding readied
      ready-yield j h q = ap (step_as (Ok true)) q ∙ sym (ap₂ (λ n y. ready_by n y (ltb 1023 built)) is (le-ltb 1022 built h))

    module _ (is : needs ≡ false) where
      pub ready-short-alone : 1023 < built → step_as (Err 15) k ≡ readied built k e
      unfolding readied
      ready-short-alone h = sym (ap₂ (λ n a. ready_by n (ltb 1022 built) a) is (lt-ltb 1023 built h))

      pub ready-alone : built ≤ 1023 → step_as (Ok false) k ≡ readied built k e
      unfolding readied
      ready-alone h = sym (ap₂ (λ n a. ready_by n (ltb 1022 built) a) is (le-ltb 1023 built h))

    -- there is no room, or there is and the event is put
    stop-by : (n y a : Bool) (f : ℕ) → (ready_by n y a).answer ≡ Err f → ready_by n y a ≡ step_by n y a
    stop-by true true a f h = refl
    stop-by true false a f h = absurd (not-both h)
    stop-by false y true f h = refl
    stop-by false y false f h = absurd (not-both h)

    last-by : (n y a mark : Bool) → (ready_by n y a).answer ≡ Ok mark → last_in mark (ready_by n y a).kept e ≡ step_by n y a
    last-by true true a mark h = absurd (not-both (sym h))
    last-by true false a mark h = ap (λ m. last_in m yielded e) (sym (same-mark h))
    last-by false y true mark h = absurd (not-both (sym h))
    last-by false y false mark h = ap (λ m. last_in m k e) (sym (same-mark h))

    module _ (r : Stepping) (is : r ≡ readied built k e) where
      pub step-stop : (f : ℕ) → r.answer ≡ Err f → r ≡ stepping built k e
      unfolding readied stepping
      step-stop f h = is ∙ stop-by needs (ltb 1022 built) (ltb 1023 built) f (ap (λ x. x.answer) (sym is) ∙ h)

      step-last : (mark : Bool) → r.answer ≡ Ok mark → last_in mark r.kept e ≡ stepping built k e
      unfolding readied stepping
      step-last mark h =
          ap (λ x. last_in mark x.kept e) is
          ∙ last-by needs (ltb 1022 built) (ltb 1023 built) mark (ap (λ x. x.answer) (sym is) ∙ h)

      -- by how putting the event ends
      pub step-put : (mark : Bool) (j : Kept) → r.answer ≡ Ok mark → 0 ≡ full_as r.kept.tally e → j ≡ put_in r.kept e → step_as (Ok mark) j ≡ stepping built k e
      step-put mark j h n q =
          ap (step_as (Ok mark)) q
          ∙ ap (λ b. step_as (cond b (Err 13) (Ok mark)) (put_in r.kept e)) (sym (not-full r.kept.tally e n))
          ∙ step-last mark h

      pub step-full : (mark : Bool) (j : Kept) (f : ℕ) → r.answer ≡ Ok mark → f ≡ full_as r.kept.tally e → f ≢ 0 → j ≡ put_in r.kept e
          → step_as (Err f) j ≡ stepping built k e
      step-full mark j f h n some q =
          let full-now = is-full-by r.kept.tally e f n some in
          ap₂ (λ (m : ℕ) i. step_as (Err m) i) full-now.1 q
          ∙ ap (λ b. step_as (cond b (Err 13) (Ok mark)) (put_in r.kept e)) (sym full-now.0)
          ∙ step-last mark h
