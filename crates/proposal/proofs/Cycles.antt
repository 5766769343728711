-- What one record more does to cycles: one that begins a transaction closes none, and neither does a yield in the middle of a transaction.
use Prim.Native.Nat.{ℕ, zero, suc, pred, ◌≤◌}
use native.Mathlib.Omega.{arith}
use mathlib.Core.Path.{◌≡◌, refl, sym, ap, ◌∙◌, subst}
use mathlib.Core.Logic.{◌≢◌, ◌⊎◌, inl, inr}
use mathlib.Core.Bool.{Bool, true, false, not, ◌&&◌, ◌||◌}
use mathlib.Core.List.{List, [], ◌∷◌, ◌++◌}
use lib.Dec.{T, T_not, eqb, eqb→eq, eqb_refl}
use borrow.Author.Tests.{eq-eqb}
use Rattle.record.specs.declared.Event.{Event}
use Rattle.record.specs.declared.Op.TheVariants.{Yield}
use Rattle.record.specs.Record.{target}
use Rattle.lists.specs.Lists.{some_of}
use Rattle.trace.specs.Paths.{Edge, has_edge, PathAlong, reaches, cyclic}
use Rattle.lists.proofs.Tests.{by, by-same, T_of, T-is, or_cases, or_left, or_right, and_left, and_right, and_both}
use Rattle.lists.proofs.Lists.{Among, Before, among-cons, some-none, among-map, before-map, before-mid, mid-before, among-parts}
use Rattle.trace.proofs.Reach.{Bounded, edge-below, sound, edge-back}
use Rattle.trace.proofs.Closing.{cyclic-goal}
use Rattle.graph.specs.Conflict as Conflict
use Rattle.graph.specs.Conflict.{accesses, writes, locks, forks, joins, same_thread, same_variable, same_lock, governs, same_child, conflict}
use Rattle.graph.specs.declared.Labelled.{Labelled}
use Rattle.graph.specs.declared.Tally.{Tally}
use Rattle.graph.specs.Transactions.{none_yet, current_of, begins, belongs, tallied, labelled_from, labelled, tally_from}
use Rattle.graph.specs.Edges.{makes, edges}
use Rattle.graph.specs.Held.{labelled_as}
use Rattle.graph.proofs.Clash.{conflict-own}
use Rattle.graph.proofs.Ends.{pair-has}
use Rattle.graph.proofs.Labels.{ev, labelled-events}
use Rattle.graph.proofs.Numbers.{sane-none, open_of, belongs-first, belongs-open, labels-lt, bounded-edges, current-here, current-other}
use Rattle.graph.proofs.Steps.{among_none, edges-snoc}
use Rattle.second.proofs.Orderly.{Fits}
use Rattle.proposal.specs.Walk.{yield_of, needs_yield}
use Rattle.proposal.proofs.Appending.{labelled-append, tally-append}
use Rattle.proposal.proofs.Idle.{current-ended, yield-last}

pub fails : (b : Bool) → (T b → ⊥) → b ≡ false
fails b h = by b (λ e. absurd (h (T_of e))) (λ e. e)

-- ---- one record more

-- it closes a cycle exactly if its transaction reaches one that gives it an edge
cyclic-snoc : (xs : List Labelled) (x : Labelled) → cyclic (edges xs) ≡ false
    → cyclic (edges (xs ++ (x ∷ []))) ≡ some_of (λ y. makes y x && reaches (edges xs) x.transaction y.transaction) xs
cyclic-snoc xs x none = cyclic-goal (edges xs) (edges (xs ++ (x ∷ []))) x.transaction xs (λ y. y.transaction) (λ y. makes y x) (edges-snoc xs x) none

-- so it closes none if none that gives it an edge is reached
closes-none : (xs : List Labelled) (x : Labelled) → cyclic (edges xs) ≡ false
    → ((y : Labelled) → Among y xs → T (makes y x) → T (reaches (edges xs) x.transaction y.transaction) → ⊥) → cyclic (edges (xs ++ (x ∷ []))) ≡ false
closes-none xs x none apart =
    let r : Labelled → Bool = λ y. reaches (edges xs) x.transaction y.transaction in
    cyclic-snoc xs x none
    ∙ some-none (λ y. makes y x && r y) xs (λ y m. fails (makes y x && r y) (λ t. apart y m (and_left (makes y x) (r y) t) (and_right (makes y x) (r y) t)))

-- ---- a record that begins a transaction

-- no path leaves a transaction that has no edges
no-way-out : (n : ℕ) (g : List Edge) → Bounded n g → {a b : ℕ} → n ≤ a → PathAlong g a b → a ≡ b
no-way-out n g bounded h PathAlong.here = refl
no-way-out n g bounded h (PathAlong.there {a} {b} t p) = absurd (omega (arith, (edge-below n g bounded a b t).0))

module _ (built : List Event) where
  abbrev pub tally : Tally
  tally = tally_from none_yet built

  pub labelled-more : (e : Event) → labelled (built ++ (e ∷ [])) ≡ labelled built ++ (labelled_as (belongs tally e) e ∷ [])
  unfolding labelled_from
  labelled-more e = labelled-append none_yet built (e ∷ [])

  module _ (none : cyclic (edges (labelled built)) ≡ false) where
    pub begins-none : (e : Event) → begins tally e ≡ true → cyclic (edges (labelled (built ++ (e ∷ [])))) ≡ false
    begins-none e b =
        let xs : List Labelled = labelled built in
        let n : ℕ = tally.count in
        let bounded : Bounded n (edges xs) = bounded-edges n xs (labels-lt none_yet built sane-none) in
        let c : ℕ = belongs tally e in
        ap (λ l. cyclic (edges l)) (labelled-more e)
        ∙ closes-none xs (labelled_as c e) none (λ y m t r. absurd (omega (
          arith,
          labels-lt none_yet built sane-none y m,
          belongs-first tally e b,
          no-way-out n (edges xs) bounded (omega (arith, belongs-first tally e b)) (sound (edges xs) c y.transaction r),
        )))

    -- so a record that needs a yield begins none
    pub needs-open : (e : Event) → needs_yield built e ≡ true → begins tally e ≡ false
    unfolding needs_yield
    needs-open e h = fails (begins tally e) (λ t. subst T (sym h ∙ begins-none e (T-is (begins tally e) t)) tt)

-- ---- the newest record of a thread

pub record Newest (t c : ℕ) (l : List Labelled) : Type 0 where
  pub older : List Labelled
  pub last : Labelled
  pub newer : List Labelled
  pub whole : l ≡ older ++ (last ∷ newer)
  pub thread-is : last.event.thread ≡ t
  pub transaction-is : last.transaction ≡ c
  pub none : (y : Labelled) → Among y newer → y.event.thread ≢ t

-- at the start no transaction is open
none_open : (t c : ℕ) → current_of none_yet t ≡ suc c → ⊥
unfolding none_yet
none_open t c q = absurd (omega (arith, sane-none t, q))

-- in a thread's open transaction it is there, or the transaction was open before
newest : (s : Tally) (es : List Event) (t c : ℕ) → current_of (tally_from s es) t ≡ suc c
    → Newest t c (labelled_from s es) ⊎ ((current_of s t ≡ suc c) × ((y : Labelled) → Among y (labelled_from s es) → y.event.thread ≢ t))
unfolding tally_from labelled_from
newest s [] t c h = inr (h, λ y m. absurd (among_none m))
newest s (e ∷ es) t c h = go (newest (tallied s e) es t c h)
  where
    here : Labelled
    here = labelled_as (belongs s e) e

    later : List Labelled
    later = labelled_from (tallied s e) es

    go : Newest t c later ⊎ ((current_of (tallied s e) t ≡ suc c) × ((y : Labelled) → Among y later → y.event.thread ≢ t))
        → Newest t c (here ∷ later) ⊎ ((current_of s t ≡ suc c) × ((y : Labelled) → Among y (here ∷ later) → y.event.thread ≢ t))
    go (inl r) = inl (record {
      older = here ∷ r.older;
      last = r.last;
      newer = r.newer;
      whole = ap (λ l. here ∷ l) r.whole;
      thread-is = r.thread-is;
      transaction-is = r.transaction-is;
      none = r.none;
    })
    go (inr r) = by-same t e.thread
        (λ q. inl (record {
          older = [];
          last = here;
          newer = later;
          whole = refl;
          thread-is = sym q;
          transaction-is = sym (current-here s e c (ap (current_of (tallied s e)) (sym q) ∙ r.0));
          none = r.1;
        }))
        (λ d. inr (sym (current-other s e t d) ∙ r.0, λ y m. among-cons m (λ q z. d (sym z ∙ ap (λ x. x.event.thread) q)) (r.1 y)))

-- ---- a yield in the middle of a transaction

-- what conflicts with a yield: operations of its thread, and forks and joins of it
yield-conflict : {C : Type 0} (a : Event) (t : ℕ) → T (conflict a (yield_of t)) → (a.thread ≡ t → C) → (T (governs a (yield_of t)) → C) → C
unfolding Conflict.opened
yield-conflict a t h f g =
    let y : Event = yield_of t in
    let A = a.op in
    or_cases (same_thread a y) (same_variable a y || (same_lock a y || (governs a y || (governs y a || same_child a y)))) h (λ u. f (eqb→eq a.thread t u))
    (λ h. or_cases (same_variable a y) (same_lock a y || (governs a y || (governs y a || same_child a y))) h
    (λ u. absurd (and_right (accesses A) (accesses Yield)
    (and_left (accesses A && accesses Yield) (writes A || writes Yield)
    (and_left (accesses A && accesses Yield && (writes A || writes Yield)) (eqb (target A) 0) u))))
    (λ h. or_cases (same_lock a y) (governs a y || (governs y a || same_child a y)) h
    (λ u. absurd (and_right (locks A) (locks Yield) (and_left (locks A && locks Yield) (eqb (target A) 0) u)))
    (λ h. or_cases (governs a y) (governs y a || same_child a y) h g
    (λ h. or_cases (governs y a) (same_child a y) h
    (λ u. absurd (and_left (forks Yield || joins Yield) (eqb 0 a.thread) u))
    (λ u. or_cases (forks A && joins Yield) (joins A && forks Yield) (and_left ((forks A && joins Yield) || (joins A && forks Yield)) (eqb (target A) 0) u)
    (λ v. absurd (and_right (forks A) (joins Yield) v))
    (λ v. absurd (and_right (joins A) (forks Yield) v)))))))

-- they conflict with each other operation of that thread as well
own-conflict : (a b : Event) (t : ℕ) → b.thread ≡ t → T (conflict a (yield_of t)) → T (conflict a b)
unfolding conflict governs
own-conflict a b t same h = yield-conflict a t h (λ q. conflict-own a b (q ∙ sym same)) governing
  where
    governing : T (governs a (yield_of t)) → T (conflict a b)
    governing g =
        or_right (same_thread a b) (same_variable a b || (same_lock a b || (governs a b || (governs b a || same_child a b))))
        (or_right (same_variable a b) (same_lock a b || (governs a b || (governs b a || same_child a b)))
        (or_right (same_lock a b) (governs a b || (governs b a || same_child a b))
        (or_left (governs a b) (governs b a || same_child a b) (subst (λ u. T ((forks a.op || joins a.op) && eqb (target a.op) u)) (sym same) g))))

-- a fork or a join, and its target
governs-parts : {C : Type 0} (a : Event) (t : ℕ) → T (governs a (yield_of t)) → (T (forks a.op) → target a.op ≡ t → C) → (T (joins a.op) → target a.op ≡ t → C) → C
unfolding governs
governs-parts a t g f h =
    let A = a.op in
    let q : target A ≡ t = eqb→eq (target A) t (and_right (forks A || joins A) (eqb (target A) t) g) in
    or_cases (forks A) (joins A) (and_left (forks A || joins A) (eqb (target A) t) g) (λ u. f u q) (λ u. h u q)

module _ (built : List Event) (e : Event) (none : cyclic (edges (labelled built)) ≡ false) (opened : begins (tally built) e ≡ false)
    (inside : (x y : Event) → Before x y built → Fits x y) (ahead : (x : Event) → Among x built → Fits x e) where
  abbrev t : ℕ
  t = e.thread

  abbrev yielding : Event
  yielding = yield_of t

  pub yield-open : begins (tally built) yielding ≡ false
  unfolding begins joins
  yield-open = open_of (tally built) e opened

  -- the labelled records, and the newest one of the thread
  module _ (c : ℕ) (is : current_of (tally built) t ≡ suc c) (n : Newest t c (labelled built)) where
    -- who gives the yield an edge has given the newest record one
    older-edge : (y : Labelled) → Among y (labelled built) → T (makes y (labelled_as c yielding)) → T (has_edge (edges (labelled built)) y.transaction c)
    unfolding makes
    older-edge y m k =
        let z : Labelled = n.last in
        let differ : T (not (eqb y.transaction c)) = and_left (not (eqb y.transaction c)) (conflict y.event yielding) k in
        let clash : T (conflict y.event yielding) = and_right (not (eqb y.transaction c)) (conflict y.event yielding) k in
        let apart : y.transaction ≢ c = λ q. T_not (eqb y.transaction c) differ (subst (λ d. T (eqb y.transaction d)) q (eqb_refl y.transaction)) in
        let in-built : Among y.event built = subst (λ l. Among y.event l) (labelled-events none_yet built) (among-map ev m) in
        among-parts y n.older z n.newer (subst (λ l. Among y l) n.whole m)
        (λ i. subst (λ d. T (has_edge (edges (labelled built)) y.transaction d)) n.transaction-is
        (pair-has y z (labelled built) (subst (λ l. Before y z l) (sym n.whole) (before-mid n.older z n.newer i))
        (and_both (not (eqb y.transaction z.transaction)) (conflict y.event z.event)
        (subst (λ d. T (not (eqb y.transaction d))) (sym n.transaction-is) differ)
        (own-conflict y.event z.event t n.thread-is clash))))
        (λ q. absurd (apart (ap (λ x. x.transaction) q ∙ n.transaction-is)))
        (λ i. let later : Before z.event y.event built =
        subst (λ l. Before z.event y.event l) (labelled-events none_yet built) (before-map ev (subst (λ l. Before z y l) (sym n.whole) (mid-before n.older z n.newer i))) in
        yield-conflict y.event t clash (λ q. absurd (n.none y i q)) (λ g.
        governs-parts y.event t g
        (λ f q. absurd ((inside z.event y.event later).acted f (n.thread-is ∙ sym q)))
        (λ j q. absurd ((ahead y.event in-built).joined j q))))

    pub yield-none-at : cyclic (edges (labelled built ++ (labelled_as c yielding ∷ []))) ≡ false
    yield-none-at = closes-none (labelled built) (labelled_as c yielding) none
        (λ y m k r. subst T none (edge-back (edges (labelled built)) y.transaction c (older-edge y m k) r))

  -- A yield in the middle of a transaction closes no cycle
  pub yield-none : cyclic (edges (labelled (built ++ (yielding ∷ [])))) ≡ false
  yield-none = go (current_of (tally built) t) refl
    where
      at : (c : ℕ) → current_of (tally built) t ≡ suc c
          → Newest t c (labelled built) ⊎ ((current_of none_yet t ≡ suc c) × ((y : Labelled) → Among y (labelled built) → y.event.thread ≢ t)) → Newest t c (labelled built)
      at c q (inl n) = n
      at c q (inr r) = absurd (none_open t c r.0)

      go : (k : ℕ) → current_of (tally built) t ≡ k → cyclic (edges (labelled (built ++ (yielding ∷ [])))) ≡ false
      go zero q = absurd (subst T (open_of (tally built) e opened) (T_of (eq-eqb (current_of (tally built) t) 0 q)))
      go (suc c) q =
          let same : belongs (tally built) yielding ≡ c = belongs-open (tally built) yielding yield-open ∙ ap pred q in
          ap (λ l. cyclic (edges l)) (labelled-more built yielding ∙ ap (λ d. labelled built ++ (labelled_as d yielding ∷ [])) same)
          ∙ yield-none-at c q (at c q (newest none_yet built t c q))

  -- and the record after it begins a transaction
  pub after-begins : begins (tally (built ++ (yielding ∷ []))) e ≡ true
  unfolding begins tally_from
  after-begins =
      ap (λ s. joins e.op || eqb (current_of s t) 0) (tally-append none_yet built (yielding ∷ []))
      ∙ ap (λ k. joins e.op || eqb k 0) (yield-ends)
      ∙ or-true (joins e.op)
    where
      or-true : (b : Bool) → (b || true) ≡ true
      or-true true = refl
      or-true false = refl

      yield-ends : current_of (tallied (tally built) yielding) t ≡ 0
      yield-ends = current-ended (tally built) yielding (yield-last t)

  pub after_none : cyclic (edges (labelled ((built ++ (yielding ∷ [])) ++ (e ∷ [])))) ≡ false
  after_none = begins-none (built ++ (yielding ∷ [])) yield-none e after-begins
