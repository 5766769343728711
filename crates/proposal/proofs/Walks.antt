-- What the walk keeps: the recording built so far is possible with what is still to come, and has no cycle; and it keeps to the limits where there is room.
use Prim.Native.Nat.{ℕ, zero, suc, ◌≤◌}
use native.Mathlib.Omega.{arith}
use mathlib.Core.Path.{◌≡◌, refl, sym, ap, ◌∙◌, subst}
use mathlib.Core.Bool.{true, false, cond, ◌&&◌}
use mathlib.Core.List.{List, [], ◌∷◌, ◌++◌, append_assoc, append-nil}
use lib.ListN.{length}
use lib.Seq.{append_snoc}
use lib.Dec.{T, eqb, leb, eqb_refl}
use borrow.Author.Tests.{leb-true}
use Rattle.record.specs.declared.Event.{Event}
use Rattle.record.specs.Faults.{first_fault}
use Rattle.record.specs.Record as Record
use Rattle.record.specs.Record.{kind, target, value, target_limit, in_range}
use Rattle.record.proofs.Laws.{none_first}
use Rattle.replay.specs.declared.State.{State}
use Rattle.replay.specs.Machine.{fresh, fault_of, act, after, possible}
use Rattle.lists.specs.Lists.{all_of, some_of}
use Rattle.trace.specs.Paths.{cyclic}
use Rattle.lists.proofs.Tests.{by, and_left, and_both}
use Rattle.lists.proofs.Lists.{Among, Before, map-append, among_second, among-parts, all-has, all-of}
use Rattle.graph.specs.Transactions.{none_yet, begins, labelled_from, labelled, tally_from, transactions, transaction_limit}
use Rattle.graph.specs.Edges.{edges}
use Rattle.graph.proofs.Steps.{among_first, before-first, before-end}
use Rattle.second.proofs.Orderly.{Fits, Orderly, orderly-first}
use Rattle.second.proofs.Possible.{first_fine, possible-orderly}
use Rattle.proposal.specs.Walk.{Placed, given, yield_of, yield_for, events_in, needs_yield, placed, grown, walked, finished, record_limit, room_checks, stop}
use Rattle.proposal.proofs.Appending.{possible-parts, possible-both}
use Rattle.proposal.proofs.Idle.{idle-fresh, idle-after, yield-possible}
use Rattle.proposal.proofs.Cycles.{tally, needs-open, after_none}

-- ---- one step of the walk

module _ (built : List Event) (e : Event) where
  pub placed-yield : needs_yield built e ≡ true → placed built e ≡ yield_for e ∷ given e ∷ []
  unfolding placed
  placed-yield h = ap (λ b. cond b (yield_for e ∷ given e ∷ []) (given e ∷ [])) h

  pub placed-alone : needs_yield built e ≡ false → placed built e ≡ given e ∷ []
  unfolding placed
  placed-alone h = ap (λ b. cond b (yield_for e ∷ given e ∷ []) (given e ∷ [])) h

  pub grown-yield : needs_yield built e ≡ true → grown built e ≡ built ++ (yield_of e.thread ∷ e ∷ [])
  unfolding grown
  grown-yield h = ap (λ l. built ++ events_in l) (placed-yield h)

  pub grown-alone : needs_yield built e ≡ false → grown built e ≡ built ++ (e ∷ [])
  unfolding grown
  grown-alone h = ap (λ l. built ++ events_in l) (placed-alone h)

  -- the finished recording, from here and from the next record on
  pub grown-on : (es : List Event) → built ++ events_in (walked built (e ∷ es)) ≡ grown built e ++ events_in (walked (grown built e) es)
  unfolding walked grown
  grown-on es =
      let later : List Placed = walked (grown built e) es in
      ap (λ l. built ++ l) (map-append (λ p. p.event) (placed built e) later) ∙ sym (append_assoc built (events_in (placed built e)) (events_in later))

-- ---- what is kept

pub record Fine (built es : List Event) : Type 0 where
  pub can : T (possible fresh (built ++ es))
  pub fit : T (all_of in_range (built ++ es))
  pub acyclic : cyclic (edges (labelled built)) ≡ false

-- a yield that is possible changes nothing
yield-in : (s : State) (e : Event) (es : List Event) → fault_of s (yield_of e.thread) ≡ 0 → T (possible s (e ∷ es)) → T (possible s (yield_of e.thread ∷ e ∷ es))
unfolding possible act
yield-in s e es fine p = and_both (eqb (fault_of s (yield_of e.thread)) 0) (possible s (e ∷ es)) (subst (λ n. T (eqb n 0)) (sym fine) (eqb_refl 0)) p

-- a yield of a thread is in range where an event of the thread is
yield-ranged : (e : Event) → T (in_range e) → T (in_range (yield_of e.thread))
unfolding Record.opened
yield-ranged e r = and_both (leb e.thread 15) true (and_left (leb e.thread 15) (leb (target e.op) (target_limit (kind e.op)) && leb (value e.op) 65535) r) tt

module _ (built : List Event) (e : Event) (es : List Event) (f : Fine built (e ∷ es)) where
  parts : T (possible fresh built) × T (possible (after fresh built) (e ∷ es))
  parts = possible-parts fresh built (e ∷ es) f.can

  ranged : (x : Event) → Among x (built ++ (e ∷ es)) → T (in_range x)
  ranged x m = all-has in_range x (built ++ (e ∷ es)) f.fit m

  pub next-ranged : T (in_range e)
  next-ranged = ranged e (among_second built (e ∷ es) Among.top)

  -- the recording with the record is orderly
  pub orderly-next : Orderly (built ++ (e ∷ []))
  orderly-next = orderly-first (built ++ (e ∷ [])) es (subst Orderly (sym (append_snoc built e es)) (possible-orderly (built ++ (e ∷ es)) f.can f.fit))

  pub inside : (x y : Event) → Before x y built → Fits x y
  inside x y o = orderly-next.pairs x y (before-first built (e ∷ []) o)

  pub ahead : (x : Event) → Among x built → Fits x e
  ahead x m = orderly-next.pairs x e (before-end built e m)

  fine-alone : needs_yield built e ≡ false → Fine (built ++ (e ∷ [])) es
  unfolding needs_yield
  fine-alone h = record {
    can = subst (λ l. T (possible fresh l)) (sym (append_snoc built e es)) f.can;
    fit = subst (λ l. T (all_of in_range l)) (sym (append_snoc built e es)) f.fit;
    acyclic = h;
  }

  module _ (h : needs_yield built e ≡ true) where
    opened : begins (tally built) e ≡ false
    opened = needs-open built f.acyclic e h

    abbrev yielding : Event
    yielding = yield_of e.thread

    together : (built ++ (yielding ∷ e ∷ [])) ++ es ≡ built ++ (yielding ∷ e ∷ es)
    together = append_assoc built (yielding ∷ e ∷ []) es

    yielded : T (possible fresh (built ++ (yielding ∷ e ∷ es)))
    yielded = possible-both fresh built (yielding ∷ e ∷ es) parts.0
        (yield-in (after fresh built) e es
        (yield-possible (after fresh built) (tally built) e (first_fine (after fresh built) e es parts.1).0 (idle-after fresh none_yet built parts.0 idle-fresh) opened)
        parts.1)

    in-range : T (all_of in_range (built ++ (yielding ∷ e ∷ es)))
    in-range = all-of in_range (built ++ (yielding ∷ e ∷ es)) (λ x m. among-parts x built yielding (e ∷ es) m
        (λ i. ranged x (among_first built (e ∷ es) i))
        (λ q. subst (λ w. T (in_range w)) (sym q) (yield-ranged e next-ranged))
        (λ i. ranged x (among_second built (e ∷ es) i)))

    -- the recording with yield and record is orderly
    pub orderly-yield : Orderly ((built ++ (yielding ∷ [])) ++ (e ∷ []))
    orderly-yield = subst Orderly (sym (append_snoc built yielding (e ∷ [])))
        (orderly-first (built ++ (yielding ∷ e ∷ [])) es (subst Orderly (sym together) (possible-orderly (built ++ (yielding ∷ e ∷ es)) yielded in-range)))

    fine-yield : Fine (built ++ (yielding ∷ e ∷ [])) es
    fine-yield = record {
      can = subst (λ l. T (possible fresh l)) (sym together) yielded;
      fit = subst (λ l. T (all_of in_range l)) (sym together) in-range;
      acyclic = ap (λ l. cyclic (edges (labelled l))) (sym (append_snoc built yielding (e ∷ []))) ∙ after_none built e f.acyclic opened inside ahead;
    }

  pub fine-next : Fine (grown built e) es
  fine-next = by (needs_yield built e)
      (λ h. subst (λ l. Fine l es) (sym (grown-yield built e h)) (fine-yield h))
      (λ h. subst (λ l. Fine l es) (sym (grown-alone built e h)) (fine-alone h))

-- all steps
pub fine_end : (built es : List Event) → Fine built es → Fine (built ++ events_in (walked built es)) []
unfolding walked
fine_end built [] f = subst (λ l. Fine l []) (sym (append-nil built)) f
fine_end built (e ∷ es) f = subst (λ l. Fine l []) (sym (grown-on built e es)) (fine_end (grown built e) es (fine-next built e es f))

-- ---- room

pub room-passed : (built : List Event) (e : Event) → first_fault (room_checks built e) ≡ 0 → (length (grown built e) ≤ 1024) × (transactions (grown built e) ≤ 512)
unfolding room_checks
room-passed built e h =
    let a = none_first 15 0 (leb (length (grown built e)) record_limit) _ (omega arith) h in
    let b = none_first 13 0 (leb (transactions (grown built e)) transaction_limit) _ (omega arith) a.1 in
    (leb-true (length (grown built e)) record_limit a.0, leb-true (transactions (grown built e)) transaction_limit b.0)

module _ (built : List Event) (k : ℕ) (e : Event) (es : List Event) where
  pub stop-on : first_fault (room_checks built e) ≡ 0 → stop built k (e ∷ es) ≡ stop (grown built e) (suc k) es
  unfolding stop
  stop-on h = rw (h, stop)

  pub stop-at : (n : ℕ) → first_fault (room_checks built e) ≡ suc n → stop built k (e ∷ es) ≡ record { number = suc n; place = k }
  unfolding stop
  stop-at n h = rw (h, stop)

  pub stop-none : (stop built k (e ∷ es)).number ≡ 0 → (first_fault (room_checks built e) ≡ 0) × ((stop (grown built e) (suc k) es).number ≡ 0)
  stop-none z = go (first_fault (room_checks built e)) refl
    where
      go : (n : ℕ) → first_fault (room_checks built e) ≡ n → (first_fault (room_checks built e) ≡ 0) × ((stop (grown built e) (suc k) es).number ≡ 0)
      go zero q = (q, ap (λ f. f.number) (sym (stop-on q)) ∙ z)
      go (suc n) q = absurd (omega (arith, z, ap (λ f. f.number) (stop-at n q)))

-- a walk that isn't stopped ends within the limits
pub room-end : (built : List Event) (k : ℕ) (es : List Event) → (stop built k es).number ≡ 0 → length built ≤ 1024 → transactions built ≤ 512
    → (length (built ++ events_in (walked built es)) ≤ 1024) × (transactions (built ++ events_in (walked built es)) ≤ 512)
unfolding walked
room-end built k [] z h g = subst (λ l. (length l ≤ 1024) × (transactions l ≤ 512)) (sym (append-nil built)) (h, g)
room-end built k (e ∷ es) z h g =
    let a = stop-none built k e es z in
    let b = room-passed built e a.0 in
    subst (λ l. (length l ≤ 1024) × (transactions l ≤ 512)) (sym (grown-on built e es)) (room-end (grown built e) (suc k) es a.1 b.0 b.1)

-- ---- the whole walk, from nothing on

module _ (es : List Event) where
  pub start_fine : T (possible fresh es) → T (all_of in_range es) → Fine [] es
  unfolding labelled_from edges cyclic some_of
  start_fine can fit = record { can = can; fit = fit; acyclic = refl }

  pub end-fine : T (possible fresh es) → T (all_of in_range es) → Fine (events_in (finished es)) []
  unfolding finished
  end-fine can fit = fine_end [] es (start_fine can fit)

  pub limits : (stop [] 0 es).number ≡ 0 → (length (events_in (finished es)) ≤ 1024) × (transactions (events_in (finished es)) ≤ 512)
  unfolding finished transactions tally_from none_yet
  limits room = room-end [] 0 es room (omega arith) (omega arith)
