-- What is kept represents the recording built so far: the second engine's answers are those of the definitions, and a step of the walk keeps it so.
use Prim.Native.Nat.{ℕ, pred, ◌+◌, ◌≤◌, ◌<◌}
use native.Mathlib.Omega.{arith}
use mathlib.Core.Path.{◌≡◌, refl, sym, ap, ap₂, ◌∙◌, subst}
use mathlib.Core.Bool.{Bool, true, false, cond, ◌&&◌, ◌||◌}
use mathlib.Core.List.{List, [], ◌∷◌, ◌++◌}
use Rattle.std.specs.Prelude.{Ok, Err}
use lib.ListN.{length, get_or, drop, length-append}
use lib.Seq.{append_snoc}
use lib.Dec.{T, eqb, leb, ltb}
use borrow.Author.Tests.{le-leb, lt-leb, ltb-true, ltb-false, leb-true}
use Rattle.record.specs.declared.Event.{Event}
use Rattle.record.specs.Faults.{first_fault, check}
use Rattle.trace.specs.Paths.{cyclic}
use Rattle.lists.proofs.Tests.{by}
use Rattle.lists.proofs.Lists.{map-append}
use Rattle.rows.specs.Bits.{begun}
use Rattle.graph.specs.Conflict.{joins}
use Rattle.graph.specs.declared.Labelled.{Labelled}
use Rattle.graph.specs.declared.Tally.{Tally}
use Rattle.graph.specs.Transactions.{none_yet, current_of, begins, belongs, full, tallied, tally_from, labelled_from, labelled, transactions, transaction_limit}
use Rattle.graph.specs.Edges.{edges}
use Rattle.graph.specs.Held.{labelled_as}
use Rattle.graph.proofs.Labels.{ev, labelled-events}
use Rattle.graph.proofs.Numbers.{sane-none, belongs-open, belongs-lt, count-begun, count-unbegun, count-rises}
use Rattle.looking.proofs.Laws.{counted-few}
use Rattle.second.specs.Cells.{idle}
use Rattle.second.specs.Taken.{closing, Taken, taken}
use Rattle.second.proofs.Orderly.{Orderly, orderly-first}
use Rattle.second.proofs.Agree.{events_of}
use Rattle.second.proofs.Holding.{Holds, begun-holds, closing-right, Looks, looks-all, taken-right, taken-kept}
use Rattle.proposal.specs.Walk.{yield_of, needs_yield, placed, grown, record_limit, room_checks}
use Rattle.proposal.specs.Weaving.{placed_as}
use Rattle.proposal.specs.Keeping.{Kept, needing, put_in, Stepping, step_as, last_in, stepping}
use Rattle.proposal.proofs.Appending.{tally-append, sane-from}
use Rattle.proposal.proofs.Cycles.{tally, labelled-more, begins-none, needs-open, yield-open, yield-none, after_none}
use Rattle.proposal.proofs.Walks.{Fine, inside, ahead, orderly-next, orderly-yield, placed-yield, placed-alone, grown-yield, grown-alone}
use Rattle.proposal.proofs.Bytes.{few-open}
use Rattle.proposal.proofs.Weaving.{placed-unmarked, placed-marked}
use Rattle.proposal.proofs.Putting.{not-both, same-mark, same-number, put-none}

-- Cells and rows hold the labelled records, and the tally is theirs
pub record Represents (built : List Event) (k : Kept) : Type 0 where
  pub tally-is : k.tally ≡ tally built
  pub holds : Holds 512 (labelled built) k.cells k.rows (tally built).count

-- Nothing has been built
pub represents-none : (k : Kept) (work : List ℕ) → 4096 ≤ length work → k.cells ≡ idle → k.rows ≡ begun 512 work → k.tally ≡ none_yet → Represents [] k
unfolding labelled_from tally_from none_yet
represents-none k work long c r t = record {
  tally-is = t;
  holds = subst (λ s. Holds 512 [] s k.rows 0) (sym c) (subst (λ w. Holds 512 [] idle w 0) (sym r) (begun-holds 512 work (omega arith) long));
}

-- ---- the labelled records with one more

module _ (built : List Event) (e : Event) where
  abbrev x : Labelled
  x = labelled_as (belongs (tally built) e) e

  events-more : events_of (labelled built ++ (x ∷ [])) ≡ built ++ (e ∷ [])
  events-more = map-append ev (labelled built) (x ∷ []) ∙ ap (λ l. l ++ (e ∷ [])) (labelled-events none_yet built)

  tally-more : tally (built ++ (e ∷ [])) ≡ tallied (tally built) e
  unfolding tally_from
  tally-more = tally-append none_yet built (e ∷ [])

  belongs-small : belongs (tally built) e < (tallied (tally built) e).count
  belongs-small = belongs-lt (tally built) e (sane-from none_yet built sane-none)

  module _ (ok : Orderly (built ++ (e ∷ []))) where
    ok-more : Orderly (events_of (labelled built ++ (x ∷ [])))
    ok-more = subst Orderly (sym events-more) ok

    -- ---- an event put

    module _ (k : Kept) (r : Represents built k) (few : (tallied (tally built) e).count ≤ 512) where
      small : belongs (tally built) e < 512
      small = omega (arith, belongs-small)

      room : full k.tally e ≡ false
      unfolding tally_from
      room = ap (λ s. full s e) r.tally-is ∙ few-open (tally built) e [] few

      abbrev next : Taken
      next = taken k.cells k.rows (tallied (tally built) e).count (belongs (tally built) e) e

      put_is : put_in k e ≡ record { cells = next.cells; rows = next.rows; tally = tallied (tally built) e }
      unfolding put_in
      put_is =
          ap (λ b. cond b k (record {
            cells = (taken k.cells k.rows (tallied k.tally e).count (belongs k.tally e) e).cells;
            rows = (taken k.cells k.rows (tallied k.tally e).count (belongs k.tally e) e).rows;
            tally = tallied k.tally e;
          })) room
          ∙ ap (λ (s : Tally). record {
            cells = (taken k.cells k.rows (tallied s e).count (belongs s e) e).cells;
            rows = (taken k.cells k.rows (tallied s e).count (belongs s e) e).rows;
            tally = tallied s e;
          }) r.tally-is

      looks : Looks (labelled built) x ok-more 512 k.cells k.rows (tally built).count r.holds small (tallied (tally built) e).count
      looks = looks-all (labelled built) x ok-more 512 k.cells k.rows (tally built).count r.holds small (tallied (tally built) e).count (count-rises (tally built) e)

      pub put_right : cyclic (edges (labelled (built ++ (e ∷ [])))) ≡ false → Represents (built ++ (e ∷ [])) (put_in k e)
      put_right none = subst (Represents (built ++ (e ∷ []))) (sym put_is) (record {
        tally-is = sym tally-more;
        holds = subst (λ l. Holds 512 l next.cells next.rows (tally (built ++ (e ∷ []))).count) (sym (labelled-more built e))
            (subst (λ s. Holds 512 (labelled built ++ (x ∷ [])) next.cells next.rows s.count) (sym tally-more)
            (taken-right (labelled built) x ok-more 512 k.cells k.rows (tally built).count r.holds small (tallied (tally built) e).count few looks
            (tallied (tally built) e).count (count-rises (tally built) e) belongs-small few (ap (λ l. cyclic (edges l)) (sym (labelled-more built e)) ∙ none)));
      })

      pub put_rest : drop 4096 (put_in k e).rows ≡ drop 4096 k.rows
      put_rest = ap (λ j. drop 4096 j.rows) put_is
          ∙ (taken-kept (labelled built) x ok-more 512 k.cells k.rows (tally built).count r.holds small (tallied (tally built) e).count few looks).rest

    -- ---- whether an event needs a yield

    pub needing-right : (k : Kept) → Represents built k → needing k.cells k.rows k.tally.current e ≡ needs_yield built e
    unfolding needing needs_yield begins
    needing-right k r =
        let s : Tally = tally built in
        let own : ℕ = current_of s e.thread in
        let test : List ℕ → Bool = λ c. cond (joins e.op || eqb (get_or c e.thread 0) 0) false (closing k.cells k.rows (pred (get_or c e.thread 0)) e) in
        ap (λ t. test t.current) r.tally-is
        ∙ by (joins e.op || eqb own 0)
        (λ b. ap (λ c. cond c false (closing k.cells k.rows (pred own) e)) b ∙ sym (begins-none built r.holds.rows.none e b))
        (λ b. ap (λ c. cond c false (closing k.cells k.rows (pred own) e)) b
        ∙ ap (λ a. closing k.cells k.rows a e) (sym (belongs-open s e b))
        ∙ closing-right (labelled built) x ok-more 512 k.cells k.rows s.count r.holds (omega (arith, belongs-small, count-unbegun s e b, r.holds.rows.most))
        ∙ ap (λ l. cyclic (edges l)) (sym (labelled-more built e)))

-- ---- room

module _ (built : List Event) (e : Event) where
  abbrev checks-of : Bool → Bool → ℕ
  checks-of a b = first_fault (check 15 0 a ∷ check 13 0 b ∷ [])

  room-is : (a b : Bool) → leb (length (grown built e)) record_limit ≡ a → leb (transactions (grown built e)) transaction_limit ≡ b → first_fault (room_checks built e) ≡ checks-of a b
  unfolding room_checks
  room-is a b p q = ap₂ checks-of p q

  room-short : 1024 < length (grown built e) → first_fault (room_checks built e) ≡ 15
  unfolding first_fault
  room-short h = room-is false (leb (transactions (grown built e)) transaction_limit) (lt-leb (length (grown built e)) record_limit h) refl

  room-full : length (grown built e) ≤ 1024 → 512 < transactions (grown built e) → first_fault (room_checks built e) ≡ 13
  unfolding first_fault
  room-full h g = room-is true false (le-leb (length (grown built e)) record_limit h) (lt-leb (transactions (grown built e)) transaction_limit g)

  room-none : length (grown built e) ≤ 1024 → transactions (grown built e) ≤ 512 → first_fault (room_checks built e) ≡ 0
  unfolding first_fault
  room-none h g = room-is true true (le-leb (length (grown built e)) record_limit h) (le-leb (transactions (grown built e)) transaction_limit g)

-- whether an event would begin a 513th transaction, by how many there are then
full-over : (s : Tally) (e : Event) → full s e ≡ true → 512 < (tallied s e).count
unfolding full
full-over s e h = by (begins s e)
    (λ b. omega (arith, count-begun s e b, leb-true 512 s.count (sym (ap (λ c. c && leb 512 s.count) b) ∙ h)))
    (λ b. absurd (subst T (sym (sym (ap (λ c. c && leb 512 s.count) b) ∙ h)) tt))

-- ---- a step of the walk

-- What a step answers and leaves
pub record Right (built : List Event) (k : Kept) (e : Event) (s : Stepping) : Type 0 where
  pub refused : (n : ℕ) → s.answer ≡ Err n → n ≡ first_fault (room_checks built e)
  pub room : (mark : Bool) → s.answer ≡ Ok mark → first_fault (room_checks built e) ≡ 0
  pub placed-is : (mark : Bool) → s.answer ≡ Ok mark → placed_as mark e ≡ placed built e
  pub represents : (mark : Bool) → s.answer ≡ Ok mark → Represents (grown built e) s.kept
  pub rest : drop 4096 s.kept.rows ≡ drop 4096 k.rows

module _ (built : List Event) (e : Event) (es : List Event) (f : Fine built (e ∷ es)) (k : Kept) (r : Represents built k) where
  abbrev s₀ : Tally
  s₀ = tally built

  -- the last event of a step, put after front, which holds what is built and maybe a yield
  module _ (front : List Event) (mark : Bool) (j : Kept) (q : Represents front j) (ok : Orderly (front ++ (e ∷ [])))
      (none : cyclic (edges (labelled (front ++ (e ∷ [])))) ≡ false) (is : grown built e ≡ front ++ (e ∷ [])) (short : length (grown built e) ≤ 1024)
      (as-placed : placed_as mark e ≡ placed built e) (kept : drop 4096 j.rows ≡ drop 4096 k.rows) where
    transactions-are : transactions (grown built e) ≡ (tallied (tally front) e).count
    unfolding transactions
    transactions-are = ap (λ l. (tally_from none_yet l).count) is ∙ ap (λ t. t.count) (tally-more front e)

    last-right : Right built k e (last_in mark j e)
    last-right = by (full j.tally e)
        (λ h. let is-refused : (last_in mark j e).answer ≡ Err 13 = ap (λ b. cond b (Err 13) (Ok mark)) h in
        record {
          refused = λ n z. same-number (sym z ∙ is-refused)
              ∙ sym (room-full built e short (omega (arith, transactions-are, full-over (tally front) e (ap (λ t. full t e) (sym q.tally-is) ∙ h))));
          room = λ m z. absurd (not-both (sym z ∙ is-refused));
          placed-is = λ m z. absurd (not-both (sym z ∙ is-refused));
          represents = λ m z. absurd (not-both (sym z ∙ is-refused));
          rest = ap (λ l. drop 4096 l.rows) (put-none j e h) ∙ kept;
        })
        (λ h. let few : (tallied (tally front) e).count ≤ 512 = counted-few (tally front) e q.holds.rows.most (ap (λ t. full t e) (sym q.tally-is) ∙ h) in
        let is-placed : (last_in mark j e).answer ≡ Ok mark = ap (λ b. cond b (Err 13) (Ok mark)) h in
        record {
          refused = λ n z. absurd (not-both (sym is-placed ∙ z));
          room = λ m z. room-none built e short (omega (arith, transactions-are));
          placed-is = λ m z. ap (λ b. placed_as b e) (same-mark (sym z ∙ is-placed)) ∙ as-placed;
          represents = λ m z. subst (λ l. Represents l (put_in j e)) (sym is) (put_right front e ok j q few none);
          rest = put_rest front e ok j q few ∙ kept;
        })

  -- no room for the records
  short-right : 1024 < length (grown built e) → Right built k e (step_as (Err 15) k)
  short-right h = record {
    refused = λ n z. same-number (sym z) ∙ sym (room-short built e h);
    room = λ m z. absurd (not-both (sym z));
    placed-is = λ m z. absurd (not-both (sym z));
    represents = λ m z. absurd (not-both (sym z));
    rest = refl;
  }

  -- it needs no yield
  module _ (h : needs_yield built e ≡ false) where
    alone-placed : placed_as false e ≡ placed built e
    alone-placed = placed-unmarked false e refl ∙ sym (placed-alone built e h)

    alone-right : (n : ℕ) → n ≡ length built → Right built k e (cond (ltb 1023 n) (step_as (Err 15) k) (last_in false k e))
    unfolding needs_yield
    alone-right n size =
        let long : length (grown built e) ≡ length built + 1 = ap length (grown-alone built e h) ∙ length-append built (e ∷ []) in
        by (ltb 1023 n)
        (λ b. subst (Right built k e) (sym (ap (λ c. cond c (step_as (Err 15) k) (last_in false k e)) b)) (short-right (omega (arith, long, size, ltb-true 1023 n b))))
        (λ b. subst (Right built k e) (sym (ap (λ c. cond c (step_as (Err 15) k) (last_in false k e)) b))
        (last-right built false k r (orderly-next built e es f) h (grown-alone built e h) (omega (arith, long, size, ltb-false 1023 n b)) alone-placed refl))

  -- it needs one
  module _ (h : needs_yield built e ≡ true) where
    abbrev y : Event
    y = yield_of e.thread

    opened : begins s₀ e ≡ false
    opened = needs-open built r.holds.rows.none e h

    yield-placed : placed_as true e ≡ placed built e
    yield-placed = placed-marked true e refl ∙ sym (placed-yield built e h)

    grown-is : grown built e ≡ (built ++ (y ∷ [])) ++ (e ∷ [])
    grown-is = grown-yield built e h ∙ sym (append_snoc built y (e ∷ []))

    yield-count : (tallied s₀ y).count ≡ s₀.count
    yield-count = count-unbegun s₀ y (yield-open built e r.holds.rows.none opened (inside built e es f) (ahead built e es f))

    orderly-both : Orderly ((built ++ (y ∷ [])) ++ (e ∷ []))
    orderly-both = orderly-yield built e es f h

    yield-ok : Orderly (built ++ (y ∷ []))
    yield-ok = orderly-first (built ++ (y ∷ [])) (e ∷ []) orderly-both

    few-yield : (tallied s₀ y).count ≤ 512
    few-yield = omega (arith, yield-count, r.holds.rows.most)

    yield-right : (n : ℕ) → n ≡ length built → Right built k e (cond (ltb 1022 n) (step_as (Err 15) k) (last_in true (put_in k y) e))
    yield-right n size =
        let long : length (grown built e) ≡ length built + 2 = ap length (grown-yield built e h) ∙ length-append built (y ∷ e ∷ []) in
        by (ltb 1022 n)
        (λ b. subst (Right built k e) (sym (ap (λ c. cond c (step_as (Err 15) k) (last_in true (put_in k y) e)) b)) (short-right (omega (arith, long, size, ltb-true 1022 n b))))
        (λ b. subst (Right built k e) (sym (ap (λ c. cond c (step_as (Err 15) k) (last_in true (put_in k y) e)) b))
        (last-right (built ++ (y ∷ [])) true (put_in k y)
        (put_right built y yield-ok k r few-yield (yield-none built e r.holds.rows.none opened (inside built e es f) (ahead built e es f)))
        orderly-both (after_none built e r.holds.rows.none opened (inside built e es f) (ahead built e es f)) grown-is
        (omega (arith, long, size, ltb-false 1022 n b)) yield-placed (put_rest built y yield-ok k r few-yield)))

  -- The step is that of the walk
  pub stepping-right : (n : ℕ) → n ≡ length built → Right built k e (stepping n k e)
  unfolding stepping
  stepping-right n size =
      let same : needing k.cells k.rows k.tally.current e ≡ needs_yield built e = needing-right built e (orderly-next built e es f) k r in
      let yielding : Stepping = cond (ltb 1022 n) (step_as (Err 15) k) (last_in true (put_in k (yield_of e.thread)) e) in
      let plain : Stepping = cond (ltb 1023 n) (step_as (Err 15) k) (last_in false k e) in
      by (needs_yield built e)
      (λ h. subst (Right built k e) (sym (ap (λ b. cond b yielding plain) (same ∙ h))) (yield-right h n size))
      (λ h. subst (Right built k e) (sym (ap (λ b. cond b yielding plain) (same ∙ h))) (alone-right h n size))
