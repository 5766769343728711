-- Laws of the finished recording as events and marks, event after event.
use Prim.Native.Nat.{ℕ, zero, suc, ◌+◌, ◌≤◌, ◌<◌}
use native.Mathlib.Omega.{arith}
use native.Mathlib.Nat.{add-zero, zero-add, add-suc, suc-add}
use mathlib.Core.Path.{◌≡◌, refl, sym, ap, ap₂, ◌∙◌, subst}
use mathlib.Core.Bool.{Bool, true, false, not, cond}
use mathlib.Core.List.{List, [], ◌∷◌, ◌++◌, append-nil}
use lib.ListN.{length, get_or, set, length-set, length-append}
use Rattle.record.specs.declared.Event.{Event}
use Rattle.record.specs.Record.{encoded}
use Rattle.lists.specs.Lists.{keep, each, over, written_at}
use Rattle.lists.proofs.Tests.{by, by-same}
use Rattle.lists.proofs.Lists.{map-append, each_append, keep-true, keep-false, keep_append}
use Rattle.lists.proofs.Places.{written_start, written-more, length-written}
use Rattle.lists.proofs.Places.{over-more as over-one-more}
use Rattle.graph.specs.Held.{past_end}
use Rattle.proposal.specs.declared.Added.{Added}
use Rattle.proposal.specs.Walk.{Placed, given, yield_of, yield_for, events_in}
use Rattle.proposal.specs.Proposed.{bytes_of, yields_in, lines_from}
use Rattle.proposal.specs.Weaving.{placed_as, woven, bytes_in}

-- ---- one event with its mark

pub placed-unmarked : (mark : Bool) (e : Event) → mark ≡ false → placed_as mark e ≡ given e ∷ []
unfolding placed_as
placed-unmarked mark e h = ap (λ b. cond b (yield_for e ∷ given e ∷ []) (given e ∷ [])) h

pub placed-marked : (mark : Bool) (e : Event) → mark ≡ true → placed_as mark e ≡ yield_for e ∷ given e ∷ []
unfolding placed_as
placed-marked mark e h = ap (λ b. cond b (yield_for e ∷ given e ∷ []) (given e ∷ [])) h

-- ---- bytes

bytes-append : (a b : List Placed) → bytes_in (a ++ b) ≡ bytes_in a ++ bytes_in b
unfolding bytes_in bytes_of
bytes-append a b = ap (each encoded) (map-append (λ p. p.event) a b) ∙ each_append encoded (events_in a) (events_in b)

pub bytes_next : (n : ℕ) (es : List Event) (marks : List Bool)
    → bytes_in (woven (suc n) es marks) ≡ bytes_in (woven n es marks) ++ bytes_in (placed_as (get_or marks n false) (get_or es n past_end))
unfolding woven
bytes_next n es marks = bytes-append (woven n es marks) (placed_as (get_or marks n false) (get_or es n past_end))

pub bytes_one : (e : Event) → bytes_in (given e ∷ []) ≡ encoded e
unfolding bytes_in bytes_of each
bytes_one e = append-nil (encoded e)

pub bytes-two : (e : Event) → bytes_in (yield_for e ∷ given e ∷ []) ≡ encoded (yield_of e.thread) ++ encoded e
unfolding bytes_in bytes_of each
bytes-two e = ap (λ l. encoded (yield_of e.thread) ++ l) (append-nil (encoded e))

-- the first of some have no more bytes
pub bytes-rise : (i n : ℕ) (es : List Event) (marks : List Bool) → i ≤ n → length (bytes_in (woven i es marks)) ≤ length (bytes_in (woven n es marks))
bytes-rise i zero es marks h = subst (λ k. length (bytes_in (woven k es marks)) ≤ length (bytes_in (woven 0 es marks))) (sym none) (omega arith)
  where
    none : i ≡ 0
    none = omega arith
bytes-rise i (suc n) es marks h = by-same i (suc n)
    (λ q. subst (λ k. length (bytes_in (woven k es marks)) ≤ length (bytes_in (woven (suc n) es marks))) (sym q) (omega arith))
    (λ d. omega (
      arith,
      bytes-rise i n es marks (least d),
      ap length (bytes_next n es marks),
      length-append (bytes_in (woven n es marks)) (bytes_in (placed_as (get_or marks n false) (get_or es n past_end))),
    ))
  where
    least : (i ≡ suc n → ⊥) → i ≤ n
    least d = omega arith

-- what is written over an output, and something after it
pub over-more : (old new more : List ℕ) → written_at (over new old) (length new) more ≡ over (new ++ more) old
over-more old new more =
    ap₂ (λ l n. written_at l n more) (sym (written_start old new)) (sym (zero-add (length new)))
    ∙ written-more old 0 new more (omega arith)
    ∙ written_start old (new ++ more)

-- Writing under way: the first i of n events are written
pub record Written (es : List Event) (marks : List Bool) (out₀ out : List ℕ) (end i : ℕ) : Type 0 where
  pub size : length out ≡ length out₀
  pub place : end ≡ length (bytes_in (woven i es marks))
  pub made : out ≡ over (bytes_in (woven i es marks)) out₀

module _ (es : List Event) (marks : List Bool) (out₀ : List ℕ) where
  pub written_none : Written es marks out₀ out₀ 0 0
  unfolding woven bytes_in bytes_of each over
  written_none = record { size = refl; place = refl; made = refl }

  module _ (n : ℕ) (out : List ℕ) (end i : ℕ) (room : length (bytes_in (woven n es marks)) ≤ length out₀) (more : i < n) (w : Written es marks out₀ out end i) where
    abbrev of : Event → List ℕ
    of e = bytes_in (placed_as (get_or marks i false) e)

    abbrev next : List ℕ
    next = of (get_or es i past_end)

    room_next : end + length next ≤ length out
    room_next = omega (arith, w.size, w.place, bytes-rise (suc i) n es marks more, ap length (bytes_next i es marks), length-append (bytes_in (woven i es marks)) next)

    go-next : (out' : List ℕ) (end' : ℕ) → end' ≡ end + length next → out' ≡ written_at out end next → Written es marks out₀ out' end' (suc i)
    go-next out' end' p q = record {
      size = ap length q ∙ length-written out end next room_next ∙ w.size;
      place = omega (arith, p, w.place, ap length (bytes_next i es marks), length-append (bytes_in (woven i es marks)) next);
      made = q ∙ ap₂ (λ l k. written_at l k next) w.made w.place ∙ over-more out₀ (bytes_in (woven i es marks)) next
          ∙ ap (λ l. over l out₀) (sym (bytes_next i es marks));
    }

    -- the event as it was read
    module _ (e : Event) (is : e ≡ get_or es i past_end) where
      pub written-room : end + length (of e) ≤ length out
      written-room = subst (λ x. end + length (of x) ≤ length out) (sym is) room_next

      pub written_next : (out' : List ℕ) (end' : ℕ) → end' ≡ end + length (of e) → out' ≡ written_at out end (of e) → Written es marks out₀ out' end' (suc i)
      written_next out' end' p q = go-next out' end' (p ∙ ap (λ x. end + length (of x)) is) (q ∙ ap (λ x. written_at out end (of x)) is)

-- ---- lines

lines-added : (k : ℕ) (p : Placed) (ps : List Placed) → p.added ≡ true → lines_from k (p ∷ ps) ≡ (record { thread = p.event.thread; before = k }) ∷ lines_from k ps
unfolding lines_from
lines-added k p ps h = rw (h, lines_from)

lines-given : (k : ℕ) (p : Placed) (ps : List Placed) → p.added ≡ false → lines_from k (p ∷ ps) ≡ lines_from (suc k) ps
unfolding lines_from
lines-given k p ps h = rw (h, lines_from)

-- whether it is a record of the input, and how many there are
abbrev is_given : Placed → Bool
is_given p = not p.added

abbrev givens : List Placed → ℕ
givens ps = length (keep is_given ps)

lines-append : (k : ℕ) (a b : List Placed) → lines_from k (a ++ b) ≡ lines_from k a ++ lines_from (k + givens a) b
unfolding lines_from keep
lines-append k [] b = ap (λ n. lines_from n b) (sym (add-zero k))
lines-append k (p ∷ a) b = by p.added
    (λ h. lines-added k p (a ++ b) h
    ∙ ap (λ l. (record { thread = p.event.thread; before = k }) ∷ l) (lines-append k a b)
    ∙ ap (λ n. (record { thread = p.event.thread; before = k }) ∷ (lines_from k a ++ lines_from (k + n) b)) (sym (ap length (keep-false is_given p a (ap not h))))
    ∙ ap (λ l. l ++ lines_from (k + givens (p ∷ a)) b) (sym (lines-added k p a h)))
    (λ h. lines-given k p (a ++ b) h
    ∙ lines-append (suc k) a b
    ∙ ap (λ n. lines_from (suc k) a ++ lines_from n b) (suc-add k (givens a) ∙ sym (add-suc k (givens a)))
    ∙ ap (λ n. lines_from (suc k) a ++ lines_from (k + n) b) (sym (ap length (keep-true is_given p a (ap not h))))
    ∙ ap (λ l. l ++ lines_from (k + givens (p ∷ a)) b) (sym (lines-given k p a h)))

-- as many of the input as events
givens-woven : (n : ℕ) (es : List Event) (marks : List Bool) → givens (woven n es marks) ≡ n
unfolding woven keep
givens-woven zero es marks = refl
givens-woven (suc n) es marks =
    let w : List Placed = woven n es marks in
    let e : Event = get_or es n past_end in
    let m : Bool = get_or marks n false in
    let one : length (keep is_given (placed_as m e)) ≡ 1 = by m
    (λ d. ap (λ l. length (keep is_given l)) (placed-marked m e d) ∙ ap length (keep-false is_given (yield_for e) (given e ∷ []) refl ∙ keep-true is_given (given e) [] refl))
    (λ q. ap (λ l. length (keep is_given l)) (placed-unmarked m e q) ∙ ap length (keep-true is_given (given e) [] refl)) in
    omega (arith, ap length (keep_append is_given w (placed_as m e)), length-append (keep is_given w) (keep is_given (placed_as m e)), one, givens-woven n es marks)

-- The lines of the first i events are written, and their yields counted
pub record Told (es : List Event) (marks : List Bool) (lines₀ lines : List Added) (yields i : ℕ) : Type 0 where
  pub size : length lines ≡ length lines₀
  pub most : yields ≤ i
  pub count : yields ≡ length (yields_in (woven i es marks))
  pub place : yields ≡ length (lines_from 0 (woven i es marks))
  pub made : lines ≡ over (lines_from 0 (woven i es marks)) lines₀

module _ (es : List Event) (marks : List Bool) (lines₀ : List Added) where
  pub told_none : Told es marks lines₀ lines₀ 0 0
  unfolding woven lines_from yields_in keep over
  told_none = record { size = refl; most = omega arith; count = refl; place = refl; made = refl }

  module _ (lines : List Added) (yields i : ℕ) (t : Told es marks lines₀ lines yields i) where
    abbrev e : Event
    e = get_or es i past_end

    abbrev mark : Bool
    mark = get_or marks i false

    abbrev before : List Placed
    before = woven i es marks

    lines_next : lines_from 0 (woven (suc i) es marks) ≡ lines_from 0 before ++ lines_from i (placed_as mark e)
    unfolding woven
    lines_next = lines-append 0 before (placed_as mark e) ∙ ap (λ n. lines_from 0 before ++ lines_from n (placed_as mark e)) (zero-add (givens before) ∙ givens-woven i es marks)

    yields-next : length (yields_in (woven (suc i) es marks)) ≡ length (yields_in before) + length (yields_in (placed_as mark e))
    unfolding woven yields_in
    yields-next = ap length (keep_append (λ p. p.added) before (placed_as mark e)) ∙ length-append (keep (λ p. p.added) before) (keep (λ p. p.added) (placed_as mark e))

    -- an event without a yield
    pub told-unmarked : mark ≡ false → Told es marks lines₀ lines yields (suc i)
    unfolding lines_from yields_in keep
    told-unmarked h =
        let none : lines_from i (placed_as mark e) ≡ [] = ap (lines_from i) (placed-unmarked mark e h) in
        let same : lines_from 0 (woven (suc i) es marks) ≡ lines_from 0 before = lines_next ∙ ap (λ l. lines_from 0 before ++ l) none ∙ append-nil (lines_from 0 before) in
        let no-yield : length (yields_in (placed_as mark e)) ≡ 0 = ap (λ l. length (yields_in l)) (placed-unmarked mark e h) in
        record {
          size = t.size;
          most = omega (arith, t.most);
          count = omega (arith, t.count, yields-next, no-yield);
          place = t.place ∙ ap length (sym same);
          made = t.made ∙ ap (λ l. over l lines₀) (sym same);
        }

    -- and one with a yield
    pub told-marked : (own : Event) → own ≡ e → mark ≡ true → yields < length lines
        → Told es marks lines₀ (set lines yields (record { thread = own.thread; before = i })) (suc yields) (suc i)
    unfolding lines_from yields_in keep
    told-marked own same h room =
        let new : Added = record { thread = e.thread; before = i } in
        let front : List Added = lines_from 0 before in
        let is : lines_from i (placed_as mark e) ≡ new ∷ [] = ap (lines_from i) (placed-marked mark e h) in
        let all_lines : lines_from 0 (woven (suc i) es marks) ≡ front ++ (new ∷ []) = lines_next ∙ ap (λ l. front ++ l) is in
        let a-yield : length (yields_in (placed_as mark e)) ≡ 1 = ap (λ l. length (yields_in l)) (placed-marked mark e h) in
        let there : length front < length lines₀ = omega (arith, t.size, t.place, room) in
        let own-is : set lines yields (record { thread = own.thread; before = i }) ≡ set lines yields new =
        ap (λ (x : Event). set lines yields (record { thread = x.thread; before = i })) same in
        record {
          size = length-set lines yields (record { thread = own.thread; before = i }) ∙ t.size;
          most = omega (arith, t.most);
          count = omega (arith, t.count, yields-next, a-yield);
          place = omega (arith, t.place, ap length all_lines, length-append front (new ∷ []));
          made = own-is ∙ ap₂ (λ l k. set l k new) t.made t.place ∙ over-one-more front lines₀ new there ∙ ap (λ l. over l lines₀) (sym all_lines);
        }
