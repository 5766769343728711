-- Proposed yields are what document 02 says: the finished recording is cooperable, it is the input once the added yields are taken out, and each of them is
-- needed. Of every input, output and work area that aren't refused.
use Prim.Native.Nat.{ℕ, suc, ◌/◌}
use native.Mathlib.Omega.{arith}
use mathlib.Core.Path.{◌≡◌, refl, sym, ap, ◌∙◌, subst}
use mathlib.Core.Bool.{Bool, true, false, not}
use mathlib.Core.List.{List, [], ◌∷◌, ◌++◌, append-nil}
use lib.ListN.{length, take, drop, length-append, length-map}
use lib.Seq.{take-length, take-append_seam}
use lib.Dec.{T}
use Rattle.record.specs.declared.Event.{Event}
use Rattle.record.specs.Record.{in_range}
use Rattle.replay.specs.Machine.{fresh, act, possible}
use Rattle.replay.specs.Machine.{after as state-after}
use Rattle.lists.specs.Lists.{all_of, keep, from, over}
use Rattle.lists.proofs.Tests.{by, by-same}
use Rattle.lists.proofs.Lists.{Among, append-among, among_second, all-has, all-of, first-default, first-is, from-bound, map-append, keep-true, keep-false}
use Rattle.trace.specs.Paths.{cyclic}
use Rattle.graph.specs.Transactions.{labelled}
use Rattle.graph.specs.Edges.{edges}
use Rattle.graph.specs.Violation.{edges_up_to, cyclic_up_to, shortest}
use Rattle.graph.proofs.Meaning.{cycle-stays}
use Rattle.graph.proofs.Steps.{among_first}
use Rattle.looking.specs.Refusals.{events}
use Rattle.looking.proofs.Laws.{Passed}
use Rattle.second.proofs.Possible.{first_fine}
use Rattle.proposal.specs.Walk.{Placed, given, yield_of, yield_for, events_in, needs_yield, grown, walked, finished, stop}
use Rattle.proposal.specs.Proposed.{refusal, bytes_of, done, proposed}
use Rattle.proposal.specs.Meaning.{without_yields, Judges, Right}
use Rattle.proposal.proofs.Appending.{possible-parts, possible-both}
use Rattle.proposal.proofs.Cycles.{fails}
use Rattle.proposal.proofs.Walks.{placed-yield, placed-alone, Fine, start_fine, end-fine, limits}
use Rattle.proposal.proofs.Bytes.{bytes-again}
use Rattle.proposal.proofs.Dropped.{Around, around, fewer}
use Rattle.proposal.proofs.Endings.{unrefused, refused-before, refused-walking, proposed-done}
use Rattle.proposal.proofs.Judging.{Within, judges-cooperable, judges-violation}

-- ---- the shortest prefix with a cycle

prefix-is : (es part : List Event) (k : ℕ) → take k es ≡ part → cyclic_up_to es k ≡ cyclic (edges (labelled part))
unfolding cyclic_up_to edges_up_to
prefix-is es part k q = ap (λ l. cyclic (edges (labelled l))) q

-- a recording without a cycle has no prefix with one
shortest-zero : (es : List Event) → cyclic (edges (labelled es)) ≡ false → shortest es ≡ 0
unfolding shortest
shortest-zero es none = first-default (cyclic_up_to es) 0 (from 1 (length es)) (λ k m. fails (cyclic_up_to es k) (λ t.
    subst T (prefix-is es es (length es) (take-length es) ∙ none) (cycle-stays es k (length es) (omega (arith, from-bound 1 (length es) k m)) t)))

take_more : {A : Type 0} (a : List A) (x : A) (b : List A) → take (suc (length a)) (a ++ (x ∷ b)) ≡ a ++ (x ∷ [])
take_more [] x b = refl
take_more (y ∷ a) x b = ap (λ l. y ∷ l) (take_more a x b)

-- where a recording without a cycle has one with the next record, that is the shortest, whatever follows
shortest-next : (built : List Event) (e : Event) (es : List Event) → cyclic (edges (labelled built)) ≡ false → needs_yield built e ≡ true
    → shortest (built ++ (e ∷ es)) ≡ suc (length built)
unfolding shortest needs_yield
shortest-next built e es none some =
    let all : List Event = built ++ (e ∷ es) in
    first-is (cyclic_up_to all) 0 1 (length all) (suc (length built)) (omega arith) (omega (arith, length-append built (e ∷ es)))
    (prefix-is all (built ++ (e ∷ [])) (suc (length built)) (take_more built e es) ∙ some)
    (λ k lo hi. fails (cyclic_up_to all k) (λ t.
    subst T (prefix-is all built (length built) (take-append_seam built (e ∷ es)) ∙ none) (cycle-stays all k (length built) (omega arith) t)))

-- ---- the input's records are left once the added yields are taken out

given-left : (built es : List Event) → events_in (without_yields (walked built es)) ≡ es
unfolding walked without_yields keep
given-left built [] = refl
given-left built (e ∷ es) = by (needs_yield built e)
    (λ h. ap (λ l. events_in (keep kept (l ++ walked (grown built e) es))) (placed-yield built e h)
    ∙ ap events_in (keep-false kept (yield_for e) (given e ∷ walked (grown built e) es) refl ∙ keep-true kept (given e) (walked (grown built e) es) refl)
    ∙ ap (λ l. e ∷ l) (given-left (grown built e) es))
    (λ h. ap (λ l. events_in (keep kept (l ++ walked (grown built e) es))) (placed-alone built e h)
    ∙ ap events_in (keep-true kept (given e) (walked (grown built e) es) refl)
    ∙ ap (λ l. e ∷ l) (given-left (grown built e) es))
  where
    kept : Placed → Bool
    kept p = not p.added

-- ---- a walk that isn't stopped

-- a yield that is taken out leaves a possible history
yield-out : (front : List Event) (t : ℕ) (es : List Event) → T (possible fresh (front ++ (yield_of t ∷ es))) → T (possible fresh (front ++ es))
unfolding act
yield-out front t es p =
    let parts = possible-parts fresh front (yield_of t ∷ es) p in
    possible-both fresh front es parts.0 (first_fine (state-after fresh front) (yield_of t) es parts.1).1

module _ (es : List Event) (can : T (possible fresh es)) (fit : T (all_of in_range es)) (room : (stop [] 0 es).number ≡ 0) where
  abbrev recording : List Event
  recording = events_in (finished es)

  fine : Fine recording []
  fine = end-fine es can fit

  within : Within recording
  within = record {
    can = subst (λ l. T (possible fresh l)) (append-nil recording) fine.can;
    fit = subst (λ l. T (all_of in_range l)) (append-nil recording) fine.fit;
    short = (limits es room).0;
    few = (limits es room).1;
  }

  -- it is cooperable
  is-cooperable : Judges recording 0 (length recording)
  is-cooperable = judges-cooperable recording within (shortest-zero recording fine.acyclic)

  -- one added yield, and what stands around it
  module _ (before after : List Placed) (p : Placed) (split : finished es ≡ before ++ (p ∷ after)) (added : T p.added) where
    standing : Around [] before after p
    unfolding finished
    standing = around [] es (start_fine es can fit) before after p split added

    abbrev e : Event
    e = standing.e

    abbrev front : List Event
    front = events_in before

    abbrev rest : List Event
    rest = events_in standing.rest

    with-yield : recording ≡ front ++ (yield_of e.thread ∷ e ∷ rest)
    with-yield = ap events_in split ∙ map-append (λ x. x.event) before (p ∷ after)
        ∙ ap (λ l. front ++ events_in l) (ap (λ x. x ∷ after) standing.yield-is ∙ ap (λ l. yield_for e ∷ l) standing.after_is)

    without-yield : events_in (before ++ after) ≡ front ++ (e ∷ rest)
    without-yield = map-append (λ x. x.event) before after ∙ ap (λ l. front ++ events_in l) standing.after_is

    left-within : Within (front ++ (e ∷ rest))
    left-within =
        let whole : Within (front ++ (yield_of e.thread ∷ e ∷ rest)) = subst Within with-yield within in
        record {
          can = yield-out front e.thread (e ∷ rest) whole.can;
          fit = all-of in_range (front ++ (e ∷ rest)) (λ x m. all-has in_range x (front ++ (yield_of e.thread ∷ e ∷ rest)) whole.fit
              (append-among x front (e ∷ rest) m (among_first front (yield_of e.thread ∷ e ∷ rest)) (λ i. among_second front (yield_of e.thread ∷ e ∷ rest) (Among.deeper i))));
          short = omega (arith, whole.short, length-append front (yield_of e.thread ∷ e ∷ rest), length-append front (e ∷ rest));
          few = omega (arith, whole.few, fewer front e.thread (e ∷ rest));
        }

    -- without it there is a violation at the record that it stood before
    is-needed : Judges (events_in (before ++ after)) 1 (length before)
    is-needed =
        let size : length front ≡ length before = length-map before (λ x. x.event) in
        subst (λ k. Judges (events_in (before ++ after)) 1 k) size
        (subst (λ l. Judges l 1 (length front)) (sym without-yield)
        (judges-violation (front ++ (e ∷ rest)) left-within (length front) (shortest-next front e rest standing.fine.acyclic standing.needs)))

-- ---- from bytes

module _ (input out work : List ℕ) where
  module _ (none : (refusal input out work).number ≡ 0) (room : (stop [] 0 (events input)).number ≡ 0) where
    here : Passed input
    here = unrefused input out work none

    whole-input : bytes_of (events input) ≡ input
    unfolding events
    whole-input = bytes-again (length input / 8) input (omega (arith, here.whole)) here.sizes here.in-form

    right-done : Right input out work
    unfolding done over finished
    right-done =
        let ends = proposed-done input out work none room in
        record {
          written = ap (λ x. take x.answer.first x.out) ends
              ∙ take-append_seam (bytes_of (events_in (finished (events input)))) (drop (length (bytes_of (events_in (finished (events input))))) out);
          cooperable = subst (Judges (events_in (finished (events input))) 0) (length-map (finished (events input)) (λ x. x.event)) (is-cooperable (events input) here.can-be here.in-range room);
          same = ap bytes_of (given-left [] (events input)) ∙ whole-input;
          stands = λ before after p split added.
              let a = standing (events input) here.can-be here.in-range room before after p split added in (a.e, a.rest, a.yield-is, a.after_is);
          needed = is-needed (events input) here.can-be here.in-range room;
        }

  -- The theorem
  pub right : (proposed input out work).answer.kind ≡ 0 → Right input out work
  right proposed-it = by-same (refusal input out work).number 0
      (λ none. by-same (stop [] 0 (events input)).number 0
      (λ room. right-done none room)
      (λ some. absurd (omega (arith, proposed-it, ap (λ x. x.answer.kind) (refused-walking input out work none (stop [] 0 (events input)) refl some)))))
      (λ some. absurd (omega (arith, proposed-it, ap (λ x. x.answer.kind) (refused-before input out work (refusal input out work) refl some))))
