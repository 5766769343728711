-- The walk under way, as the code goes over the events: the laws that it cites.
use Prim.Native.Nat.{ℕ, zero, suc, ◌+◌, ◌/◌, ◌≤◌, ◌<◌}
use native.Mathlib.Omega.{arith}
use mathlib.Core.Path.{◌≡◌, refl, sym, ap, ap₂, ◌∙◌, subst}
use mathlib.Core.Logic.{◌≢◌}
use mathlib.Core.Bool.{Bool, true, false, ◌&&◌}
use Rattle.std.specs.Prelude.{Ok, Err}
use mathlib.Core.List.{List, [], ◌∷◌, ◌++◌, append_assoc, append-nil}
use lib.ListN.{length, get_or, set, drop, length-append, drop_of_length-le, length-map}
use lib.Seq.{drop-cons, get_or-set_same, get_or-set_other}
use lib.Dec.{T, leb, leb→le}
use mir.Val.{bool_byte}
use Rattle.record.specs.declared.Event.{Event}
use Rattle.record.specs.Faults.{Refusal, first_fault}
use Rattle.looking.specs.Refusals.{events}
use Rattle.looking.proofs.Scanned.{record_in, event-at}
use Rattle.record.specs.Record.{event, kind, target, value, target_limit, in_range}
use Rattle.replay.specs.Machine.{fresh, possible}
use Rattle.lists.specs.Lists.{all_of}
use Rattle.lists.proofs.Tests.{and_left}
use Rattle.lists.proofs.Lists.{map-append}
use Rattle.graph.specs.Held.{past_end}
use Rattle.proposal.specs.Walk.{Placed, events_in, placed, grown, walked, finished, room_checks, stop}
use Rattle.proposal.specs.Weaving.{placed_as, woven}
use Rattle.proposal.specs.Keeping.{Kept, Stepping, stepping, Walked}
use Rattle.proposal.proofs.Walks.{Fine, next-ranged, fine-next, start_fine, stop-on, stop-at}
use Rattle.proposal.proofs.Weaving.{placed-unmarked, placed-marked}
use Rattle.proposal.proofs.Keeping.{Represents, Right, stepping-right}

-- a part of a recording that is cut off as record i is read as its event
pub event-is : (input bytes : List ℕ) (i : ℕ) → i < length input / 8 → bytes ≡ record_in input i → (e : Event) → e ≡ event bytes → e ≡ get_or (events input) i past_end
event-is input bytes i more is e own = own ∙ ap event is ∙ sym (event-at input i past_end more)

-- marks past the first n don't matter
woven-set : (n i : ℕ) (es : List Event) (marks : List Bool) (m : Bool) → n ≤ i → woven n es (set marks i m) ≡ woven n es marks
unfolding woven
woven-set zero i es marks m h = refl
woven-set (suc n) i es marks m h = ap₂ (λ l a. l ++ placed_as a (get_or es n past_end))
    (woven-set n i es marks m (omega arith)) (get_or-set_other marks i n m false (λ e. absurd (omega arith)))

-- an event with its mark is one record, or two
-- how many a mark adds
pub bit-small : (mark : Bool) → bool_byte mark ≤ 1
bit-small true = omega arith
bit-small false = omega arith

placed-size : (mark : Bool) (e : Event) → length (placed_as mark e) ≡ 1 + bool_byte mark
placed-size true e = ap length (placed-marked true e refl)
placed-size false e = ap length (placed-unmarked false e refl)

-- The first i events are walked over: what is kept represents what is built of them, and the walk goes on with the rest
pub record Under (es : List Event) (marks : List Bool) (work₀ : List ℕ) (k : Kept) (built i : ℕ) : Type 0 where
  pub represents : Represents (events_in (woven i es marks)) k
  pub fine : Fine (events_in (woven i es marks)) (drop i es)
  pub size : built ≡ length (events_in (woven i es marks))
  pub stops : stop [] 0 es ≡ stop (events_in (woven i es marks)) i (drop i es)
  pub finishes : finished es ≡ woven i es marks ++ walked (events_in (woven i es marks)) (drop i es)
  pub rest : drop 4096 k.rows ≡ drop 4096 work₀

module _ (es : List Event) (work₀ : List ℕ) where
  pub under_none : (marks : List Bool) (k : Kept) → T (possible fresh es) → T (all_of in_range es) → Represents [] k → drop 4096 k.rows ≡ drop 4096 work₀
      → Under es marks work₀ k 0 0
  unfolding woven finished
  under_none marks k can fit r kept = record {
    represents = r;
    fine = start_fine es can fit;
    size = refl;
    stops = refl;
    finishes = refl;
    rest = kept;
  }

  module _ (marks : List Bool) (k : Kept) (built i : ℕ) (u : Under es marks work₀ k built i) where
    abbrev front : List Event
    front = events_in (woven i es marks)

    module _ (more : i < length es) where
      abbrev e : Event
      e = get_or es i past_end

      abbrev later : List Event
      later = drop (suc i) es

      next : drop i es ≡ e ∷ later
      next = drop-cons es i past_end more

      fine-now : Fine front (e ∷ later)
      fine-now = subst (Fine front) next u.fine

      module _ (own : Event) (is : own ≡ e) where
        -- the event's thread is one of 16
        pub thread-small : own.thread < 16
        unfolding in_range
        thread-small =
            let fit : T (in_range e) = next-ranged front e later fine-now in
            omega (
              arith,
              ap (λ x. x.thread) is,
              leb→le e.thread 15 (and_left (leb e.thread 15) (leb (target e.op) (target_limit (kind e.op)) && leb (value e.op) 65535) fit),
            )

        -- the step that the code takes is that of the walk
        pub step_right : (s : Stepping) → s ≡ stepping built k own → Right front k e s
        step_right s q = subst (Right front k e) (sym (q ∙ ap (stepping built k) is)) (stepping-right front e later fine-now k u.represents built u.size)

      module _ (s : Stepping) (r : Right front k e s) where
        -- one more
        module _ (mark : Bool) (none : s.answer ≡ Ok mark) (in-marks : i < length marks) where
          abbrev marks' : List Bool
          marks' = set marks i mark

          woven-next : woven (suc i) es marks' ≡ woven i es marks ++ placed front e
          unfolding woven
          woven-next = ap₂ (λ l m. l ++ placed_as m e) (woven-set i i es marks mark (omega arith)) (get_or-set_same marks i mark false in-marks)
              ∙ ap (λ l. woven i es marks ++ l) (r.placed-is mark none)

          front-next : events_in (woven (suc i) es marks') ≡ grown front e
          unfolding grown
          front-next = ap events_in woven-next ∙ map-append (λ p. p.event) (woven i es marks) (placed front e)

          pub under_next : (built' : ℕ) → built' ≡ built + (1 + bool_byte mark) → Under es marks' work₀ s.kept built' (suc i)
          unfolding walked grown
          under_next built' q =
              let room : first_fault (room_checks front e) ≡ 0 = r.room mark none in
              record {
                represents = subst (λ l. Represents l s.kept) (sym front-next) (r.represents mark none);
                fine = subst (λ l. Fine l later) (sym front-next) (fine-next front e later fine-now);
                size = omega (
                  arith,
                  q,
                  u.size,
                  ap length front-next,
                  length-append front (events_in (placed front e)),
                  length-map (placed front e) (λ p. p.event),
                  ap length (sym (r.placed-is mark none)),
                  placed-size mark e,
                );
                stops = u.stops ∙ ap (stop front i) next ∙ stop-on front i e later room ∙ ap (λ l. stop l (suc i) later) (sym front-next);
                finishes = u.finishes ∙ ap (λ l. woven i es marks ++ walked front l) next
                    ∙ sym (append_assoc (woven i es marks) (placed front e) (walked (grown front e) later))
                    ∙ ap₂ (λ (w : List Placed) (l : List Event). w ++ walked l later) (sym woven-next) (sym front-next);
                rest = r.rest ∙ u.rest;
              }

        -- there is no room
        pub walked_stop : (n : ℕ) → s.answer ≡ Err n → n ≢ 0 → Walked es marks work₀ s.kept.rows (record { number = n; place = i })
        walked_stop zero q some = absurd (some refl)
        walked_stop (suc n) q some = record {
          stopped = sym (u.stops ∙ ap (stop front i) next ∙ stop-at front i e later n (sym (r.refused (suc n) q)));
          marked = λ z. absurd (some z);
          rest = r.rest ∙ u.rest;
        }

    -- all are walked over
    pub walked_end : i ≡ length es → Walked es marks work₀ k.rows (record { number = 0; place = 0 })
    unfolding stop walked
    walked_end q =
        let none : drop i es ≡ [] = drop_of_length-le es {i = i} (omega arith) in
        record {
          stopped = sym (u.stops ∙ ap (stop front i) none);
          marked = λ z. ap (λ n. woven n es marks) (sym q) ∙ sym (u.finishes ∙ ap (λ l. woven i es marks ++ walked front l) none ∙ append-nil (woven i es marks));
          rest = u.rest;
        }

-- from the rows that the walk began with to those that were there before
pub walked_from : (es : List Event) (marks : List Bool) (work w w' : List ℕ) (r : Refusal) → drop 4096 w ≡ drop 4096 work → Walked es marks w w' r → Walked es marks work w' r
walked_from es marks work w w' r q walk = record { stopped = walk.stopped; marked = walk.marked; rest = walk.rest ∙ q }
