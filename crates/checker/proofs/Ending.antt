-- Laws of the end of a judgement: what is named, that what is to be written fits, and that it is what the definitions name.
use Prim.Native.Nat.{ℕ, suc, ◌*◌, ◌≤◌, ◌<◌, ◌^◌}
use native.Mathlib.Omega.{arith}
use mathlib.Core.Path.{◌≡◌, sym, ap, ap₂, ◌∙◌, subst}
use mathlib.Core.List.{List, ◌++◌}
use lib.ListN.{length, get_or, take, drop, replicate, length-append, length-map, length-replicate}
use lib.Seq.{take_all}
use Rattle.record.specs.declared.Event.{Event}
use Rattle.record.specs.Record.{encoded, in_two}
use Rattle.record.proofs.Laws.{length-encoded}
use Rattle.lists.specs.Lists.{each, over}
use Rattle.lists.proofs.Lists.{Among, at-among, each-each, over-front}
use Rattle.rows.specs.Bits.{cleared}
use Rattle.rows.proofs.Laws.{cleared-is}
use Rattle.graph.specs.declared.Labelled.{Labelled}
use Rattle.graph.specs.Transactions.{none_yet, labelled, transactions, work_size}
use Rattle.graph.specs.Serial.{events_of, serial_order, serial_trace}
use Rattle.graph.specs.Violation.{shortest, cycle_of}
use Rattle.graph.specs.Named.{named}
use Rattle.graph.proofs.Numbers.{labels-lt, sane-none}
use Rattle.graph.proofs.Sizes.{order-size, trace-size, cycle-most, transactions-most}
use Rattle.naming.specs.Naming.{named_by}
use Rattle.naming.proofs.Right.{named-right}
use Rattle.checker.specs.declared.Answer.{Answer}
use Rattle.checker.specs.declared.Answer.TheVariants.{Cooperable, Violation}
use Rattle.checker.specs.Verdict.{verdict, cooperable, violation}
use Rattle.graph.specs.Held.{record_past_end}
use Rattle.checker.specs.Writing.{Few, bytes_of}
use Rattle.checker.specs.Concluded.{Sound, history, Ready, Named, Written, Concluded}
use Rattle.checker.proofs.Written.{length-each}

verdict-cooperable : (es : List Event) → shortest es ≡ 0 → verdict es ≡ cooperable es
unfolding verdict
verdict-cooperable es h = rw (h, verdict)

verdict-violation : (es : List Event) (k : ℕ) → shortest es ≡ suc k → verdict es ≡ violation es k
unfolding verdict
verdict-violation es k h = rw (h, verdict)

pub named-serial : (es : List Event) → shortest es ≡ 0 → named es (shortest es) ≡ serial_order es
unfolding named
named-serial es h = ap (named es) h

pub named-cycle : (es : List Event) (k : ℕ) → shortest es ≡ suc k → named es (shortest es) ≡ cycle_of es (suc k)
unfolding named
named-cycle es k h = ap (named es) h

-- each record of a history is of one of 512 transactions
pub records-few : (xs : List Labelled) → xs ≡ labelled (history xs) → Sound (history xs) → Few xs
unfolding transactions
records-few xs are s i h =
    let m = at-among xs i record_past_end h in
    omega (arith, labels-lt none_yet (history xs) sane-none (get_or xs i record_past_end) (subst (Among (get_or xs i record_past_end)) are m), s.few)

pub records-most : (xs : List Labelled) → Sound (history xs) → length xs ≤ 1024
records-most xs s = omega (arith, length-map xs (λ x. x.event), s.most)

-- ---- What is written, of the transactions that are named

module _ (xs : List Labelled) (front : List ℕ) (prefix : ℕ) (out : List ℕ) (r : Named xs front prefix out) where
  abbrev es : List Event
  es = history xs

  size : length es ≡ length xs
  size = length-map xs (λ x. x.event)

  -- No cycle: all transactions, in serial order
  module _ (none : prefix ≡ 0) where
    no-cycle : shortest es ≡ 0
    no-cycle = sym r.first ∙ none

    bytes-are : each (bytes_of xs) front ≡ each encoded (serial_trace es)
    unfolding serial_trace
    bytes-are =
        each-each encoded (events_of xs) front
        ∙ ap₂ (λ ys l. each encoded (each (events_of ys) l)) r.are (r.front-is ∙ named-serial es no-cycle)

    length-written-out : length (each encoded (serial_trace es)) ≡ 8 * length (serial_trace es)
    length-written-out = length-each encoded 8 length-encoded (serial_trace es)

    pub trace-fits : length (each (bytes_of xs) front) ≤ length out
    trace-fits = omega (arith, ap length bytes-are, length-written-out, trace-size es no-cycle, size, r.out-room)

    pub written-cooperable : (out' : List ℕ) → out' ≡ over (each (bytes_of xs) front) out → Written es out (Cooperable (length xs) (length front)) out'
    unfolding cooperable
    written-cooperable out' p =
        let v = verdict-cooperable es no-cycle in
        record {
          answer = ap₂ (λ (x y : ℕ). record { kind = 0; first = x; second = y }) (sym size) (ap length (r.front-is ∙ named-serial es no-cycle) ∙ order-size es no-cycle)
              ∙ ap (λ x. x.answer) (sym v);
          written = p ∙ ap (λ l. over l out) (bytes-are ∙ ap (λ x. x.written) (sym v));
        }

  -- A cycle
  module _ (k : ℕ) (some : prefix ≡ suc k) where
    last : shortest es ≡ suc k
    last = sym r.first ∙ some

    cycle-is : front ≡ cycle_of es (suc k)
    cycle-is = r.front-is ∙ named-cycle es k last

    pub cycle-fits : 2 * length front ≤ length out
    cycle-fits = omega (arith, ap length cycle-is, cycle-most es (suc k), transactions-most es, size, r.out-room)

    pub written-violation : (out' : List ℕ) → out' ≡ over (each in_two front) out → Written es out (Violation k (length front)) out'
    unfolding violation
    written-violation out' p =
        let v = verdict-violation es k last in
        record {
          answer = ap (λ l. record { kind = 1; first = k; second = length l }) cycle-is ∙ ap (λ x. x.answer) (sym v);
          written = p ∙ ap (λ l. over l out) (ap (each in_two) cycle-is ∙ ap (λ x. x.written) (sym v));
        }

pub over-long : (new old : List ℕ) → length new ≤ length (over new old)
unfolding over
over-long new old = omega (arith, length-append new (drop (length new) old))

-- the rows cleared
cleared-over : (w : List ℕ) → work_size ≤ length w → cleared w ≡ over (replicate work_size 0) w
unfolding over
cleared-over w long =
    let n : ℕ = work_size in
    let z : ℕ = 0 in
    cleared-is w long ∙ ap (λ k. replicate n z ++ drop k w) (sym (length-replicate n z))

-- ---- What is named, by the rows

module _ (xs : List Labelled) (n prefix : ℕ) (work out : List ℕ) (r : Ready xs n prefix work out) (small : (i : ℕ) → get_or work i 0 < 2 ^ 64) where
  abbrev pub new : List ℕ
  new = named_by (take 1024 xs) n prefix work

  named-are : new ≡ named (history xs) (shortest (history xs))
  named-are =
      let es : List Event = history xs in
      ap₂ (λ ys m. named_by ys m prefix work) (take_all 1024 xs (records-most xs r.sound) ∙ r.are) r.counted
      ∙ named-right es r.sound.few work r.long prefix work r.found small

  -- it stands at the front of what it was written over
  pub front-size : (k : ℕ) (order order' : List ℕ) → k ≡ length new → order' ≡ over new order → k ≡ length (take k order')
  front-size k order order' k-is order_is = k-is ∙ sym (ap length (ap₂ take k-is order_is ∙ over-front new order))

  pub ready-named : (k : ℕ) (order order' : List ℕ) → k ≡ length new → order' ≡ over new order → Named xs (take k order') prefix out
  ready-named k order order' k-is order_is = record {
    are = r.are;
    sound = r.sound;
    first = r.found.first;
    front-is = ap₂ take k-is order_is ∙ over-front new order ∙ named-are;
    out-room = r.out-room;
  }

  pub concluded : (order order' work' : List ℕ) (x : Answer) (out' : List ℕ) → order' ≡ over new order → work' ≡ cleared work → Written (history xs) out x out'
      → Concluded (history xs) out work order x out' work' order'
  concluded order order' work' x out' order_is work-is w = record {
    written = w;
    cleared = work-is ∙ cleared-over work r.long;
    all_named = order_is ∙ ap (λ l. over l order) named-are;
  }
