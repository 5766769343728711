-- Events written as bytes: a possible history within the limits is not refused, and a recording's events are written as its bytes.
use Prim.Native.Nat.{ℕ, zero, suc, ◌*◌, ◌/◌, ◌≤◌}
use native.Mathlib.Omega.{arith}
use mathlib.Core.Path.{◌≡◌, refl, sym, ap, ap₂, ◌∙◌, subst}
use mathlib.Core.Bool.{false, ◌&&◌}
use mathlib.Core.List.{List, [], ◌∷◌, ◌++◌, map, append-nil}
use lib.ListN.{length, take, drop, length-drop, take-append-drop}
use lib.Dec.{T, leb}
use borrow.Author.Tests.{lt-leb}
use Rattle.record.specs.declared.Event.{Event}
use Rattle.record.specs.Record.{event, encoded, in_range, records, records_of}
use Rattle.record.proofs.Laws.{IsEvent, good-decoded, decoded-good, decode-encoded, encode-decoded}
use Rattle.record.proofs.Written.{length-records, records-written}
use Rattle.replay.specs.Machine.{fresh, fault_of, possible}
use Rattle.lists.specs.Lists.{all_of, each}
use Rattle.lists.proofs.Tests.{by, and_left, and_right}
use Rattle.lists.proofs.Lists.{Every, all_cons}
use Rattle.graph.specs.declared.Tally.{Tally}
use Rattle.graph.specs.Transactions.{begins, full, tallied, tally_from, transactions}
use Rattle.graph.proofs.Numbers.{count-begun, tally-rises}
use Rattle.looking.specs.declared.seeing.Run.{Run}
use Rattle.looking.specs.Refusals.{start, onwards, first_refusal, events}
use Rattle.looking.proofs.Refusing.{refusal-on}
use Rattle.looking.proofs.Seen.{no-fault}
use Rattle.looking.proofs.Laws.{InForm}
use Rattle.second.proofs.Possible.{first_fine}
use Rattle.proposal.specs.Proposed.{bytes_of}

pub bytes-size : (es : List Event) → length (bytes_of es) ≡ 8 * length es
unfolding bytes_of
bytes-size es = length-records es

-- the first of some in range, and the others
first-ranged : (e : Event) (es : List Event) → T (all_of in_range (e ∷ es)) → T (in_range e) × T (all_of in_range es)
first-ranged e es r =
    let both : T (in_range e && all_of in_range es) = subst T (all_cons in_range e es) r in
    (and_left (in_range e) (all_of in_range es) both, and_right (in_range e) (all_of in_range es) both)

-- ---- the records of what is written are the events

written-records : (es : List Event) → records_of (bytes_of es) ≡ map encoded es
unfolding bytes_of
written-records es =
    let n : length (bytes_of es) / 8 ≡ length es = omega (arith, bytes-size es) in
    ap (λ k. records k (each encoded es)) n ∙ ap (records (length es)) (sym (append-nil (each encoded es))) ∙ records-written es []

written-event : (e : Event) → T (in_range e) → IsEvent (encoded e) e
written-event e r = good-decoded (encoded e) e (decode-encoded e r)

pub written-events : (es : List Event) → T (all_of in_range es) → events (bytes_of es) ≡ es
unfolding events
written-events es r = ap (map event) (written-records es) ∙ again es r
  where
    again : (es : List Event) → T (all_of in_range es) → map event (map encoded es) ≡ es
    again [] r = refl
    again (e ∷ es) r = let a = first-ranged e es r in ap₂ (λ f l. f ∷ l) (written-event e a.0).same (again es a.1)

-- ---- none is refused

-- where there are at most 512 transactions in the end, none would be the 513th
pub few-open : (s : Tally) (e : Event) (es : List Event) → (tally_from s (e ∷ es)).count ≤ 512 → full s e ≡ false
unfolding full tally_from
few-open s e es h = by (begins s e)
    (λ b. ap (λ c. c && leb 512 s.count) b ∙ lt-leb 512 s.count (omega (arith, count-begun s e b, tally-rises (tallied s e) es)))
    (λ b. ap (λ c. c && leb 512 s.count) b)

unrefused : (r : Run) (k : ℕ) (es : List Event) → T (possible r.state es) → T (all_of in_range es) → (tally_from r.tally es).count ≤ 512 → (first_refusal r k (map encoded es)).number ≡ 0
unfolding first_refusal tally_from
unrefused r k [] p f h = refl
unrefused r k (e ∷ es) p f h =
    let a = first_fine r.state e es p in
    let g = first-ranged e es f in
    let w : IsEvent (encoded e) e = written-event e g.0 in
    let q : event (encoded e) ≡ e = w.same in
    ap (λ x. x.number) (refusal-on r k (encoded e) (map encoded es)
    (no-fault r (encoded e) w.faultless (ap (fault_of r.state) q ∙ a.0) (ap (full r.tally) q ∙ few-open r.tally e es h)))
    ∙ ap (λ x. (first_refusal (onwards r x) (suc k) (map encoded es)).number) q
    ∙ unrefused (onwards r e) (suc k) es a.1 g.1 h

-- a possible history of at most 512 transactions, written
pub written-fine : (es : List Event) → T (possible fresh es) → T (all_of in_range es) → transactions es ≤ 512 → (first_refusal start 0 (records_of (bytes_of es))).number ≡ 0
unfolding start transactions
written-fine es can fit few = ap (λ l. (first_refusal start 0 l).number) (written-records es) ∙ unrefused start 0 es can fit few

-- ---- a recording's events, written, are its bytes

pub bytes-again : (n : ℕ) (bs : List ℕ) → length bs ≡ 8 * n → Every (λ r. length r ≡ 8) (records n bs) → Every InForm (records n bs) → bytes_of (map event (records n bs)) ≡ bs
unfolding bytes_of each records
bytes-again zero [] h s f = refl
bytes-again zero (b ∷ bs) h s f = absurd (omega (arith, h))
bytes-again (suc n) bs h s f =
    let rest : length (drop 8 bs) ≡ 8 * n = omega (arith, h, length-drop 8 bs) in
    ap₂ (λ a b. a ++ b) (encode-decoded (take 8 bs) (event (take 8 bs)) (decoded-good (take 8 bs) s.0 f.0)) (bytes-again n (drop 8 bs) rest s.1 f.1)
    ∙ take-append-drop 8 bs
