-- A single added yield dropped: what stands around it, and that the recording without it begins no more transactions.
use Prim.Native.Nat.{ℕ, zero, suc, ◌≤◌, ◌<◌}
use native.Mathlib.Omega.{arith}
use mathlib.Core.Path.{◌≡◌, refl, sym, ap, ◌∙◌, subst}
use mathlib.Core.Logic.{◌≢◌}
use mathlib.Core.Bool.{true, false, cond, ◌||◌}
use mathlib.Core.List.{List, [], ◌∷◌, ◌++◌, append_assoc, append-nil}
use lib.ListN.{length, get_or, set, length-set}
use lib.Seq.{get_or-set_same}
use lib.Dec.{T, eqb}
use borrow.Author.Tests.{eqb-true, eqb-false}
use Rattle.record.specs.declared.Event.{Event}
use Rattle.lists.proofs.Tests.{by, by-same}
use Rattle.lists.proofs.Lists.{map-append}
use Rattle.graph.specs.Conflict.{joins}
use Rattle.graph.specs.declared.Tally.{Tally}
use Rattle.graph.specs.Transactions.{none_yet, current_of, begins, belongs, ends, tallied, tally_from, transactions}
use Rattle.graph.proofs.Numbers.{count-begun, count-unbegun, count-rises, current-other}
use Rattle.proposal.specs.Walk.{Placed, given, yield_of, yield_for, events_in, needs_yield, grown, walked}
use Rattle.proposal.proofs.Appending.{tally-append}
use Rattle.proposal.proofs.Idle.{current-ended, yield-last}
use Rattle.proposal.proofs.Cycles.{tally}
use Rattle.proposal.proofs.Walks.{placed-yield, placed-alone, grown-yield, grown-alone, Fine, fine-next}

-- ---- what stands around an added yield

-- the record that it stands before, which needed it after what was built then, and the records that were then still to come
pub record Around (built : List Event) (before after : List Placed) (p : Placed) : Type 0 where
  pub e : Event
  pub es : List Event
  pub rest : List Placed
  pub yield-is : p ≡ yield_for e
  pub after_is : after ≡ given e ∷ rest
  pub needs : needs_yield (built ++ events_in before) e ≡ true
  pub fine : Fine (built ++ events_in before) (e ∷ es)

-- the same, from an earlier place of the walk
earlier : (built : List Event) (e : Event) (first before after : List Placed) (p : Placed) → grown built e ≡ built ++ events_in first
    → Around (grown built e) before after p → Around built (first ++ before) after p
earlier built e first before after p g a =
    let is : grown built e ++ events_in before ≡ built ++ events_in (first ++ before) =
    ap (λ l. l ++ events_in before) g ∙ append_assoc built (events_in first) (events_in before) ∙ ap (λ l. built ++ l) (sym (map-append (λ x. x.event) first before)) in
    record {
      e = a.e;
      es = a.es;
      rest = a.rest;
      yield-is = a.yield-is;
      after_is = a.after_is;
      needs = subst (λ l. needs_yield l a.e ≡ true) is a.needs;
      fine = subst (λ l. Fine l (a.e ∷ a.es)) is a.fine;
    }

given-not : (p : Placed) (e : Event) → given e ≡ p → T p.added → ⊥
given-not p e q t = subst (λ x. T x.added) (sym q) t

nothing_is : {A : Type 0} (x : A) (l : List A) → [] ≡ x ∷ l → ⊥
nothing_is x l q = absurd (omega (arith, ap length q))

module _ (built : List Event) (e : Event) (es : List Event) (f : Fine built (e ∷ es)) (after : List Placed) (p : Placed) (t : T p.added)
    (on : (before : List Placed) → walked (grown built e) es ≡ before ++ (p ∷ after) → Around (grown built e) before after p) where
  abbrev later : List Placed
  later = walked (grown built e) es

  with-yield : (before : List Placed) → needs_yield built e ≡ true → yield_for e ∷ given e ∷ later ≡ before ++ (p ∷ after) → Around built before after p
  with-yield [] h q = record {
    e = e;
    es = es;
    rest = later;
    yield-is = sym (cc q);
    after_is = sym (cc q);
    needs = ap (λ l. needs_yield l e) (append-nil built) ∙ h;
    fine = subst (λ l. Fine l (e ∷ es)) (sym (append-nil built)) f;
  }
  with-yield (b ∷ []) h q = absurd (given-not p e (cc q) t)
  with-yield (b ∷ c ∷ before) h q =
      let first : yield_for e ≡ b = cc q in
      let second : given e ≡ c = cc q in
      let rest : later ≡ before ++ (p ∷ after) = cc q in
      subst (λ x. Around built (x ∷ c ∷ before) after p) first (subst (λ x. Around built (yield_for e ∷ x ∷ before) after p) second
      (earlier built e (yield_for e ∷ given e ∷ []) before after p (grown-yield built e h) (on before rest)))

  alone : (before : List Placed) → needs_yield built e ≡ false → given e ∷ later ≡ before ++ (p ∷ after) → Around built before after p
  alone [] h q = absurd (given-not p e (cc q) t)
  alone (b ∷ before) h q =
      let first : given e ≡ b = cc q in
      let rest : later ≡ before ++ (p ∷ after) = cc q in
      subst (λ x. Around built (x ∷ before) after p) first (earlier built e (given e ∷ []) before after p (grown-alone built e h) (on before rest))

pub around : (built es : List Event) → Fine built es → (before after : List Placed) (p : Placed) → walked built es ≡ before ++ (p ∷ after) → T p.added → Around built before after p
unfolding walked
around built [] f [] after p w t = absurd (nothing_is p after w)
around built [] f (b ∷ before) after p w t = absurd (nothing_is b (before ++ (p ∷ after)) w)
around built (e ∷ es) f before after p w t =
    let later : List Placed = walked (grown built e) es in
    let on : (before : List Placed) → later ≡ before ++ (p ∷ after) → Around (grown built e) before after p =
    λ b q. around (grown built e) es (fine-next built e es f) b after p q t in
    by (needs_yield built e)
    (λ h. with-yield built e es f after p t on before h (ap (λ l. l ++ later) (sym (placed-yield built e h)) ∙ w))
    (λ h. alone built e es f after p t on before h (ap (λ l. l ++ later) (sym (placed-alone built e h)) ∙ w))

-- ---- no more transactions without it

-- b has begun no more than a, and whoever is in the middle of a transaction in a is so in b
record Less (a b : Tally) : Type 0 where
  count : b.count ≤ a.count
  inside : (t : ℕ) → current_of a t ≢ 0 → current_of b t ≢ 0
  size : length a.current ≡ length b.current

begins-less : (a b : Tally) → Less a b → (e : Event) → begins b e ≡ true → begins a e ≡ true
unfolding begins
begins-less a b l e h = by (joins e.op)
    (λ j. ap (λ x. x || eqb (current_of a e.thread) 0) j)
    (λ j. let zero-b : current_of b e.thread ≡ 0 = eqb-true (current_of b e.thread) 0 (sym (ap (λ x. x || eqb (current_of b e.thread) 0) j) ∙ h) in
    ap (λ x. x || eqb (current_of a e.thread) 0) j
    ∙ by (eqb (current_of a e.thread) 0) (λ q. q) (λ q. absurd (l.inside e.thread (eqb-false (current_of a e.thread) 0 q) zero-b)))

set-inside : (l : List ℕ) (i v : ℕ) → get_or (set l i v) i 0 ≢ 0 → i < length l
set-inside [] i v h = absurd (h refl)
set-inside (x ∷ l) zero v h = omega arith
set-inside (x ∷ l) (suc i) v h = omega (arith, set-inside l i v h)

current-goes : (c : Tally) (e : Event) → ends e ≡ false → e.thread < length c.current → current_of (tallied c e) e.thread ≡ suc (belongs c e)
unfolding tallied
current-goes c e b h = get_or-set_same c.current e.thread (cond (ends e) 0 (suc (belongs c e))) 0 h ∙ ap (λ x. cond x 0 (suc (belongs c e))) b

current-inside : (c : Tally) (e : Event) → current_of (tallied c e) e.thread ≢ 0 → e.thread < length c.current
unfolding tallied
current-inside c e h = set-inside c.current e.thread (cond (ends e) 0 (suc (belongs c e))) h

tallied-size : (c : Tally) (e : Event) → length (tallied c e).current ≡ length c.current
unfolding tallied
tallied-size c e = length-set c.current e.thread (cond (ends e) 0 (suc (belongs c e)))

less-next : (a b : Tally) → Less a b → (e : Event) → Less (tallied a e) (tallied b e)
less-next a b l e = record {
  count = by (begins b e)
      (λ h. omega (arith, count-begun b e h, count-begun a e (begins-less a b l e h), l.count))
      (λ h. omega (arith, count-unbegun b e h, count-rises a e, l.count));
  inside = λ t opened. by-same t e.thread
      (λ q. by (ends e)
      (λ x. absurd (opened (ap (current_of (tallied a e)) q ∙ current-ended a e x)))
      (λ x. let within : e.thread < length a.current = current-inside a e (λ z. opened (ap (current_of (tallied a e)) q ∙ z)) in
      λ z. absurd (omega (arith, sym (current-goes b e x (subst (λ n. e.thread < n) l.size within)) ∙ ap (current_of (tallied b e)) (sym q) ∙ z))))
      (λ d z. l.inside t (λ y. opened (current-other a e t d ∙ y)) (sym (current-other b e t d) ∙ z));
  size = tallied-size a e ∙ l.size ∙ sym (tallied-size b e);
}

less-from : (a b : Tally) → Less a b → (es : List Event) → (tally_from b es).count ≤ (tally_from a es).count
unfolding tally_from
less-from a b l [] = l.count
less-from a b l (e ∷ es) = less-from (tallied a e) (tallied b e) (less-next a b l e) es

less-yield : (c : Tally) (t : ℕ) → Less (tallied c (yield_of t)) c
less-yield c t = record {
  count = count-rises c (yield_of t);
  inside = λ u opened. by-same u t
      (λ q. absurd (opened (ap (current_of (tallied c (yield_of t))) q ∙ current-ended c (yield_of t) (yield-last t))))
      (λ d z. opened (current-other c (yield_of t) u d ∙ z));
  size = tallied-size c (yield_of t);
}

pub fewer : (built : List Event) (t : ℕ) (es : List Event) → transactions (built ++ es) ≤ transactions (built ++ (yield_of t ∷ es))
unfolding transactions tally_from
fewer built t es =
    let c : Tally = tally built in
    omega (
      arith,
      ap (λ x. x.count) (tally-append none_yet built es),
      ap (λ x. x.count) (tally-append none_yet built (yield_of t ∷ es)),
      less-from (tallied c (yield_of t)) c (less-yield c t) es,
    )
