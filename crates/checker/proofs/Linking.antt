-- Laws of the records linked by transaction: where each begins, and its events in turn.
use Prim.Native.Nat.{ℕ, suc, ◌+◌, ◌≤◌, ◌<◌}
use native.Mathlib.Omega.{arith}
use mathlib.Core.Path.{◌≡◌, refl, sym, ap, ap₂, ◌∙◌}
use mathlib.Core.Bool.{true, false, not}
use mathlib.Core.List.{List, [], ◌∷◌, ◌++◌}
use lib.Dec.{eqb, ltb, ltb→lt, nltb→le}
use lib.ListN.{length, get_or, drop, length-drop}
use lib.Seq.{drop-drop}
use Rattle.std.proofs.lemmas.List.{get_or-drop, get_or_past}
use borrow.Author.Tests.{eq-eqb, ne_eqb}
use Rattle.record.specs.Record.{encoded}
use Rattle.lists.specs.Lists.{each}
use Rattle.lists.proofs.Tests.{by, by-same, T_of}
use Rattle.graph.specs.declared.Labelled.{Labelled}
use Rattle.graph.specs.Serial.{events_of, thread_of}
use Rattle.checker.specs.declared.Line.{Line}
use Rattle.checker.specs.Report.{first_record}
use Rattle.graph.specs.Held.{record_past_end}
use Rattle.naming.specs.Naming.{transaction_at}
use Rattle.naming.specs.Chains.{no_record, first_in, first_from, Linked}
use Rattle.naming.proofs.Linking.{first-hit, first-miss}
use Rattle.checker.specs.Writing.{Few, line_of}

-- ---- A record of the transaction in front, and one of another

module _ (x : Labelled) (xs : List Labelled) (a : ℕ) where
  module _ (same : eqb x.transaction a ≡ true) where
    events-hit : events_of (x ∷ xs) a ≡ x.event ∷ events_of xs a
    unfolding events_of
    events-hit = rw (same, events_of)

    thread-hit : thread_of (x ∷ xs) a ≡ x.event.thread
    unfolding thread_of
    thread-hit = rw (same, thread_of)

    record-hit : (k : ℕ) → first_record k (x ∷ xs) a ≡ k
    unfolding first_record
    record-hit k = rw (same, first_record)

  module _ (other : eqb x.transaction a ≡ false) where
    events-miss : events_of (x ∷ xs) a ≡ events_of xs a
    unfolding events_of
    events-miss = rw (other, events_of)

    thread-miss : thread_of (x ∷ xs) a ≡ thread_of xs a
    unfolding thread_of
    thread-miss = rw (other, thread_of)

    record-miss : (k : ℕ) → first_record k (x ∷ xs) a ≡ first_record (suc k) xs a
    unfolding first_record
    record-miss k = rw (other, first_record)

-- a transaction has no record
pub record Absent (k : ℕ) (xs : List Labelled) (a : ℕ) : Type 0 where
  pub first : first_in k xs a ≡ no_record
  pub events : events_of xs a ≡ []
  pub thread : thread_of xs a ≡ 0
  pub place : first_record k xs a ≡ 0

-- or begins with record i of a list, which is record k + i of all
pub record Begins (k : ℕ) (xs : List Labelled) (a i : ℕ) : Type 0 where
  pub inside : i < length xs
  pub own : transaction_at xs i ≡ a
  pub first : first_in k xs a ≡ k + i
  pub events : events_of xs a ≡ (get_or xs i record_past_end).event ∷ events_of (drop (suc i) xs) a
  pub thread : thread_of xs a ≡ (get_or xs i record_past_end).event.thread
  pub place : first_record k xs a ≡ k + i

absent-none : (k a : ℕ) → Absent k [] a
unfolding first_in events_of thread_of first_record
absent-none k a = record { first = refl; events = refl; thread = refl; place = refl }

met : {C : Type 0} (k : ℕ) (xs : List Labelled) (a : ℕ) → (Absent k xs a → C) → ((i : ℕ) → Begins k xs a i → C) → C
met k [] a none some = none (absent-none k a)
met k (x ∷ xs) a none some = by-same x.transaction a
    (λ q. let t = eq-eqb x.transaction a q in
    some 0 (record {
      inside = omega arith;
      own = q;
      first = first-hit x xs a t k ∙ omega arith;
      events = events-hit x xs a t;
      thread = thread-hit x xs a t;
      place = record-hit x xs a t k ∙ omega arith;
    }))
    (λ q. let t = ne_eqb x.transaction a q in
    met (suc k) xs a
    (λ n. none (record {
      first = first-miss x xs a t k ∙ n.first;
      events = events-miss x xs a t ∙ n.events;
      thread = thread-miss x xs a t ∙ n.thread;
      place = record-miss x xs a t k ∙ n.place;
    }))
    (λ i s. some (suc i) (record {
      inside = omega (arith, s.inside);
      own = s.own;
      first = first-miss x xs a t k ∙ s.first ∙ omega arith;
      events = events-miss x xs a t ∙ s.events;
      thread = thread-miss x xs a t ∙ s.thread;
      place = record-miss x xs a t k ∙ s.place ∙ omega arith;
    })))

-- the first, where there is one, is the number of a record
pub first-low : (xs : List Labelled) (a f : ℕ) → f ≡ first_from xs a 0 → f < no_record → f < length xs
first-low xs a f is h = met 0 xs a (λ n. absurd (omega (arith, is, n.first, h))) (λ m s. omega (arith, is, s.first, s.inside))

-- ---- Following the links

-- any transaction's first record, by the links
pub first-linked : (xs : List Labelled) (firsts nexts : List ℕ) → Few xs → Linked xs 0 firsts nexts → (a : ℕ) → get_or firsts a no_record ≡ first_from xs a 0
first-linked xs firsts nexts few linked a = by (ltb a 512)
    (λ e. linked.first-is a (ltb→lt a 512 (T_of e)))
    (λ e. let beyond : 512 ≤ a = nltb→le a 512 (T_of (ap not e)) in
    get_or_past firsts a no_record (omega (arith, beyond, linked.firsts-long))
    ∙ met 0 xs a (λ n. sym n.first) (λ i s. absurd (omega (arith, beyond, s.own, few i s.inside))))

module _ (xs : List Labelled) (most : length xs ≤ 1024) (a j : ℕ) where
  -- no record is left
  pub chain-end : (i : ℕ) → i ≡ first_from xs a j → length xs ≤ i → each encoded (events_of (drop j xs) a) ≡ []
  unfolding each
  chain-end i is h = met j (drop j xs) a
      (λ n. ap (each encoded) n.events)
      (λ m s. absurd (omega (arith, is, s.first, s.inside, length-drop j xs)))

  -- or record i is next
  pub chain_next : (i : ℕ) → i ≡ first_from xs a j → i < length xs
      → (transaction_at xs i ≡ a) × (each encoded (events_of (drop j xs) a) ≡ encoded (get_or xs i record_past_end).event ++ each encoded (events_of (drop (suc i) xs) a))
  unfolding each
  chain_next i is h = met j (drop j xs) a
      (λ n. absurd (omega (arith, is, n.first)))
      (λ m s. let at : get_or (drop j xs) m record_past_end ≡ get_or xs i record_past_end = get_or-drop j xs m record_past_end ∙ ap (λ k. get_or xs k record_past_end) (sym (is ∙ s.first)) in
      let place : j + suc m ≡ suc i = omega (arith, is, s.first) in
      let rest : drop (suc m) (drop j xs) ≡ drop (suc i) xs = drop-drop (suc m) j xs ∙ ap (λ k. drop k xs) place in (
        ap (λ x. x.transaction) (sym at) ∙ s.own,
        ap (each encoded) s.events ∙ ap₂ (λ x l. encoded x.event ++ each encoded (events_of l a)) at rest,
      ))

  -- which is the j-th at the earliest
  pub chain-on : j ≤ 1024 → j ≤ first_from xs a j
  chain-on h = met j (drop j xs) a (λ n. omega (arith, n.first)) (λ m s. omega (arith, s.first))

-- a transaction's line, by its first record
abbrev pub line : ℕ → ℕ → ℕ → Line
line a t k = record { transaction = a; thread = t; first = k }

module _ (xs : List Labelled) (most : length xs ≤ 1024) (a f : ℕ) (is : f ≡ first_from xs a 0) where
  pub line_some : f < length xs → line_of xs a ≡ record { transaction = a; thread = (get_or xs f record_past_end).event.thread; first = f }
  unfolding line_of
  line_some h = met 0 xs a
      (λ n. absurd (omega (arith, is, n.first)))
      (λ m s. let place : m ≡ f = omega (arith, is, s.first) in
      ap₂ (line a) (s.thread ∙ ap (λ k. (get_or xs k record_past_end).event.thread) place) (s.place ∙ sym s.first ∙ sym is))

  pub line_none : length xs ≤ f → line_of xs a ≡ record { transaction = a; thread = 0; first = 0 }
  unfolding line_of
  line_none h = met 0 xs a
      (λ n. ap₂ (λ t k. line a t k) n.thread n.place)
      (λ m s. absurd (omega (arith, is, s.first, s.inside)))
