-- The walk that proposes yields (document 02, L6, after SILVER in source document 000): where a record would be a violation, a yield of its thread is put
-- right before it, and the walk goes on.
use Rattle.std.specs.Prelude.{ℕ, zero, suc, Bool, true, false, cond, List, [], ◌∷◌, ◌++◌, map, length, leb}
use Rattle.record.specs.declared.Event.{Event}
use Rattle.record.specs.declared.Op.TheVariants.{Yield}
use Rattle.record.specs.Faults.{Refusal, Check, check, first_fault}
use Rattle.trace.specs.Paths.{cyclic}
use Rattle.graph.specs.Transactions.{labelled, transactions, transaction_limit}
use Rattle.graph.specs.Edges.{edges}
use Rattle.looking.specs.Refusals.{no_refusal}

-- A record of the recording that is built: its event, and whether it is an added yield
pub record Placed : Type 0 where
  pub event : Event
  pub added : Bool

-- a record of the input, and a yield of its thread that is added
abbrev pub given : Event → Placed
given e = record { event = e; added = false }

abbrev pub yield_of : ℕ → Event
yield_of t = record { thread = t; op = Yield }

abbrev pub yield_for : Event → Placed
yield_for e = record { event = yield_of e.thread; added = true }

abbrev pub events_in : List Placed → List Event
events_in ps = map (λ p. p.event) ps

-- whether a record would be a violation: with it, the recording built so far has a cycle of edges
unfoldable pub needs_yield : List Event → Event → Bool
needs_yield built e = cyclic (edges (labelled (built ++ (e ∷ []))))

-- what is put after the recording built so far: the record, and right before it a yield of its thread where it needs one
unfoldable pub placed : List Event → Event → List Placed
placed built e = cond (needs_yield built e) (yield_for e ∷ given e ∷ []) (given e ∷ [])

-- the recording built so far, with that
unfoldable pub grown : List Event → Event → List Event
grown built e = built ++ events_in (placed built e)

-- what is put after the recording built so far for all records still to come
unfoldable pub walked : List Event → List Event → List Placed
walked built [] = []
walked built (e ∷ es) = placed built e ++ walked (grown built e) es

-- The finished recording
unfoldable pub finished : List Event → List Placed
finished es = walked [] es

-- so many records at most
abbrev pub record_limit : ℕ
record_limit = 1024

-- 15: the recording built so far, with the record and the yield it needs, would reach 1,025 records.  13: it would begin a 513th transaction
unfoldable pub room_checks : List Event → Event → List Check
room_checks built e =
    check 15 0 (leb (length (grown built e)) record_limit)
    ∷ check 13 0 (leb (transactions (grown built e)) transaction_limit)
    ∷ []

-- the first input record where there is no room decides. k is the number of the first that is still to come
unfoldable pub stop : List Event → ℕ → List Event → Refusal
stop built k [] = no_refusal
stop built k (e ∷ es) =
    elim (first_fault (room_checks built e)) [ zero ↦ stop (grown built e) (suc k) es | suc n ↦ record { number = suc n; place = k } ]

-- Everything above, opened at once, for a proof by computation: `unfolding opened`
unfoldable pub opened : Unit {0}
unfolding needs_yield placed grown walked finished room_checks stop
opened = tt
