-- The second engine is right (document 02, L7).
--   right         its paths are those of document 01's edges, of every possible history and every prefix of it
--   search-right  its search finds the shortest prefix with a cycle, and leaves the rows by which the order or the cycle is named
use Prim.Native.Nat.{ℕ, ◌≤◌}
use mathlib.Core.Path.{◌≡◌, sym, ap, ◌∙◌, subst}
use mathlib.Core.List.{List, [], ◌∷◌, ◌++◌}
use lib.Dec.{T}
use lib.ListN.{take}
use lib.Seq.{append_snoc}
use Rattle.record.specs.declared.Event.{Event}
use Rattle.record.specs.Record.{in_range}
use Rattle.replay.specs.Machine.{fresh, possible}
use Rattle.lists.specs.Lists.{all_of}
use Rattle.lists.proofs.Lists.{among-take, before-take, map-append}
use Rattle.graph.specs.declared.Labelled.{Labelled}
use Rattle.graph.specs.Transactions.{none_yet, labelled, transactions, transaction_limit}
use Rattle.graph.specs.Violation.{edges_up_to}
use Rattle.graph.proofs.Labels.{labelled-events}
use Rattle.ancestors.specs.Ancestors.{Stands, Found}
use Rattle.ancestors.proofs.Searching.{RightEngine, searched-right}
use Rattle.second.specs.Cells.{idle}
use Rattle.second.specs.Edges.{sources_of, stored_of}
use Rattle.second.specs.Meaning.{Demanded}
use Rattle.second.specs.Taken.{second_searched}
use Rattle.second.proofs.Orderly.{Orderly, orderly-first}
use Rattle.second.proofs.Possible.{possible-orderly}
use Rattle.second.proofs.Agree.{events_of, edges-agree, paths-agree, cycles-agree}
use Rattle.second.proofs.Sources.{right-sources}

-- the first k of orderly operations
orderly-take : (k : ℕ) (es : List Event) → Orderly es → Orderly (take k es)
orderly-take k es ok = record {
  ranges = λ x m. ok.ranges x (among-take k x es m);
  pairs = λ x y o. ok.pairs x y (before-take k x y es o);
}

-- What document 02 demands
pub right : Demanded
unfolding edges_up_to
right es possible ranged k =
    let xs : List Labelled = labelled (take k es) in
    let ok : Orderly (events_of xs) = subst Orderly (sym (labelled-events none_yet (take k es))) (orderly-take k es (possible-orderly es possible ranged)) in
    record { fewer = edges-agree xs ok; paths = paths-agree xs ok; cycles = cycles-agree xs ok }

-- its sources are right at every record
right-engine : (es : List Event) → Orderly es → RightEngine sources_of stored_of idle (labelled es)
right-engine es ok xs x later is =
    let whole : es ≡ events_of (xs ++ (x ∷ [])) ++ events_of later =
    sym (labelled-events none_yet es) ∙ ap events_of (sym is ∙ sym (append_snoc xs x later)) ∙ map-append (λ y. y.event) (xs ++ (x ∷ [])) later in
    right-sources xs x (orderly-first (events_of (xs ++ (x ∷ []))) (events_of later) (subst Orderly whole ok))

-- Its search over the records of orderly operations, with at most 512 transactions, from rows that stand for no edges
pub search-right : (es : List Event) → Orderly es → transactions es ≤ transaction_limit
    → (work : List ℕ) → Stands (transactions es) work [] → Found es work (second_searched work (labelled es)).prefix (second_searched work (labelled es)).rows
search-right es ok few work stands = searched-right sources_of stored_of idle es few (right-engine es ok) work stands

-- so over those of every possible history whose fields are in range
pub possible-search-right : (es : List Event) → T (possible fresh es) → T (all_of in_range es) → transactions es ≤ transaction_limit
    → (work : List ℕ) → Stands (transactions es) work [] → Found es work (second_searched work (labelled es)).prefix (second_searched work (labelled es)).rows
possible-search-right es p r = search-right es (possible-orderly es p r)
