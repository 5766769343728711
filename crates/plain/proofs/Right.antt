-- The plain engine is right: its sources are those that document 01's edges name, so its search finds the shortest prefix with a cycle: `search-right`.
use Prim.Native.Nat.{ℕ, ◌≤◌}
use mathlib.Core.Path.{◌≡◌, sym, ◌∙◌, subst}
use mathlib.Core.Bool.{Bool, ◌&&◌, ◌||◌}
use mathlib.Core.List.{List, [], ◌∷◌, ◌++◌, append-nil}
use lib.Seq.{append_snoc}
use lib.Dec.{T, eqb, eqb→eq}
use Rattle.record.specs.declared.Event.{Event}
use Rattle.lists.specs.Lists.{some_of, keep}
use Rattle.lists.proofs.Tests.{or_cases, or_left, or_right, and_left, and_right}
use Rattle.lists.proofs.Lists.{Among, keep-among, keep-has, among-map, among-unmap, Holds, some_at, some-has}
use Rattle.trace.specs.Paths.{Edge, has_edge, PathAlong, reaches}
use Rattle.trace.proofs.Reach.{complete}
use Rattle.graph.specs.declared.Labelled.{Labelled}
use Rattle.graph.specs.Transactions.{labelled, transactions, transaction_limit}
use Rattle.graph.specs.Edges.{makes, edges}
use Rattle.graph.proofs.Ends.{pair-has}
use Rattle.graph.proofs.Steps.{before-end, edges-snoc}
use Rattle.ancestors.specs.Ancestors.{Stands, Found}
use Rattle.ancestors.specs.Search.{kept_from, searched}
use Rattle.ancestors.proofs.Right.{RightSources}
use Rattle.ancestors.proofs.Searching.{RightEngine, searched-right}
use Rattle.plain.specs.Plain.{sources, next}

-- a record's sources are right: each has an edge to its transaction, and who has one that was not there before is a source
sources-right : (xs : List Labelled) (x : Labelled) → RightSources xs x (sources xs x)
unfolding sources
sources-right xs x = record { edge = edge; path = path }
  where
    t : ℕ
    t = x.transaction

    g : List Edge
    g = edges xs

    edge : (b : ℕ) → Among b (sources xs x) → T (has_edge (edges (xs ++ (x ∷ []))) b t)
    edge b m =
        let f = among-unmap (λ y. y.transaction) b (keep (λ y. makes y x) xs) m in
        let y : Labelled = f.0 in
        let k = keep-among (λ z. makes z x) y xs f.1 in
        subst (λ c. T (has_edge (edges (xs ++ (x ∷ []))) c t)) f.2 (pair-has y x (xs ++ (x ∷ [])) (before-end xs x k.0) k.1)

    path : (b : ℕ) → T (has_edge (edges (xs ++ (x ∷ []))) b t) → T (reaches g b t || some_of (λ c. reaches g b c) (sources xs x))
    path b e =
        let p : Labelled → Bool = λ y. eqb y.transaction b && makes y x in
        or_cases (has_edge g b t) (eqb t t && some_of p xs) (subst T (edges-snoc xs x b t) e)
        (λ u. or_left (reaches g b t) (some_of (λ c. reaches g b c) (sources xs x)) (complete g (PathAlong.there u PathAlong.here)))
        (λ u. let f : Holds p xs = some_at p xs (and_right (eqb t t) (some_of p xs) u) in
        let y : Labelled = f.x in
        let is_b : y.transaction ≡ b = eqb→eq y.transaction b (and_left (eqb y.transaction b) (makes y x) f.holds) in
        let m : Among y.transaction (sources xs x) =
        among-map (λ z. z.transaction) (keep-has (λ z. makes z x) y xs f.in-l (and_right (eqb y.transaction b) (makes y x) f.holds)) in
        or_right (reaches g b t) (some_of (λ c. reaches g b c) (sources xs x))
        (some-has (λ c. reaches g b c) y.transaction (sources xs x) m (subst (λ c. T (reaches g c y.transaction)) is_b (complete g PathAlong.here))))

-- it keeps all records
kept-all : (ys xs : List Labelled) → kept_from next ys xs ≡ ys ++ xs
unfolding kept_from next
kept-all ys [] = sym (append-nil ys)
kept-all ys (x ∷ xs) = kept-all (ys ++ (x ∷ [])) xs ∙ append_snoc ys x xs

engine-right : (zs : List Labelled) → RightEngine sources next [] zs
engine-right zs xs x later e = subst (λ l. RightSources xs x (sources l x)) (sym (kept-all [] xs)) (sources-right xs x)

-- Of any operations with at most 512 transactions, the search from rows that stand for no edges finds what is to be found
pub search-right : (es : List Event) → transactions es ≤ transaction_limit → (work : List ℕ) → Stands (transactions es) work []
    → Found es work (searched sources next [] work (labelled es)).prefix (searched sources next [] work (labelled es)).rows
search-right es few work stands = searched-right sources next [] es few (engine-right (labelled es)) work stands
