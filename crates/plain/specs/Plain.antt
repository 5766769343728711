-- The plain engine: it keeps the records so far, and compares a record with each of them.
-- This is what crates promise one another; a reader of the public promises need not read it.
use Rattle.std.specs.Prelude.{ℕ, List, [], ◌∷◌, ◌++◌, map, ltb}
use Rattle.lists.specs.Lists.{keep}
use Rattle.graph.specs.declared.Labelled.{Labelled}
use Rattle.graph.specs.Transactions.{transaction_limit}
use Rattle.graph.specs.Edges.{makes}

-- the sources of a record: the transactions of those before it that make an edge with it
unfoldable pub sources : List Labelled → Labelled → List ℕ
sources ys x = map (λ y. y.transaction) (keep (λ y. makes y x) ys)

-- one record more
unfoldable pub next : List Labelled → Labelled → List Labelled
next ys x = ys ++ (x ∷ [])

-- those of some records that are of one of 512 transactions
abbrev pub few : List Labelled → List Labelled
few ys = keep (λ y. ltb y.transaction transaction_limit) ys

-- Everything above, opened at once, for a proof by computation: `unfolding opened`
unfoldable pub opened : Unit {0}
unfolding sources next
opened = tt
