-- What the tests of the definitions mean, in document 01's words.
use Prim.Native.Nat.{ℕ, zero, suc, ◌≤◌}
use native.Mathlib.Omega.{arith}
use native.Mathlib.Numerals.{one-add}
use mathlib.Core.Path.{◌≡◌, refl, sym, ap, ◌∙◌, subst}
use mathlib.Core.Bool.{false}
use mathlib.Core.List.{List, [], ◌∷◌}
use lib.ListN.{length, take}
use lib.Dec.{T}
use Rattle.record.specs.declared.Event.{Event}
use Rattle.lists.specs.Lists.{some_of, from}
use Rattle.trace.specs.Paths.{has_edge, PathAlong, Cycle, cyclic}
use Rattle.trace.proofs.Together.{Edge}
use Rattle.trace.proofs.Reach.{cycle-means, cycle-made}
use Rattle.graph.specs.declared.Labelled.{Labelled}
use Rattle.graph.specs.Transactions.{none_yet, labelled_from, labelled}
use Rattle.graph.specs.Edges.{edges}
use Rattle.graph.specs.Violation.{edges_up_to, cyclic_up_to, shortest}
use Rattle.graph.proofs.Ends.{clash, owner, has-pair, edge-has}
use Rattle.lists.proofs.Lists.{first_some, first-none, earliest}
use Rattle.graph.proofs.Numbers.{labelled-take}
use Rattle.graph.proofs.Demand3.{edge-take}

-- There is an edge from A to a different B if an operation of A stands before, and conflicts with, one of B
pub edge-means : (xs : List Labelled) (a b : ℕ) → T (has_edge (edges xs) a b) → Edge clash owner xs a b
edge-means = has-pair

pub edge-made : (xs : List Labelled) (a b : ℕ) → Edge clash owner xs a b → T (has_edge (edges xs) a b)
edge-made = edge-has

-- A cycle of a prefix stays a cycle of every longer one
path-stays : (j : ℕ) (xs : List Labelled) {a b : ℕ} → PathAlong (edges (take j xs)) a b → PathAlong (edges xs) a b
path-stays j xs PathAlong.here = PathAlong.here
path-stays j xs (PathAlong.there {a} {b} h p) = PathAlong.there (edge-made xs a b (edge-take j xs (edge-means (take j xs) a b h))) (path-stays j xs p)

pub take-take : {A : Type 0} (j k : ℕ) (l : List A) → j ≤ k → take j (take k l) ≡ take j l
take-take zero k l h = refl
take-take (suc j) zero l h = absurd (omega arith)
take-take (suc j) (suc k) [] h = refl
take-take (suc j) (suc k) (x ∷ l) h = ap (λ r. x ∷ r) (take-take j k l (omega arith))

pub cycle-stays : (es : List Event) (j k : ℕ) → j ≤ k → T (cyclic_up_to es j) → T (cyclic_up_to es k)
unfolding cyclic_up_to edges_up_to
cycle-stays es j k h t =
    let xs : List Labelled = labelled (take k es) in
    let is : labelled (take j es) ≡ take j xs = ap (λ l. labelled l) (sym (take-take j k es h)) ∙ labelled-take none_yet j (take k es) in
    let c : Cycle (edges (take j xs)) = cycle-means (edges (take j xs)) (subst (λ l. T (cyclic (edges l))) is t) in
    cycle-made (edges xs) (record {
      at = c.at;
      to = c.to;
      edge = edge-made xs c.at c.to (edge-take j xs (edge-means (take j xs) c.at c.to c.edge));
      back = path-stays j xs c.back;
    })

-- The shortest prefix with a cycle has one
pub shortest-cyclic : (es : List Event) (k : ℕ) → shortest es ≡ suc k → T (cyclic_up_to es (suc k))
unfolding shortest
shortest-cyclic es k e = first_some (cyclic_up_to es) (from 1 (length es)) k e

-- a prefix of no records has none
none-of-nothing : (es : List Event) → cyclic_up_to es 0 ≡ false
unfolding cyclic_up_to edges_up_to labelled_from edges cyclic some_of
none-of-nothing es = refl

-- .. and no shorter prefix has one
pub shortest-first : (es : List Event) (k : ℕ) → shortest es ≡ suc k → (j : ℕ) → j ≤ k → cyclic_up_to es j ≡ false
unfolding shortest
shortest-first es k e zero h = none-of-nothing es
shortest-first es k e (suc j) h = (earliest (cyclic_up_to es) 1 (length es) k e).none (suc j) (omega arith) (omega arith)

-- Where there is no shortest, no prefix has a cycle
pub shortest-none : (es : List Event) → shortest es ≡ 0 → (j : ℕ) → j ≤ length es → cyclic_up_to es j ≡ false
unfolding shortest
shortest-none es e zero h = none-of-nothing es
shortest-none es e (suc j) h = ap (cyclic_up_to es) (sym (one-add j)) ∙ first-none (cyclic_up_to es) 1 (length es) (omega arith) e j (omega arith)
