-- The second engine's sources are right: an edge from each, and who has an edge to the record's transaction by document 01 reaches it, or one of them, without
-- the record. The records are labelled in any way; their operations are orderly.
use Prim.Native.Nat.{ℕ}
use mathlib.Core.Path.{◌≡◌, sym, ap₂, ◌∙◌, subst}
use mathlib.Core.Bool.{true, ◌&&◌, ◌||◌}
use mathlib.Core.List.{List, [], ◌∷◌, ◌++◌}
use lib.Dec.{T, eqb, eqb_refl}
use Rattle.lists.specs.Lists.{some_of}
use Rattle.lists.proofs.Tests.{or_right, and_both}
use Rattle.lists.proofs.Lists.{Among, some_same, some-has, map-append}
use Rattle.trace.specs.Paths.{has_edge, PathAlong, reaches}
use Rattle.trace.proofs.Reach.{complete}
use Rattle.trace.proofs.Closing.{reaches-goal}
use Rattle.graph.specs.declared.Labelled.{Labelled}
use Rattle.graph.specs.Edges.{edges}
use Rattle.ancestors.specs.Search.{kept_from}
use Rattle.ancestors.proofs.Right.{RightSources}
use Rattle.second.specs.declared.Cells.{Cells}
use Rattle.second.specs.Cells.{idle}
use Rattle.second.specs.Edges.{sources_of, stored_of, second_edges}
use Rattle.second.proofs.Orderly.{Orderly, orderly-first}
use Rattle.second.proofs.Agree.{events_of, edges-agree, paths-agree, second-snoc}

-- the cells after some records
abbrev pub cells_after : List Labelled → Cells
cells_after xs = kept_from stored_of idle xs

module _ (xs : List Labelled) (x : Labelled) (ok : Orderly (events_of (xs ++ (x ∷ [])))) where
  abbrev t : ℕ
  t = x.transaction

  abbrev all : List Labelled
  all = xs ++ (x ∷ [])

  abbrev bs : List ℕ
  bs = sources_of (cells_after xs) x

  before : Orderly (events_of xs)
  before = orderly-first (events_of xs) (x.event ∷ []) (subst (λ l. Orderly l) (map-append (λ y. y.event) xs (x ∷ [])) ok)

  -- an edge of the engine's, and so of 01's
  source-edge : (b : ℕ) → Among b bs → T (has_edge (edges all) b t)
  source-edge b m = edges-agree all ok b t (subst T (sym (second-snoc idle xs x b t))
      (or_right (has_edge (second_edges xs) b t) (eqb t t && some_of (λ c. eqb c b && true) bs)
      (and_both (eqb t t) (some_of (λ c. eqb c b && true) bs) (eqb_refl t) (some-has (λ c. eqb c b && true) b bs m (and_both (eqb b b) true (eqb_refl b) tt)))))

  -- who reaches t with the record
  goal : (a : ℕ) → reaches (edges all) a t ≡ (reaches (edges xs) a t || some_of (λ b. reaches (edges xs) a b) bs)
  goal a =
      sym (paths-agree all ok a t)
      ∙ reaches-goal (second_edges xs) (second_edges all) t bs (λ b. b) (λ b. true) (second-snoc idle xs x) a
      ∙ ap₂ (λ p q. p || q) (paths-agree xs before a t) (some_same (λ b. reaches (second_edges xs) a b) (λ b. reaches (edges xs) a b) bs (λ b m. paths-agree xs before a b))

  pub right-sources : RightSources xs x (sources_of (cells_after xs) x)
  right-sources = record {
    edge = source-edge;
    path = λ b e. subst T (goal b) (complete (edges all) (PathAlong.there e PathAlong.here));
  }
