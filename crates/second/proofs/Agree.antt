-- The engine's edges and those of document 01 have the same paths, and so a cycle in the same places. And what one record more adds to them.
use Prim.Native.Nat.{ℕ}
use mathlib.Core.Path.{◌≡◌, refl, sym, ap, ◌∙◌, subst}
use mathlib.Core.Logic.{◌≢◌}
use mathlib.Core.Bool.{Bool, true, ◌&&◌, ◌||◌, or_assoc, or_comm}
use mathlib.Core.List.{List, [], ◌∷◌, ◌++◌, map}
use lib.Dec.{T, eqb, eqb→eq, eqb_refl}
use Rattle.record.specs.declared.Event.{Event}
use Rattle.lists.specs.Lists.{some_of}
use Rattle.trace.specs.Paths.{Edge, has_edge, PathAlong, Cycle, reaches, cyclic}
use Rattle.lists.proofs.Tests.{and_left, and_right, and_both, same_test}
use Rattle.lists.proofs.Lists.{some-has, some_at, Holds, among-map, before-map}
use Rattle.trace.proofs.Reach.{Over, sound, complete, path-joined, cycle-means, cycle-made}
use Rattle.graph.specs.declared.Labelled.{Labelled}
use Rattle.graph.specs.Edges.{edges}
use Rattle.graph.proofs.Ends.{has-pair}
use Rattle.ancestors.specs.Search.{kept_from}
use Rattle.second.specs.declared.Cells.{Cells}
use Rattle.second.specs.Edges.{into, sources_of, stored_of, second_from, second_edges}
use Rattle.second.proofs.Orderly.{Orderly}
use Rattle.second.proofs.Meet.{eq-T}
use Rattle.second.proofs.Cover.{into-has, has-into, has-append, second-cons, second-edge, edge-second}

-- ---- a graph h, and one g with fewer edges and the same paths

module _ (g h : List Edge) (fewer : (a b : ℕ) → T (has_edge g a b) → T (has_edge h a b)) (ways : (a b : ℕ) → T (has_edge h a b) → PathAlong g a b)
    (apart : (a b : ℕ) → T (has_edge h a b) → a ≢ b) where
  more-path : {a b : ℕ} → PathAlong g a b → PathAlong h a b
  more-path PathAlong.here = PathAlong.here
  more-path (PathAlong.there {a} {b} e p) = PathAlong.there (fewer a b e) (more-path p)

  fewer-path : {a b : ℕ} → PathAlong h a b → PathAlong g a b
  fewer-path PathAlong.here = PathAlong.here
  fewer-path (PathAlong.there {a} {b} e p) = path-joined (ways a b e) (fewer-path p)

  pub same-reaches : (a b : ℕ) → reaches g a b ≡ reaches h a b
  same-reaches a b = same_test (reaches g a b) (reaches h a b) (λ t. complete h (more-path (sound g a b t))) (λ t. complete g (fewer-path (sound h a b t)))

  first_edge : {a b : ℕ} → a ≢ b → PathAlong g a b → Over g a b
  first_edge d PathAlong.here = absurd (d refl)
  first_edge d (PathAlong.there {b} e p) = record { mid = b; edge = e; path = p }

  pub same-cyclic : cyclic g ≡ cyclic h
  same-cyclic = same_test (cyclic g) (cyclic h)
      (λ t. let c : Cycle g = cycle-means g t in
      cycle-made h (record { at = c.at; to = c.to; edge = fewer c.at c.to c.edge; back = more-path c.back }))
      (λ t. let c : Cycle h = cycle-means h t in
      let o : Over g c.at c.to = first_edge (apart c.at c.to c.edge) (ways c.at c.to c.edge) in
      cycle-made g (record { at = c.at; to = o.mid; edge = o.edge; back = path-joined o.path (fewer-path c.back) }))

-- ---- the edges of labelled events

abbrev pub events_of : List Labelled → List Event
events_of xs = map (λ y. y.event) xs

module _ (xs : List Labelled) (ok : Orderly (events_of xs)) where
  fewer : (a b : ℕ) → T (has_edge (second_edges xs) a b) → T (has_edge (edges xs) a b)
  fewer = second-edge xs (λ x m. ok.ranges x.event (among-map (λ y. y.event) m))

  ways : (a b : ℕ) → T (has_edge (edges xs) a b) → PathAlong (second_edges xs) a b
  ways = edge-second xs (λ x m. ok.ranges x.event (among-map (λ y. y.event) m)) (λ x y o. ok.pairs x.event y.event (before-map (λ y. y.event) o))

  apart : (a b : ℕ) → T (has_edge (edges xs) a b) → a ≢ b
  apart a b t = (has-pair xs a b t).different

  -- Each edge of the engine is an edge of 01
  pub edges-agree : (a b : ℕ) → T (has_edge (second_edges xs) a b) → T (has_edge (edges xs) a b)
  edges-agree = fewer

  -- There is a path by the engine's edges exactly if there is one by 01's
  pub paths-agree : (a b : ℕ) → reaches (second_edges xs) a b ≡ reaches (edges xs) a b
  paths-agree = same-reaches (second_edges xs) (edges xs) fewer ways apart

  -- There is a cycle of the engine's edges exactly if there is one of 01's
  pub cycles-agree : cyclic (second_edges xs) ≡ cyclic (edges xs)
  cycles-agree = same-cyclic (second_edges xs) (edges xs) fewer ways apart

-- ---- one record more

into-is : (t : ℕ) (bs : List ℕ) (a b : ℕ) → has_edge (into t bs) a b ≡ (eqb t b && some_of (λ c. eqb c a && true) bs)
into-is t bs a b = same_test (has_edge (into t bs) a b) (eqb t b && some_of (λ c. eqb c a && true) bs)
    (λ u. let p = has-into t bs a b u in
    and_both (eqb t b) (some_of (λ c. eqb c a && true) bs) (eq-T (sym p.1))
    (some-has (λ c. eqb c a && true) a bs p.0 (and_both (eqb a a) true (eqb_refl a) tt)))
    (λ u. let f : Holds (λ c. eqb c a && true) bs = some_at (λ c. eqb c a && true) bs (and_right (eqb t b) (some_of (λ c. eqb c a && true) bs) u) in
    subst (λ z. T (has_edge (into t bs) z b)) (eqb→eq f.x a (and_left (eqb f.x a) true f.holds))
    (subst (λ z. T (has_edge (into t bs) f.x z)) (eqb→eq t b (and_left (eqb t b) (some_of (λ c. eqb c a && true) bs) u)) (into-has t bs f.x f.in-l)))

snoc-from : (s : Cells) (xs : List Labelled) (x : Labelled) (a b : ℕ)
    → has_edge (second_from s (xs ++ (x ∷ []))) a b ≡ (has_edge (second_from s xs) a b || has_edge (into x.transaction (sources_of (kept_from stored_of s xs) x)) a b)
unfolding second_from kept_from
snoc-from s [] x a b = has-append (into x.transaction (sources_of s x)) [] a b ∙ or_comm (has_edge (into x.transaction (sources_of s x)) a b) (has_edge [] a b)
snoc-from s (y ∷ xs) x a b =
    let own : Bool = has_edge (into y.transaction (sources_of s y)) a b in
    let last : Bool = has_edge (into x.transaction (sources_of (kept_from stored_of (stored_of s y) xs) x)) a b in
    second-cons s y (xs ++ (x ∷ [])) a b
    ∙ ap (λ c. own || c) (snoc-from (stored_of s y) xs x a b)
    ∙ sym (or_assoc own (has_edge (second_from (stored_of s y) xs) a b) last)
    ∙ ap (λ c. c || last) (sym (second-cons s y xs a b))

-- the engine's edges with one record more: one to its transaction from each of its sources
pub second-snoc : (s : Cells) (xs : List Labelled) (x : Labelled) (a b : ℕ)
    → has_edge (second_from s (xs ++ (x ∷ []))) a b
    ≡ (has_edge (second_from s xs) a b || (eqb x.transaction b && some_of (λ c. eqb c a && true) (sources_of (kept_from stored_of s xs) x)))
second-snoc s xs x a b = snoc-from s xs x a b ∙ ap (λ c. has_edge (second_from s xs) a b || c) (into-is x.transaction (sources_of (kept_from stored_of s xs) x) a b)
