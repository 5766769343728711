-- The serial trace is the one that the greedy order gives, whatever names its transactions have: zs is the run of operations with other labels, and ρ takes
-- those to the run's own.
use Prim.Native.Nat.{ℕ}
use mathlib.Core.Path.{◌≡◌, refl, sym, ap, ap₂, ◌∙◌, subst}
use mathlib.Core.Bool.{true, false}
use mathlib.Core.List.{List, [], ◌∷◌, ◌++◌, map}
use lib.Dec.{eqb}
use Rattle.record.specs.declared.Event.{Event}
use Rattle.lists.specs.Lists.{keep, each}
use Rattle.trace.specs.Swaps.{Together}
use Rattle.trace.specs.Paths.{cyclic}
use Rattle.graph.specs.declared.Labelled.{Labelled}
use Rattle.graph.specs.Transactions.{labelled, transactions}
use Rattle.graph.specs.Swaps.{Serial}
use Rattle.graph.specs.Edges.{edges}
use Rattle.graph.specs.Serial.{events_of, thread_of, serial_order, serial_trace}
use Rattle.lists.proofs.Tests.{by}
use Rattle.lists.proofs.Lists.{Among, keep-true, keep-false, map-append, map-map, among-map, among-unmap}
use Rattle.trace.proofs.Together.{Edge, Stand, stand-together, together-stand, edge-map, edge-unmap}
use Rattle.trace.proofs.Greedy.{Greedy, greedy-same, Direct, order-greedy}
use Rattle.trace.proofs.Serial.{arranged, Owned}
use Rattle.graph.proofs.Ends.{clash, owner, has-pair, edge-has}
use Rattle.graph.proofs.Numbers.{bounded-edges, thread_in, clash-sym, clash-own, owned}
use Rattle.graph.proofs.Labels.{ev, rename}

-- the events of a transaction
events-of : (ρ : ℕ → ℕ) (zs : List Labelled) (a : ℕ) → events_of (map (rename ρ) zs) a ≡ map ev (keep (λ x. eqb (ρ x.transaction) a) zs)
unfolding events_of keep
events-of ρ [] a = refl
events-of ρ (x ∷ zs) a = by (eqb (ρ x.transaction) a)
    (λ e. yes e ∙ ap (λ r. x.event ∷ r) (events-of ρ zs a) ∙ sym (ap (map ev) (keep-true (λ x. eqb (ρ x.transaction) a) x zs e)))
    (λ e. no_more e ∙ events-of ρ zs a ∙ sym (ap (map ev) (keep-false (λ x. eqb (ρ x.transaction) a) x zs e)))
  where
    yes : eqb (ρ x.transaction) a ≡ true → events_of (map (rename ρ) (x ∷ zs)) a ≡ x.event ∷ events_of (map (rename ρ) zs) a
    yes e = rw (e, events_of)

    no_more : eqb (ρ x.transaction) a ≡ false → events_of (map (rename ρ) (x ∷ zs)) a ≡ events_of (map (rename ρ) zs) a
    no_more e = rw (e, events_of)

events-of-all : (ρ : ℕ → ℕ) (zs : List Labelled) (order : List ℕ) → each (events_of (map (rename ρ) zs)) order ≡ map ev (arranged (λ x. ρ x.transaction) order zs)
unfolding each
events-of-all ρ zs [] = refl
events-of-all ρ zs (a ∷ order) =
    ap₂ (λ u v. u ++ v) (events-of ρ zs a) (events-of-all ρ zs order)
    ∙ sym (map-append ev (keep (λ x. eqb (ρ x.transaction) a) zs) (arranged (λ x. ρ x.transaction) order zs))

module _ (es : List Event) (ρ : ℕ → ℕ) (zs : List Labelled) (is : labelled es ≡ map (rename ρ) zs) where
  abbrev pub name : Labelled → ℕ
  name x = ρ x.transaction

  -- the serial trace is what the serial order gives
  pub trace-is : serial_trace es ≡ map ev (arranged name (serial_order es) zs)
  unfolding serial_trace
  trace-is = ap (λ l. each (events_of l) (serial_order es)) is ∙ events-of-all ρ zs (serial_order es)

  -- the serial order is greedy, where there is no cycle
  pub order_is : cyclic (edges (labelled es)) ≡ false → Greedy (transactions es) (Edge clash name zs) (thread_of (labelled es)) [] (serial_order es)
  unfolding serial_order
  order_is acyclic =
      greedy-same (transactions es) (Direct (edges (labelled es))) (Edge clash name zs)
      (λ a b h. edge-unmap (rename ρ) clash owner zs (subst (λ l. Edge clash owner l a b) is (has-pair (labelled es) a b h)))
      (λ a b e. edge-has (labelled es) a b (subst (λ l. Edge clash owner l a b) (sym is) (edge-map (rename ρ) clash owner zs e)))
      (thread_of (labelled es)) [] (serial_order es)
      (order-greedy (transactions es) (thread_of (labelled es)) (edges (labelled es)) (bounded-edges (transactions es) (labelled es) (owned es).small) acyclic)

  -- its transactions have operations, each of one thread
  pub owned-is : Owned clash thread_in clash-sym clash-own name (transactions es) (thread_of (labelled es)) zs
  owned-is = record {
    small = λ x m. (owned es).small (rename ρ x) (subst (λ l. Among (rename ρ x) l) (sym is) (among-map (rename ρ) m));
    some = λ a h. let y = (owned es).some a h in
        let x = among-unmap (rename ρ) y.0 zs (subst (λ l. Among y.0 l) is y.1) in
        (x.0, x.1, ap owner x.2 ∙ y.2);
    one-thread = λ x m. (owned es).one-thread (rename ρ x) (subst (λ l. Among (rename ρ x) l) (sym is) (among-map (rename ρ) m));
  }

  -- it is serial exactly if its transactions' operations stand together
  numbers-are : map (λ x. x.transaction) (labelled es) ≡ map name zs
  numbers-are = ap (map (λ x. x.transaction)) is ∙ map-map (λ x. x.transaction) (rename ρ) zs

  pub serial-stands : Serial es → Stand clash name zs
  serial-stands s = together-stand clash name zs (subst Together numbers-are s)

  pub stands-serial : Stand clash name zs → Serial es
  stands-serial s = subst Together (sym numbers-are) (stand-together clash name zs s)
