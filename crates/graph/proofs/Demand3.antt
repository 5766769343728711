-- Demand 3, of runs of operations. Without a cycle, swaps turn the run into its serial trace, which is serial, and which is the same for every run that
-- swaps reach. With one, they turn it into no serial trace at all.
use Prim.Native.Nat.{ℕ, zero, suc}
use native.Mathlib.Omega.{arith}
use native.Mathlib.Numerals.{one-add}
use mathlib.Core.Path.{◌≡◌, refl, sym, ap, ◌∙◌, subst}
use mathlib.Core.Logic.{◌↔◌}
use mathlib.Core.Bool.{false}
use mathlib.Core.List.{List, [], ◌∷◌, map}
use lib.ListN.{length, take}
use lib.Seq.{take-length}
use lib.Dec.{T}
use Rattle.record.specs.declared.Event.{Event}
use Rattle.lists.specs.Lists.{some_of, from}
use Rattle.trace.specs.Paths.{PathAlong, Cycle, cyclic}
use Rattle.graph.specs.Conflict.{conflict}
use Rattle.graph.specs.declared.Labelled.{Labelled}
use Rattle.graph.specs.Transactions.{none_yet, labelled_from, labelled, transactions}
use Rattle.graph.specs.Swaps.{Swaps, Serial}
use Rattle.graph.specs.Edges.{edges}
use Rattle.graph.specs.Serial.{thread_of, serial_order, serial_trace}
use Rattle.graph.specs.Violation.{edges_up_to, cyclic_up_to, shortest}
use Rattle.lists.proofs.Lists.{before-take, first_some, first-none}
use Rattle.trace.proofs.Swaps.{swaps-trans, swaps-back, swaps-map}
use Rattle.trace.proofs.Together.{Edge, Way, no-serial, stand-same}
use Rattle.trace.proofs.Reach.{cycle-means}
use Rattle.trace.proofs.Greedy.{Topological, greedy-topological}
use Rattle.trace.proofs.Serial.{arranged, arranged-reached, arranged-stands, one-serial-trace}
use Rattle.trace.specs.Swaps as AnySwaps
use Rattle.graph.proofs.Clash.{conflict-sym}
use Rattle.graph.proofs.Ends.{clash, owner, has-pair}
use Rattle.graph.proofs.Numbers.{labelled-take, thread_in, clash-sym, clash-own, owned}
use Rattle.graph.proofs.Labels.{ev, rename, map-rename, labelled-events, Named, named, Carried, carried}
use Rattle.graph.proofs.Serializable.{trace-is, order_is, owned-is, serial-stands, stands-serial}

-- ---- from a prefix to the whole

pub edge-take : (k : ℕ) (l : List Labelled) {a b : ℕ} → Edge clash owner (take k l) a b → Edge clash owner l a b
edge-take k l e = record { x = e.x; y = e.y; x-of = e.x-of; y_of = e.y_of; order = before-take k e.x e.y l e.order; clash = e.clash; different = e.different }

way-take : (k : ℕ) (l : List Labelled) {a b : ℕ} → PathAlong (edges (take k l)) a b → Way clash owner l a b
way-take k l PathAlong.here = Way.here
way-take k l (PathAlong.there {a} {b} h p) = Way.there (edge-take k l (has-pair (take k l) a b h)) (way-take k l p)

-- where no prefix has a cycle, the whole has none
pub whole : (es : List Event) → shortest es ≡ 0 → cyclic (edges (labelled es)) ≡ false
unfolding shortest cyclic_up_to edges_up_to labelled_from edges cyclic some_of
whole [] h = refl
whole (e ∷ es) h =
    ap (λ l. cyclic (edges (labelled l))) (sym (take-length (e ∷ es)))
    ∙ ap (λ k. cyclic (edges (labelled (take k (e ∷ es))))) (sym (one-add (length es)))
    ∙ first-none (cyclic_up_to (e ∷ es)) 1 (length (e ∷ es)) (omega arith) h (length es) (omega arith)

-- ---- without a cycle

-- a run of operations has its own labels
own : (es : List Event) → labelled es ≡ map (rename (λ n. n)) (labelled es)
own es = sym (map-rename (labelled es))

-- the labelled records, one transaction after the other
abbrev in_order : List Event → List Labelled
in_order es = arranged owner (serial_order es) (labelled es)

order-topological : (es : List Event) → cyclic (edges (labelled es)) ≡ false → Topological (transactions es) (Edge clash owner (labelled es)) [] (serial_order es)
order-topological es acyclic = greedy-topological (transactions es) (Edge clash owner (labelled es)) (thread_of (labelled es)) [] (serial_order es) (order_is es (λ n. n) (labelled es) (own es) acyclic)

reached : (es : List Event) → cyclic (edges (labelled es)) ≡ false → AnySwaps.Swaps clash (labelled es) (in_order es)
reached es acyclic = arranged-reached clash owner (transactions es) (labelled es) (owned es).small (serial_order es) (order-topological es acyclic)

-- Cooperable: swaps turn the recording into the serial trace, and it is serial
pub cooperable-right : (es : List Event) → shortest es ≡ 0 → Swaps es (serial_trace es) × Serial (serial_trace es)
cooperable-right es h =
    let acyclic : cyclic (edges (labelled es)) ≡ false = whole es h in
    let is : serial_trace es ≡ map ev (in_order es) = trace-is es (λ n. n) (labelled es) (own es) in
    let c : Named (in_order es) = named es (reached es acyclic) in (
      subst (λ l. Swaps l (serial_trace es)) (labelled-events none_yet es) (subst (λ k. Swaps (map ev (labelled es)) k) (sym is) (swaps-map ev conflict (reached es acyclic))),
      stands-serial (serial_trace es) c.ρ (in_order es) (ap (λ l. labelled l) is ∙ c.is)
          (stand-same clash owner (λ x. c.ρ x.transaction) (λ x y q. ap c.ρ q) (λ x y q. c.one-one x.transaction y.transaction q) (in_order es)
          (arranged-stands clash owner (transactions es) (labelled es) (owned es).small (serial_order es) (order-topological es acyclic))),
    )

-- ---- with a cycle

-- Violation: swaps turn the recording into no serial trace
pub violation-right : (es : List Event) (k : ℕ) → shortest es ≡ suc k → (other : List Event) → Swaps es other → Serial other → ⊥
unfolding shortest cyclic_up_to edges_up_to
violation-right es k h other s t =
    let p : Cycle (edges (take (suc k) (labelled es))) =
    cycle-means (edges (take (suc k) (labelled es)))
    (subst (λ l. T (cyclic (edges l))) (labelled-take none_yet (suc k) es) (first_some (cyclic_up_to es) (from 1 (length es)) k h)) in
    let c : Carried es other = carried s in
    no-serial clash owner (edge-take (suc k) (labelled es) (has-pair (take (suc k) (labelled es)) p.at p.to p.edge)) (way-take (suc k) (labelled es) p.back) c.swaps
    (stand-same clash (λ x. c.ρ x.transaction) owner (λ x y q. c.one-one x.transaction y.transaction q) (λ x y q. ap c.ρ q) c.zs
    (serial-stands other c.ρ c.zs c.is t))

-- ---- one serial trace for all that swaps reach

-- a run that swaps reach has no cycle either: else it would have no serial trace
still-none : (es other : List Event) → shortest es ≡ 0 → Swaps es other → shortest other ≡ 0
still-none es other h s = go (shortest other) refl
  where
    go : (n : ℕ) → shortest other ≡ n → shortest other ≡ 0
    go zero e = e
    go (suc k) e =
        let r = cooperable-right es h in
        absurd (violation-right other k e (serial_trace es) (swaps-trans conflict (swaps-back conflict conflict-sym s) r.0) r.1)

-- The serial trace is the same for every run that swaps reach
pub same-trace : (es other : List Event) → shortest es ≡ 0 → Swaps es other → serial_trace other ≡ serial_trace es
same-trace es other h s =
    let c : Carried es other = carried s in
    trace-is other c.ρ c.zs c.is
    ∙ ap (map ev) (one-serial-trace clash thread_in clash-sym clash-own (labelled es) c.zs c.swaps owner c.ρ c.one-one (transactions es) (transactions other)
    (thread_of (labelled es)) (thread_of (labelled other)) (owned es) (owned-is other c.ρ c.zs c.is) (serial_order es) (serial_order other)
    (order_is es (λ n. n) (labelled es) (own es) (whole es h))
    (order_is other c.ρ c.zs c.is (whole other (still-none es other h s))))
    ∙ sym (trace-is es (λ n. n) (labelled es) (own es))

-- Two runs without a cycle are turned into each other by swaps exactly if their serial traces are the same
pub same_runs : (es other : List Event) → shortest es ≡ 0 → shortest other ≡ 0 → Swaps es other ↔ (serial_trace es ≡ serial_trace other)
same_runs es other h g = (
  (λ s. sym (same-trace es other h s)),
  λ q. swaps-trans conflict (cooperable-right es h).0 (subst (λ t. Swaps t other) (sym q) (swaps-back conflict conflict-sym (cooperable-right other g).0)),
)

-- Judging a serial trace gives it again
pub trace-again : (es : List Event) → shortest es ≡ 0 → serial_trace (serial_trace es) ≡ serial_trace es
trace-again es h = same-trace es (serial_trace es) h (cooperable-right es h).0
