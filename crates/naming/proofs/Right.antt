-- What the rows name is what 01 names, where they are as an engine's search leaves them: the law that a caller of `name` cites.
use Prim.Native.Nat.{ℕ, zero, suc, ◌^◌, ◌<◌, ◌≤◌}
use native.Mathlib.Omega.{arith}
use mathlib.Core.Path.{◌≡◌, refl, sym, ap, ◌∙◌, subst}
use mathlib.Core.List.{List}
use mathlib.Core.Logic.{◌≢◌}
use lib.Dec.{T}
use lib.ListN.{length, get_or, take}
use Rattle.record.specs.declared.Event.{Event}
use Rattle.lists.proofs.Tests.{T-is}
use Rattle.lists.proofs.Lists.{Among, at-among, among-take, earliest}
use Rattle.trace.specs.Paths.{Edge, has_edge, reaches}
use Rattle.trace.proofs.Reach.{edge-below}
use Rattle.graph.specs.declared.Labelled.{Labelled}
use Rattle.graph.specs.Transactions.{none_yet, labelled, transactions, transaction_limit, work_size}
use Rattle.rows.specs.Bits.{has}
use Rattle.graph.specs.Edges.{edges}
use Rattle.graph.specs.Serial.{thread_of, serial_order}
use Rattle.graph.specs.Violation.{edges_up_to, cyclic_up_to, shortest, transaction_at, walk, cycle_of}
use Rattle.graph.specs.Named.{named}
use Rattle.graph.proofs.Numbers.{sane-none, labels-lt, labelled-take, bounded-edges, thread-edge}
use Rattle.graph.proofs.Round.{blank, number_at, labelled-length}
use Rattle.graph.proofs.Ends.{has-pair}
use Rattle.graph.proofs.Demand3.{whole}
use Rattle.ancestors.specs.Ancestors.{Found}
use Rattle.naming.specs.Naming.{above, order_by, cycle_by, named_by}
use Rattle.naming.proofs.Fits.{cycle-goes, named-order, named-cycle}
use Rattle.naming.proofs.Picked.{above-threads}
use Rattle.naming.proofs.Followed.{own-leads, walk-right}
use Rattle.naming.proofs.Taken.{Given, order_is}

module _ (es : List Event) (few : transactions es ≤ transaction_limit) (before : List ℕ) (long : work_size ≤ length before)
    (prefix : ℕ) (work : List ℕ) (found : Found es before prefix work) (small : (i : ℕ) → get_or work i 0 < 2 ^ 64) where
  long-enough : work_size ≤ length work
  long-enough = omega (arith, long, found.size)

  order-right : prefix ≡ 0 → order_by (thread_of (labelled es)) (transactions es) work ≡ serial_order es
  unfolding order_by serial_order transactions
  order-right none =
      let n : ℕ = transactions es in
      let thread : ℕ → ℕ = thread_of (labelled es) in
      let given : Given n (above thread n) thread (edges (labelled es)) work = record {
        few = few;
        threads = above-threads thread n;
        ordered = λ a b lt hi same. thread-edge es a b lt hi same;
        bounded = bounded-edges n (labelled es) (labels-lt none_yet es sane-none);
        acyclic = whole es (sym found.first ∙ none);
        stands = found.stands none;
        small = small;
      } in
      order_is n (above thread n) thread (edges (labelled es)) work given

  -- the last record of the prefix is one of the records
  last-inside : (k : ℕ) → prefix ≡ suc k → k < length (labelled es)
  unfolding shortest
  last-inside k is = omega (arith, (earliest (cyclic_up_to es) 1 (length es) k (sym found.first ∙ is)).inside, labelled-length none_yet es)

  cycle-right : (k : ℕ) → prefix ≡ suc k → cycle_by (labelled es) (transactions es) k work ≡ cycle_of es (suc k)
  unfolding cycle_of edges_up_to transaction_at transactions
  cycle-right k is =
      let n : ℕ = transactions es in
      let xs : List Labelled = labelled es in
      let g : List Edge = edges (take (suc k) xs) in
      let t : ℕ = transaction_at es k in
      let same : edges_up_to es (suc k) ≡ g = ap edges (labelled-take none_yet (suc k) es) in
      let below-n : (x : Labelled) → Among x xs → x.transaction < n = labels-lt none_yet es sane-none in
      let in-t : t < n = subst (λ m. m < n) (sym (number_at xs k)) (below-n (get_or xs k blank) (at-among xs k blank (last-inside k is))) in
      let row : (b : ℕ) → b < 512 → has work t b ≡ reaches g b t = λ b in_b. found.row k is b in_b ∙ ap (λ h. reaches h b t) same in
      let bounded : (a b : ℕ) → T (has_edge g a b) → b < n = λ a b e. (edge-below n g (bounded-edges n (take (suc k) xs) (λ x m. below-n x (among-take (suc k) x xs m))) a b e).1 in
      let apart : (a b : ℕ) → T (has_edge g a b) → a ≢ b = λ a b e. (has-pair (take (suc k) xs) a b e).different in
      cycle-goes xs n k work in-t (T-is (has work t t) (own-leads n g work t few in-t row bounded apart))
      ∙ walk-right n g work t few in-t row bounded apart n t
      ∙ ap (λ h. walk n h t n t) (sym same)

  -- Named by the rows: all transactions in serial order where no prefix has a cycle, or else the cycle of the shortest that has one
  pub named-right : named_by (labelled es) (transactions es) prefix work ≡ named es (shortest es)
  unfolding named
  named-right = go prefix refl ∙ ap (named es) found.first
    where
      go : (p : ℕ) → prefix ≡ p → named_by (labelled es) (transactions es) p work ≡ named es p
      go zero is = named-order (labelled es) (transactions es) work few long-enough ∙ order-right is
      go (suc k) is = named-cycle (labelled es) (transactions es) work few long-enough k (last-inside k is) ∙ cycle-right k is
