-- The cycle that is reported follows the rule: from T along edges, each time to the lowest-numbered transaction that leads back, and to T. The walk
-- never runs out, and never takes its default.
use Prim.Native.Nat.{ℕ, zero, suc, ◌+◌, ◌<◌, ◌≤◌}
use native.Mathlib.Omega.{arith}
use mathlib.Core.Path.{◌≡◌, refl, sym, ap, ◌∙◌, subst}
use mathlib.Core.Logic.{◌≢◌}
use mathlib.Core.Bool.{Bool, true, false, not, ◌&&◌}
use mathlib.Core.List.{List, [], ◌∷◌, ◌++◌, map}
use lib.ListN.{length, get_or, take, get_or-map}
use lib.Seq.{take-suc}
use lib.Dec.{T, T_not, not_T, eqb, eqb→eq, eqb_refl}
use Rattle.record.specs.declared.Event.{Event}
use Rattle.record.specs.declared.Op.TheVariants.{Yield}
use Rattle.lists.specs.Lists.{some_of, keep, first_of, from, below}
use Rattle.trace.specs.Paths.{Edge, has_edge, PathAlong, reaches, cyclic}
use Rattle.graph.specs.declared.Labelled.{Labelled}
use Rattle.graph.specs.declared.Tally.{Tally}
use Rattle.graph.specs.Transactions.{none_yet, tallied, labelled_from, labelled, transactions}
use Rattle.graph.specs.Edges.{makes, edges}
use Rattle.graph.specs.Rule.{Closes, Leads, Follows, Reported}
use Rattle.graph.specs.Violation.{edges_up_to, cyclic_up_to, shortest, transaction_at, closes, onward, walk, cycle_of}
use Rattle.lists.proofs.Tests.{by, T_of, or_cases, and_left, and_right, and_both}
use Rattle.lists.proofs.Lists.{Among, first-of, second-of, length_from, below-has, keep-has, count-all, some-has, Holds, some_at, among-length, among-take, first_passes, first-least, first_some, Earliest, earliest}
use Rattle.trace.proofs.Reach.{Bounded, path-joined, Over, sound, complete, edge-back}
use Rattle.trace.proofs.Order.{ancestors, fewer}
use Rattle.graph.proofs.Ends.{has-pair}
use Rattle.graph.proofs.Numbers.{sane-none, labels-lt, bounded-edges, labelled-take}
use Rattle.graph.proofs.Steps.{among_first, among-end, edges-snoc}

over-snoc : {g : List Edge} {a b c : ℕ} → PathAlong g a b → T (has_edge g b c) → Over g a c
over-snoc {c} PathAlong.here e = record { mid = c; edge = e; path = PathAlong.here }
over-snoc (PathAlong.there {b} h p) e = record { mid = b; edge = h; path = path-joined p (PathAlong.there e PathAlong.here) }

over-path : {g : List Edge} {a b c : ℕ} → Over g a b → PathAlong g b c → Over g a c
over-path o p = record { mid = o.mid; edge = o.edge; path = path-joined o.path p }

over-strict : {g : List Edge} {a b : ℕ} → a ≢ b → PathAlong g a b → Over g a b
over-strict d PathAlong.here = absurd (d refl)
over-strict d (PathAlong.there {b} e p) = record { mid = b; edge = e; path = p }

module _ (n : ℕ) (xs : List Labelled) (x : Labelled) (small : (y : Labelled) → Among y (xs ++ (x ∷ [])) → y.transaction < n) (acyclic : cyclic (edges xs) ≡ false) where
  abbrev t : ℕ
  t = x.transaction

  abbrev h : List Edge
  h = edges (xs ++ (x ∷ []))

  bounded : Bounded n (edges xs)
  bounded = bounded-edges n xs (λ y m. small y (among_first xs (x ∷ []) m))

  ends : (a b : ℕ) → T (has_edge h a b) → (a < n) × (b < n) × (a ≢ b)
  ends a b e = let p = has-pair (xs ++ (x ∷ [])) a b e in
      (subst (λ k. k < n) p.x-of (small p.x (first-of p.order)), subst (λ k. k < n) p.y_of (small p.y (second-of p.order)), p.different)

  -- an edge that does not go to t was there before
  old-edge : (a b : ℕ) → T (has_edge h a b) → b ≢ t → T (has_edge (edges xs) a b)
  old-edge a b e d = or_cases (has_edge (edges xs) a b) (eqb t b && some_of (λ y. eqb y.transaction a && makes y x) xs) (subst T (edges-snoc xs x a b) e)
      (λ u. u)
      (λ u. absurd (d (sym (eqb→eq t b (and_left (eqb t b) (some_of (λ y. eqb y.transaction a && makes y x) xs) u)))))

  through : {C : Type 0} {a b : ℕ} → PathAlong h a b → (PathAlong (edges xs) a b → C) → (PathAlong h a t → PathAlong h t b → C) → C
  through PathAlong.here f g = f PathAlong.here
  through (PathAlong.there {a} {b} {c} e p) f g = by (eqb b t)
      (λ q. let bt : b ≡ t = eqb→eq b t (T_of q) in g (PathAlong.there e (subst (λ z. PathAlong h b z) bt PathAlong.here)) (subst (λ z. PathAlong h z c) bt p))
      (λ q. through p (λ r. f (PathAlong.there (old-edge a b e (λ bt. subst T q (subst (λ z. T (eqb b z)) bt (eqb_refl b)))) r)) (λ r s. g (PathAlong.there e r) s))

  -- a cycle of the longer prefix goes through t
  loop-at : T (cyclic h) → Over h t t
  unfolding cyclic has_edge
  loop-at u =
      let f : Holds (λ e. reaches h e.goal e.origin) h = some_at (λ e. reaches h e.goal e.origin) h u in
      let a : ℕ = f.x.origin in
      let b : ℕ = f.x.goal in
      let e : T (has_edge h a b) = some-has (λ c. eqb c.origin a && eqb c.goal b) f.x h f.in-l (and_both (eqb a a) (eqb b b) (eqb_refl a) (eqb_refl b)) in
      let p : PathAlong h b a = sound h b a f.holds in
      by (eqb b t)
      (λ q. let bt : b ≡ t = eqb→eq b t (T_of q) in over-snoc (subst (λ z. PathAlong h z a) bt p) (subst (λ z. T (has_edge h a z)) bt e))
      (λ q. through p
      (λ r. absurd (subst T acyclic (edge-back (edges xs) a b (old-edge a b e (λ bt. subst T q (subst (λ z. T (eqb b z)) bt (eqb_refl b)))) (complete (edges xs) r))))
      (λ r s. over-path (over-snoc s e) r))

  abbrev rank : ℕ → ℕ
  rank a = ancestors n (edges xs) acyclic a

  rank-le : (a : ℕ) → rank a ≤ n
  rank-le a = omega (arith, count-all (λ c. reaches (edges xs) c a) (below n), length_from 0 n)

  abbrev goes : ℕ → ℕ → Bool
  goes a b = not (eqb b t) && (has_edge h a b && reaches h b t)

  closes-means : (a : ℕ) → T (closes n h t a) → Closes h t a
  unfolding closes
  closes-means a u = (
    (λ q. T_not (eqb a t) (and_left (not (eqb a t)) (has_edge h a t) u) (subst (λ z. T (eqb a z)) q (eqb_refl a))),
    and_right (not (eqb a t)) (has_edge h a t) u,
  )

  closes-made : (a : ℕ) → Closes h t a → T (closes n h t a)
  unfolding closes
  closes-made a c = and_both (not (eqb a t)) (has_edge h a t) (not_T (eqb a t) (λ e. c.0 (eqb→eq a t e))) c.1

  goes-means : (a b : ℕ) → T (goes a b) → Leads h t a b
  goes-means a b u =
      let two : T (has_edge h a b && reaches h b t) = and_right (not (eqb b t)) (has_edge h a b && reaches h b t) u in (
        (λ q. T_not (eqb b t) (and_left (not (eqb b t)) (has_edge h a b && reaches h b t) u) (subst (λ z. T (eqb b z)) q (eqb_refl b))),
        and_left (has_edge h a b) (reaches h b t) two,
        sound h b t (and_right (has_edge h a b) (reaches h b t) two),
      )

  goes-made : (a b : ℕ) → Leads h t a b → T (goes a b)
  goes-made a b l =
      and_both (not (eqb b t)) (has_edge h a b && reaches h b t) (not_T (eqb b t) (λ e. l.0 (eqb→eq b t e)))
      (and_both (has_edge h a b) (reaches h b t) l.1 (complete h l.2))

  -- where the cycle goes on from a
  record Next (a : ℕ) : Type 0 where
    leads : Leads h t a (onward n h t a)
    lowest : (c : ℕ) → Leads h t a c → onward n h t a ≤ c

  -- from a transaction with a path to t, where the cycle does not close, it goes on
  next : (a : ℕ) → Over h a t → (Closes h t a → ⊥) → Next a
  unfolding onward
  next a o c =
      let m : ℕ = o.mid in
      let mt : m ≢ t = λ q. by (eqb a t)
      (λ e. (ends a m o.edge).2 (eqb→eq a t (T_of e) ∙ sym q))
      (λ e. c ((λ z. subst T e (subst (λ y. T (eqb a y)) z (eqb_refl a))), subst (λ z. T (has_edge h a z)) q o.edge)) in
      record {
        leads = goes-means a (first_of (goes a) 0 (below n)) (first_passes (goes a) 0 m (below n) (below-has n m (ends a m o.edge).1) (goes-made a m (mt, o.edge, o.path)));
        lowest = λ d l. first-least (goes a) 0 0 n d (below-has n d (ends a d l.1).1) (goes-made a d l);
      }

  round : (k a : ℕ) → Over h a t → n < k + rank a → (l : List ℕ) × (walk n h t k a ≡ a ∷ l) × Follows h t a l
  unfolding walk
  round zero a o k = absurd (omega (arith, rank-le a))
  round (suc k) a o lt = by (closes n h t a)
      (λ c. ([], stop c, closes-means a (T_of c)))
      (λ c. let b : ℕ = onward n h t a in
      let no : Closes h t a → ⊥ = λ d. subst T c (closes-made a d) in
      let x = next a o no in
      let r = round k b (over-strict x.leads.0 x.leads.2)
      (omega (arith, fewer n (edges xs) acyclic a b (ends a b x.leads.1).0 (ends a b x.leads.1).1 (old-edge a b x.leads.1 x.leads.0))) in
      (b ∷ r.0, go c ∙ ap (λ z. a ∷ z) r.1, (no, x.leads, x.lowest, r.2)))
    where
      stop : closes n h t a ≡ true → walk n h t (suc k) a ≡ a ∷ []
      stop c = rw (c, walk)

      go : closes n h t a ≡ false → walk n h t (suc k) a ≡ a ∷ walk n h t k (onward n h t a)
      go c = rw (c, walk)

  -- the walk from t follows the rule
  walk-right : T (cyclic h) → Reported h t (walk n h t n t)
  walk-right u =
      let r = round n t (loop-at u) (omega (
        arith,
        among-length (keep (λ c. reaches (edges xs) c t) (below n))
            (keep-has (λ c. reaches (edges xs) c t) t (below n) (below-has n t (small x (among-end xs x))) (complete (edges xs) PathAlong.here)),
      )) in
      subst (Reported h t) (sym r.1) (refl, r.2)

-- ---- of a recording

nothing : cyclic (edges (labelled [])) ≡ false
unfolding labelled_from edges cyclic some_of
nothing = refl

pub labelled-length : (s : Tally) (es : List Event) → length (labelled_from s es) ≡ length es
unfolding labelled_from
labelled-length s [] = refl
labelled-length s (e ∷ es) = ap suc (labelled-length (tallied s e) es)

-- what stands for a record past the end
abbrev pub blank : Labelled
blank = record { transaction = 0; event = record { thread = 0; op = Yield } }

pub number_at : (xs : List Labelled) (i : ℕ) → get_or (map (λ x. x.transaction) xs) i 0 ≡ (get_or xs i blank).transaction
number_at xs i = get_or-map (λ x. x.transaction) xs i blank

-- The cycle that is reported is a cycle of edges of the prefix, from the transaction of its last record on, chosen by the rule
pub cycle-right : (es : List Event) (k : ℕ) → shortest es ≡ suc k → Reported (edges_up_to es (suc k)) (transaction_at es k) (cycle_of es (suc k))
unfolding shortest cyclic_up_to edges_up_to cycle_of transaction_at transactions
cycle-right es k e =
    let xs : List Labelled = labelled (take k es) in
    let x : Labelled = get_or (labelled es) k blank in
    let q : Earliest (cyclic_up_to es) 1 (length es) (suc k) = earliest (cyclic_up_to es) 1 (length es) k e in
    let is : labelled (take (suc k) es) ≡ xs ++ (x ∷ []) =
    labelled-take none_yet (suc k) es ∙ take-suc (labelled es) k blank (omega (arith, q.inside, labelled-length none_yet es)) ∙ ap (λ l. l ++ (x ∷ [])) (sym (labelled-take none_yet k es)) in
    let small : (y : Labelled) → Among y (xs ++ (x ∷ [])) → y.transaction < transactions es =
    λ y m. labels-lt none_yet es sane-none y (among-take (suc k) y (labelled es) (subst (λ l. Among y l) (sym is ∙ labelled-take none_yet (suc k) es) m)) in
    subst (λ l. Reported (edges l) (transaction_at es k) (walk (transactions es) (edges l) (transaction_at es k) (transactions es) (transaction_at es k))) (sym is)
    (subst (λ T₀. Reported (edges (xs ++ (x ∷ []))) T₀ (walk (transactions es) (edges (xs ++ (x ∷ []))) T₀ (transactions es) T₀)) (sym (number_at (labelled es) k))
    (walk-right (transactions es) xs x small (before k q) (subst (λ l. T (cyclic (edges l))) is (first_some (cyclic_up_to es) (from 1 (length es)) k e))))
  where
    before : (k : ℕ) → Earliest (cyclic_up_to es) 1 (length es) (suc k) → cyclic (edges (labelled (take k es))) ≡ false
    before zero q = nothing
    before (suc k) q = q.none (suc k) (omega arith) (omega arith)
