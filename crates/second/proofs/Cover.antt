-- The engine's edges are edges of document 01, and every edge of 01 is a path of them.
use Prim.Native.Nat.{ℕ, zero, suc, pred}
use native.Mathlib.Omega.{arith}
use mathlib.Core.Path.{◌≡◌, refl, sym, ap, ap₂, ◌∙◌, subst}
use mathlib.Core.Logic.{◌≢◌}
use mathlib.Core.Bool.{Bool, not, cond, ◌&&◌, ◌||◌}
use mathlib.Core.List.{List, [], ◌∷◌, ◌++◌, map}
use lib.Dec.{T, T_not, not_T, eqb, leb, eqb→eq, eqb_refl, eqb-suc-zero}
use Rattle.record.specs.declared.Event.{Event}
use Rattle.record.specs.Record.{target}
use Rattle.lists.specs.Lists.{some_of, keep}
use Rattle.trace.specs.Paths.{Edge, has_edge, PathAlong}
use Rattle.lists.proofs.Tests.{by, by-same, T_of, or_cases, or_left, or_right, and_left, and_right, and_both}
use Rattle.lists.proofs.Lists.{Among, Before, among-cons, keep-among, keep-has, some-has, some_at, Holds, among-map, among-unmap, some-append}
use Rattle.trace.proofs.Reach.{path-joined}
use Rattle.graph.specs.Conflict.{accesses, writes, locks, forks, joins, conflict}
use Rattle.graph.specs.declared.Labelled.{Labelled}
use Rattle.graph.specs.Edges.{makes, edges}
use Rattle.graph.proofs.Ends.{pair-has, has-pair}
use Rattle.graph.proofs.Steps.{among_none, makes-of}
use Rattle.ancestors.specs.Others.{is_other, others}
use Rattle.second.specs.declared.Cells.{Cells}
use Rattle.second.specs.Cells.{Key, cell, idle, asks, sources}
use Rattle.second.specs.Edges.{into, sources_of, stored_of, second_from, second_edges}
use Rattle.second.proofs.Keys.{same_key, has_key, asks_at, leaves_at, asks-is, inside, Sized, sized-idle, sized-stored, cell-stored, cell-idle}
use Rattle.second.proofs.Orderly.{ranged, Fits, of-thread, of-target, of-variable, of-lock, of-child}
use Rattle.second.proofs.Meet.{Meeting, cells-conflict, conflict-cells, both-leave, writes-accesses, eq-T}

-- ---- what the sources are

same_key-is : (k j : Key) → T (same_key k j) → k ≡ j
same_key-is (Key.lock m) (Key.lock n) t = ap Key.lock (eqb→eq m n t)
same_key-is (Key.lock m) (Key.thread n) t = absurd t
same_key-is (Key.lock m) (Key.writer n) t = absurd t
same_key-is (Key.lock m) (Key.reader n u) t = absurd t
same_key-is (Key.thread m) (Key.lock n) t = absurd t
same_key-is (Key.thread m) (Key.thread n) t = ap Key.thread (eqb→eq m n t)
same_key-is (Key.thread m) (Key.writer n) t = absurd t
same_key-is (Key.thread m) (Key.reader n u) t = absurd t
same_key-is (Key.writer m) (Key.lock n) t = absurd t
same_key-is (Key.writer m) (Key.thread n) t = absurd t
same_key-is (Key.writer m) (Key.writer n) t = ap Key.writer (eqb→eq m n t)
same_key-is (Key.writer m) (Key.reader n u) t = absurd t
same_key-is (Key.reader m s) (Key.lock n) t = absurd t
same_key-is (Key.reader m s) (Key.thread n) t = absurd t
same_key-is (Key.reader m s) (Key.writer n) t = absurd t
same_key-is (Key.reader m s) (Key.reader n u) t = ap₂ Key.reader (eqb→eq m n (and_left (eqb m n) (eqb s u) t)) (eqb→eq s u (and_right (eqb m n) (eqb s u) t))

key-self : (k : Key) → T (same_key k k)
key-self (Key.lock m) = eqb_refl m
key-self (Key.thread m) = eqb_refl m
key-self (Key.writer m) = eqb_refl m
key-self (Key.reader m u) = and_both (eqb m m) (eqb u u) (eqb_refl m) (eqb_refl u)

key-among : (k : Key) (ks : List Key) → T (has_key k ks) → Among k ks
key-among k [] t = absurd t
key-among k (j ∷ ks) t = or_cases (same_key k j) (has_key k ks) t
    (λ u. subst (λ i. Among k (i ∷ ks)) (same_key-is k j u) Among.top)
    (λ u. Among.deeper (key-among k ks u))

among-key : (k : Key) (ks : List Key) → Among k ks → T (has_key k ks)
among-key k [] m = absurd (among_none m)
among-key k (j ∷ ks) m = among-cons m
    (λ e. or_left (same_key k j) (has_key k ks) (subst (λ i. T (same_key k i)) e (key-self k)))
    (λ n. or_right (same_key k j) (has_key k ks) (among-key k ks n))

other-of : (a c b : ℕ) → c ≡ suc b → b ≢ a → T (is_other a c)
other-of a c b e d = subst (λ z. T (is_other a z)) (sym e)
    (and_both (not (eqb (suc b) 0)) (not (eqb b a)) (subst (λ t. T (not t)) (sym (eqb-suc-zero b)) tt) (not_T (eqb b a) (λ t. d (eqb→eq b a t))))

of_other : (a c : ℕ) → T (is_other a c) → (c ≡ suc (pred c)) × (pred c ≢ a)
of_other a zero t = absurd t
of_other a (suc b) t = (refl, λ e. T_not (eqb b a) (and_right (not (eqb (suc b) 0)) (not (eqb b a)) t) (eq-T e))

module _ (s : Cells) (a : ℕ) (e : Event) where
  -- a transaction in a cell that is asked is a source, if it is another
  source-has : (k : Key) (b : ℕ) → T (asks_at e k) → cell s k ≡ suc b → b ≢ a → Among b (sources s a e)
  unfolding sources others
  source-has k b t is d =
      let m : Among (cell s k) (map (cell s) (asks e)) = among-map (cell s) (key-among k (asks e) (subst T (sym (asks-is e k)) t)) in
      let n : Among (pred (cell s k)) (map pred (keep (is_other a) (map (cell s) (asks e)))) =
      among-map pred (keep-has (is_other a) (cell s k) (map (cell s) (asks e)) m (other-of a (cell s k) b is d)) in
      subst (λ c. Among c (map pred (keep (is_other a) (map (cell s) (asks e))))) (ap pred is) n

  record Source (b : ℕ) : Type 0 where
    key : Key
    asked : T (asks_at e key)
    is : cell s key ≡ suc b
    different : b ≢ a

  -- and a source is one
  has-source : (b : ℕ) → Among b (sources s a e) → Source b
  unfolding sources others
  has-source b m =
      let p = among-unmap pred b (keep (is_other a) (map (cell s) (asks e))) m in
      let c : ℕ = p.0 in
      let q = keep-among (is_other a) c (map (cell s) (asks e)) p.1 in
      let r = among-unmap (cell s) c (asks e) q.0 in
      let o = of_other a c q.1 in
      record {
        key = r.0;
        asked = subst T (asks-is e r.0) (among-key r.0 (asks e) r.1);
        is = r.2 ∙ o.0 ∙ ap suc p.2;
        different = λ z. o.1 (p.2 ∙ z);
      }

-- ---- edges into one transaction

abbrev is_at : ℕ → ℕ → Edge → Bool
is_at a b e = eqb e.origin a && eqb e.goal b

pub into-has : (a : ℕ) (bs : List ℕ) (b : ℕ) → Among b bs → T (has_edge (into a bs) b a)
unfolding has_edge
into-has a bs b m = some-has (is_at b a) (record { origin = b; goal = a }) (into a bs) (among-map (λ c. record { origin = c; goal = a }) m)
    (and_both (eqb b b) (eqb a a) (eqb_refl b) (eqb_refl a))

pub has-into : (a : ℕ) (bs : List ℕ) (b c : ℕ) → T (has_edge (into a bs) b c) → Among b bs × (c ≡ a)
unfolding has_edge
has-into a bs b c t =
    let f : Holds (is_at b c) (into a bs) = some_at (is_at b c) (into a bs) t in
    let x : Edge = f.x in
    let p = among-unmap (λ d. record { origin = d; goal = a }) x bs f.in-l in
    let o : p.0 ≡ b = ap (λ y. y.origin) p.2 ∙ eqb→eq x.origin b (and_left (eqb x.origin b) (eqb x.goal c) f.holds) in
    let g : c ≡ a = sym (ap (λ y. y.goal) p.2 ∙ eqb→eq x.goal c (and_right (eqb x.origin b) (eqb x.goal c) f.holds)) in
    (subst (λ z. Among z bs) o p.1, g)

pub has-append : (u v : List Edge) (a b : ℕ) → has_edge (u ++ v) a b ≡ (has_edge u a b || has_edge v a b)
unfolding has_edge
has-append u v a b = some-append (is_at a b) u v

-- ---- one record

-- the cells that an event asks are there
asks-inside : (e : Event) (k : Key) → T (ranged e) → T (asks_at e k) → T (inside k)
asks-inside e (Key.lock m) r t =
    subst (λ z. T (leb z 31)) (sym (eqb→eq m (target e.op) (and_right (locks e.op) (eqb m (target e.op)) t)))
    (of-lock e.op (and_left (locks e.op) (eqb m (target e.op)) t) (of-target e r))
asks-inside e (Key.thread u) r t = or_cases (eqb u e.thread) (joins e.op && eqb u (target e.op)) t
    (λ p. subst (λ z. T (leb z 15)) (sym (eqb→eq u e.thread p)) (of-thread e r))
    (λ p. subst (λ z. T (leb z 15)) (sym (eqb→eq u (target e.op) (and_right (joins e.op) (eqb u (target e.op)) p)))
    (of-child e.op (or_right (forks e.op) (joins e.op) (and_left (joins e.op) (eqb u (target e.op)) p)) (of-target e r)))
asks-inside e (Key.writer x) r t =
    subst (λ z. T (leb z 255)) (sym (eqb→eq x (target e.op) (and_right (accesses e.op) (eqb x (target e.op)) t)))
    (of-variable e.op (and_left (accesses e.op) (eqb x (target e.op)) t) (of-target e r))
asks-inside e (Key.reader x u) r t =
    let two : T (eqb x (target e.op) && leb u 15) = and_right (writes e.op) (eqb x (target e.op) && leb u 15) t in
    and_both (leb x 255) (leb u 15)
    (subst (λ z. T (leb z 255)) (sym (eqb→eq x (target e.op) (and_left (eqb x (target e.op)) (leb u 15) two)))
    (of-variable e.op (writes-accesses e.op (and_left (writes e.op) (eqb x (target e.op) && leb u 15) t)) (of-target e r)))
    (and_right (eqb x (target e.op)) (leb u 15) two)

pub second-cons : (s : Cells) (x : Labelled) (xs : List Labelled) (a b : ℕ)
    → has_edge (second_from s (x ∷ xs)) a b ≡ (has_edge (into x.transaction (sources_of s x)) a b || has_edge (second_from (stored_of s x) xs) a b)
unfolding second_from
second-cons s x xs a b = has-append (into x.transaction (sources_of s x)) (second_from (stored_of s x) xs) a b

-- the transaction in a cell is that of a record that left it there
record Left (past : List Labelled) (k : Key) (b : ℕ) : Type 0 where
  x : Labelled
  in-past : Among x past
  left : T (leaves_at x.event k)
  of : x.transaction ≡ b

abbrev Kept : Cells → List Labelled → Type 0
Kept s past = (k : Key) (b : ℕ) → T (inside k) → cell s k ≡ suc b → Left past k b

suc_inj : (a b : ℕ) → suc a ≡ suc b → a ≡ b
suc_inj a b e = omega arith

zero-suc : (b : ℕ) → ◌≡◌ {A = ℕ} 0 (suc b) → ⊥
zero-suc b e = omega arith

kept-idle : Kept idle []
kept-idle k b i e = absurd (zero-suc b (sym (cell-idle k) ∙ e))

kept-stored : (s : Cells) (past : List Labelled) (y : Labelled) → Sized s → T (ranged y.event) → Kept s past → Kept (stored_of s y) (y ∷ past)
kept-stored s past y z r kept k b i e =
    let q : cell (stored_of s y) k ≡ cond (leaves_at y.event k) (suc y.transaction) (cell s k) = cell-stored s y.transaction y.event k z r i in
    by (leaves_at y.event k)
    (λ l. record { x = y; in-past = Among.top; left = T_of l; of = suc_inj y.transaction b (sym (q ∙ ap (λ c. cond c (suc y.transaction) (cell s k)) l) ∙ e) })
    (λ l. let f : Left past k b = kept k b i (sym (q ∙ ap (λ c. cond c (suc y.transaction) (cell s k)) l) ∙ e) in
    record { x = f.x; in-past = Among.deeper f.in-past; left = f.left; of = f.of })

-- ---- each edge of the engine is an edge of 01

-- a source of y is the transaction of an earlier record that conflicts with y
source-pair : (s : Cells) (past : List Labelled) (y : Labelled) → T (ranged y.event) → Kept s past → (b : ℕ) → Among b (sources_of s y)
    → (x : Labelled) × Among x past × (x.transaction ≡ b) × T (makes x y)
source-pair s past y r kept b m =
    let c = has-source s y.transaction y.event b m in
    let f : Left past c.key b = kept c.key b (asks-inside y.event c.key r c.asked) c.is in
    (f.x, f.in-past, f.of, makes-of f.x y (λ e. c.different (sym f.of ∙ e)) (cells-conflict f.x.event y.event c.key f.left c.asked))

abbrev pub AllRanged : List Labelled → Type 0
AllRanged xs = (x : Labelled) → Among x xs → T (ranged x.event)

second-edge-from : (all : List Labelled) (s : Cells) (past xs : List Labelled) → Sized s → Kept s past → AllRanged xs
    → ((x y : Labelled) → Among x past → Among y xs → Before x y all) → ((x y : Labelled) → Before x y xs → Before x y all)
    → (a b : ℕ) → T (has_edge (second_from s xs) a b) → T (has_edge (edges all) a b)
unfolding second_from has_edge some_of
second-edge-from all s past [] z kept r across within a b t = absurd t
second-edge-from all s past (y ∷ xs) z kept r across within a b t =
    or_cases (has_edge (into y.transaction (sources_of s y)) a b) (has_edge (second_from (stored_of s y) xs) a b) (subst T (second-cons s y xs a b) t)
    (λ u. let e = has-into y.transaction (sources_of s y) a b u in
    let p = source-pair s past y (r y Among.top) kept a e.0 in
    subst (λ c. T (has_edge (edges all) c b)) p.2
    (subst (λ c. T (has_edge (edges all) p.0.transaction c)) (sym e.1) (pair-has p.0 y all (across p.0 y p.1 Among.top) p.3)))
    (λ u. second-edge-from all (stored_of s y) (y ∷ past) xs (sized-stored s y.transaction y.event z) (kept-stored s past y z (r y Among.top) kept) (λ x m. r x (Among.deeper m))
    (λ x w i m. among-cons i (λ q. within x w (subst (λ v. Before v w (y ∷ xs)) (sym q) (Before.now m))) (λ j. across x w j (Among.deeper m)))
    (λ x w o. within x w (Before.under o)) a b u)

-- Every edge of the engine is an edge of 01
pub second-edge : (xs : List Labelled) → AllRanged xs → (a b : ℕ) → T (has_edge (second_edges xs) a b) → T (has_edge (edges xs) a b)
second-edge xs r = second-edge-from xs idle [] xs sized-idle kept-idle r (λ x y m n. absurd (among_none m)) (λ x y o. o)

-- ---- each edge of 01 is a path of the engine's

-- where a record left its transaction there is now one that it has a path to
record Reached (h : List Edge) (s : Cells) (k : Key) (a : ℕ) : Type 0 where
  now : ℕ
  is : cell s k ≡ suc now
  path : PathAlong h a now

abbrev Covered : List Edge → Cells → List Labelled → Type 0
Covered h s past = (x : Labelled) (k : Key) → Among x past → T (inside k) → T (leaves_at x.event k) → Reached h s k x.transaction

module _ (h : List Edge) where
  -- all edges that y makes are there
  abbrev Makes : Cells → Labelled → Type 0
  Makes s y = (b : ℕ) → Among b (sources_of s y) → T (has_edge h b y.transaction)

  -- from a record to a later one that asks where it left its transaction
  arrives : (s : Cells) (past : List Labelled) (x y : Labelled) → Covered h s past → Makes s y → Among x past → Meeting x.event y.event → PathAlong h x.transaction y.transaction
  arrives s past x y cov makes m meet =
      let r : Reached h s meet.key x.transaction = cov x meet.key m meet.there meet.left in
      by-same r.now y.transaction
      (λ e. subst (λ c. PathAlong h x.transaction c) e r.path)
      (λ ne. path-joined r.path (PathAlong.there (makes r.now (source-has s y.transaction y.event meet.key r.now meet.asked r.is ne)) PathAlong.here))

  covered-stored : (s : Cells) (past : List Labelled) (y : Labelled) → Sized s → T (ranged y.event) → AllRanged past
      → ((x : Labelled) → Among x past → Fits x.event y.event) → Makes s y → Covered h s past → Covered h (stored_of s y) (y ∷ past)
  covered-stored s past y z r rs fits makes cov x k m i l =
      let q : cell (stored_of s y) k ≡ cond (leaves_at y.event k) (suc y.transaction) (cell s k) = cell-stored s y.transaction y.event k z r i in
      by (leaves_at y.event k)
      (λ e. record {
        now = y.transaction;
        is = q ∙ ap (λ c. cond c (suc y.transaction) (cell s k)) e;
        path = among-cons m
            (λ p. subst (λ c. PathAlong h c y.transaction) (ap (λ w. w.transaction) (sym p)) PathAlong.here)
            (λ n. arrives s past x y cov makes n (both-leave x.event y.event (fits x n) (rs x n) k i l (T_of e)));
      })
      (λ e. let f : Reached h s k x.transaction = among-cons m
      (λ p. absurd (subst T e (subst (λ w. T (leaves_at w.event k)) p l)))
      (λ n. cov x k n i l) in
      record { now = f.now; is = q ∙ ap (λ c. cond c (suc y.transaction) (cell s k)) e ∙ f.is; path = f.path })

  abbrev Way : Labelled → Labelled → Type 0
  Way x y = PathAlong h x.transaction y.transaction

  cover-from : (s : Cells) (past xs : List Labelled) → Sized s → Covered h s past → AllRanged past → AllRanged xs
      → ((x y : Labelled) → Among x past → Among y xs → Fits x.event y.event) → ((x y : Labelled) → Before x y xs → Fits x.event y.event)
      → ((a b : ℕ) → T (has_edge (second_from s xs) a b) → T (has_edge h a b))
      → (x y : Labelled) → T (conflict x.event y.event) → (Among x past → Among y xs → Way x y) × (Before x y xs → Way x y)
  cover-from s past [] z cov rp r across within sub x y c = ((λ m n. absurd (among_none n)), (λ o. absurd (nowhere o)))
    where
      nowhere : Before x y [] → ⊥
      nowhere = elim [ ]
  cover-from s past (w ∷ xs) z cov rp r across within sub x y c =
      let makes : Makes s w = λ b m. sub b w.transaction (subst T (sym (second-cons s w xs b w.transaction))
      (or_left (has_edge (into w.transaction (sources_of s w)) b w.transaction) (has_edge (second_from (stored_of s w) xs) b w.transaction) (into-has w.transaction (sources_of s w) b m))) in
      let rest = cover-from (stored_of s w) (w ∷ past) xs (sized-stored s w.transaction w.event z)
      (covered-stored s past w z (r w Among.top) rp (λ v m. across v w m Among.top) makes cov)
      (λ v m. among-cons m (λ q. subst (λ u. T (ranged u.event)) (sym q) (r w Among.top)) (λ n. rp v n))
      (λ v m. r v (Among.deeper m))
      (λ v u i m. among-cons i (λ q. within v u (subst (λ p. Before p u (w ∷ xs)) (sym q) (Before.now m))) (λ j. across v u j (Among.deeper m)))
      (λ v u o. within v u (Before.under o))
      (λ a b t. sub a b (subst T (sym (second-cons s w xs a b)) (or_right (has_edge (into w.transaction (sources_of s w)) a b) (has_edge (second_from (stored_of s w) xs) a b) t)))
      x y c in (
        (λ m n. among-cons n
            (λ q. subst (λ v. Way x v) (sym q)
            (arrives s past x w cov makes m (conflict-cells x.event w.event (across x w m Among.top) (rp x m) (subst (λ v. T (conflict x.event v.event)) q c))))
            (λ k. rest.0 (Among.deeper m) k)),
        (λ o. split o rest),
      )
    where
      split : {w : Labelled} → Before x y (w ∷ xs) → (Among x (w ∷ past) → Among y xs → Way x y) × (Before x y xs → Way x y) → Way x y
      split (Before.now m) f = f.0 Among.top m
      split (Before.under o) f = f.1 o

-- Every edge of 01 is a path of the engine's edges
pub edge-second : (xs : List Labelled) → AllRanged xs → ((x y : Labelled) → Before x y xs → Fits x.event y.event)
    → (a b : ℕ) → T (has_edge (edges xs) a b) → PathAlong (second_edges xs) a b
edge-second xs r fits a b t =
    let e = has-pair xs a b t in
    subst (λ c. PathAlong (second_edges xs) c b) e.x-of (subst (λ c. PathAlong (second_edges xs) e.x.transaction c) e.y_of
    ((cover-from (second_edges xs) idle [] xs sized-idle (λ x k m i l. absurd (among_none m)) (λ x m. absurd (among_none m)) r (λ x y m n. absurd (among_none m)) fits (λ u v s. s)
    e.x e.y e.clash).1 e.order))
