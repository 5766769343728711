-- The picture shows every transaction and every edge, each once and in order, and nothing else; and how long it can be.
use Prim.Native.Nat.{ℕ, zero, suc, ◌*◌, ◌<◌, ◌≤◌}
use native.Mathlib.Omega.{arith}
use native.Mathlib.Nat.{mul-suc, mul-zero}
use mathlib.Core.Path.{◌≡◌, refl, sym, ap, ◌∙◌, subst}
use mathlib.Core.Logic.{inl, inr}
use mathlib.Core.Bool.{Bool, true, false}
use mathlib.Core.List.{List, [], ◌∷◌, ◌++◌, map}
use lib.Dec.{T, leb}
use lib.ListN.{length, get_or, take, drop, length-append, length-map}
use lib.Seq.{take-append_seam}
use borrow.Author.Tests.{le-leb}
use Rattle.record.specs.declared.Event.{Event}
use Rattle.lists.specs.Lists.{keep, each, from, below, over}
use Rattle.trace.specs.Paths.{Edge, has_edge}
use Rattle.lists.proofs.Tests.{by}
use Rattle.lists.proofs.Lists.{Among, among-at, length_from, from_at, from_le, below-has, below-bound, keep-true, keep-false, keep-among, keep-has, count-all, among-map, among-unmap, append-among, among_second, at-among, each-each}
use Rattle.trace.proofs.Reach.{Bounded, edge-below}
use Rattle.graph.specs.Transactions.{none_yet, labelled, transactions}
use Rattle.graph.specs.Edges.{edges}
use Rattle.graph.proofs.Steps.{among_first}
use Rattle.graph.proofs.Numbers.{sane-none, labels-lt, bounded-edges}
use Rattle.looking.specs.Refusals.{events}
use Rattle.picture.specs.Picture.{opening, closing, transaction_line, edge, edge_line, edges_from, edges_in_order, drawing, picture}
use Rattle.picture.specs.Drawn.{written_as, refusal, fitted, drawn}
use Rattle.picture.specs.Meaning.{Earlier, Shows, room_for_all, Right}
use Rattle.picture.proofs.Texts.{transaction-size, edge-size}
use Rattle.picture.proofs.Endings.{refusal-few}

-- ---- What stands in the lists that are put together

each-has : {A B : Type 0} (f : A → List B) (l : List A) {x : A} {y : B} → Among x l → Among y (f x) → Among y (each f l)
unfolding each
each-has f [] x4 m = elim x4 [ ]
each-has f (x ∷ l) Among.top m = among_first (f x) (each f l) m
each-has f (z ∷ l) (Among.deeper i) m = among_second (f z) (each f l) (each-has f l i m)

each_of : {A B : Type 0} (f : A → List B) (l : List A) (y : B) → Among y (each f l) → (x : A) × Among x l × Among y (f x)
unfolding each
each_of f [] y m = elim m [ ]
each_of f (z ∷ l) y m = append-among y (f z) (each f l) m
    (λ i. (z, Among.top, i))
    (λ i. let r = each_of f l y i in (r.0, Among.deeper r.1, r.2))

-- ---- Strictly rising

abbrev Ordered : List Edge → Type 0
Ordered [] = Unit {0}
Ordered (e ∷ l) = ((f : Edge) → Among f l → Earlier e f) × Ordered l

ordered-append : (l m : List Edge) → Ordered l → Ordered m → ((e f : Edge) → Among e l → Among f m → Earlier e f) → Ordered (l ++ m)
ordered-append [] m p q h = q
ordered-append (e ∷ l) m p q h =
    ((λ f i. append-among f l m i (p.0 f) (λ j. h e f Among.top j)), ordered-append l m p.1 q (λ x f i j. h x f (Among.deeper i) j))

ordered_at : (l : List Edge) (d : Edge) → Ordered l → (i j : ℕ) → i < j → j < length l → Earlier (get_or l i d) (get_or l j d)
ordered_at [] d p i j h k = absurd (omega arith)
ordered_at (e ∷ l) d p zero zero h k = absurd (omega arith)
ordered_at (e ∷ l) d p zero (suc j) h k = p.0 (get_or l j d) (at-among l j d (omega arith))
ordered_at (e ∷ l) d p (suc i) zero h k = absurd (omega arith)
ordered_at (e ∷ l) d p (suc i) (suc j) h k = ordered_at l d p.1 i j (omega arith) (omega arith)

-- the edges that begin at a, to those from s on
ordered-row : (p : ℕ → Bool) (a s n : ℕ) → Ordered (map (edge a) (keep p (from s n)))
unfolding keep from
ordered-row p a s zero = tt
ordered-row p a s (suc n) = by (p s)
    (λ e. subst (λ l. Ordered (map (edge a) l)) (sym (keep-true p s (from (suc s) n) e)) (later, ordered-row p a (suc s) n))
    (λ e. subst (λ l. Ordered (map (edge a) l)) (sym (keep-false p s (from (suc s) n) e)) (ordered-row p a (suc s) n))
  where
    later : (f : Edge) → Among f (map (edge a) (keep p (from (suc s) n))) → Earlier (edge a s) f
    later f m =
        let r = among-unmap (edge a) f (keep p (from (suc s) n)) m in
        subst (Earlier (edge a s)) r.2 (inr (refl, from_le (suc s) n r.0 (keep-among p r.0 (from (suc s) n) r.1).0))

module _ (n : ℕ) (g : List Edge) where
  -- what is drawn from a is an edge that begins at a
  from_row : (a : ℕ) (e : Edge) → Among e (edges_from n g a) → (e.origin ≡ a) × T (has_edge g a e.goal)
  unfolding edges_from
  from_row a e m =
      let r = among-unmap (edge a) e (keep (has_edge g a) (below n)) m in
      (ap (λ x. x.origin) (sym r.2), subst (λ x. T (has_edge g a x.goal)) r.2 (keep-among (has_edge g a) r.0 (below n) r.1).1)

  ordered-rows : (s k : ℕ) → Ordered (each (edges_from n g) (from s k))
  unfolding each from edges_from
  ordered-rows s zero = tt
  ordered-rows s (suc k) = ordered-append (edges_from n g s) (each (edges_from n g) (from (suc s) k)) (ordered-row (has_edge g s) s 0 n) (ordered-rows (suc s) k)
      (λ e f i j. let r = each_of (edges_from n g) (from (suc s) k) f j in
      inl (rises (from_row s e i).0 (from_row r.0 f r.2).0 (from_le (suc s) k r.0 r.1)))
    where
      rises : {a b c : ℕ} → a ≡ s → b ≡ c → suc s ≤ c → a < b
      rises p q h = omega (arith, p, q, h)

  -- every edge between the transactions is drawn
  drawn-has : (a b : ℕ) → a < n → b < n → T (has_edge g a b) → Among (edge a b) (edges_in_order n g)
  unfolding edges_in_order edges_from
  drawn-has a b ha hb t = each-has (edges_from n g) (below n) (below-has n a ha) (among-map (edge a) (keep-has (has_edge g a) b (below n) (below-has n b hb) t))

  -- and nothing else is
  has-drawn : (a b : ℕ) → Among (edge a b) (edges_in_order n g) → T (has_edge g a b)
  unfolding edges_in_order
  has-drawn a b m =
      let r = each_of (edges_from n g) (below n) (edge a b) m in
      let q = from_row r.0 (edge a b) r.2 in
      subst (λ c. T (has_edge g c b)) (sym q.0) q.1

-- ---- What the picture shows

picture-right : (es : List Event) → Shows es
unfolding picture drawing edges_in_order transactions
picture-right es = record {
  named = below (transactions es);
  drawn-edges = edges_in_order (transactions es) g;
  text = refl;
  all_named = length_from 0 (transactions es);
  numbered = λ i h. from_at 0 (transactions es) i 0 h ∙ omega arith;
  exactly = λ a b. (
    (λ t. let inside = edge-below (transactions es) g bounded a b t in among-at (edge 0 0) (drawn-has (transactions es) g a b inside.0 inside.1 t)),
    (λ w. has-drawn (transactions es) g a b (subst (λ e. Among e (edges_in_order (transactions es) g)) w.2 (at-among (edges_in_order (transactions es) g) w.0 (edge 0 0) w.1))),
  );
  rising = λ i j h k. ordered_at (edges_in_order (transactions es) g) (edge 0 0) (ordered-rows (transactions es) g 0 (transactions es)) i j h k;
}
  where
    g : List Edge
    g = edges (labelled es)

    bounded : Bounded (transactions es) g
    bounded = bounded-edges (transactions es) (labelled es) (λ y m. labels-lt none_yet es sane-none y m)

-- ---- How long the text can be

each-most : {A : Type 0} (f : A → List ℕ) (w : ℕ) (l : List A) → ((x : A) → Among x l → length (f x) ≤ w) → length (each f l) ≤ w * length l
unfolding each
each-most f w [] h = omega (arith, mul-zero w)
each-most f w (x ∷ l) h =
    omega (arith, length-append (f x) (each f l), h x Among.top, each-most f w l (λ y m. h y (Among.deeper m)), mul-suc w (length l))

row-most : (n : ℕ) (g : List Edge) (a : ℕ) → n ≤ 512 → a < n → length (each edge_line (edges_from n g a)) ≤ 6144
unfolding edges_from
row-most n g a few h =
    let goals : List ℕ = keep (has_edge g a) (below n) in
    let each_line : length (each edge_line (map (edge a) goals)) ≤ 12 * length (map (edge a) goals) = each-most edge_line 12 (map (edge a) goals) line in
    omega (arith, each_line, length-map goals (edge a), count-all (has_edge g a) (below n), length_from 0 n)
  where
    line : (e : Edge) → Among e (map (edge a) (keep (has_edge g a) (below n))) → length (edge_line e) ≤ 12
    line e m =
        let r = among-unmap (edge a) e (keep (has_edge g a) (below n)) m in
        let low : r.0 < n = below-bound n r.0 (keep-among (has_edge g a) r.0 (below n) r.1).0 in
        subst (λ x. length (edge_line x) ≤ 12) r.2 (edge-size a r.0 (omega arith) (omega arith))

drawing-most : (n : ℕ) (g : List Edge) → n ≤ 512 → length (drawing n g) ≤ room_for_all
unfolding drawing edges_in_order
drawing-most n g few =
    let names : List ℕ = each transaction_line (below n) in
    let links : List ℕ = each edge_line (each (edges_from n g) (below n)) in
    let named : length names ≤ 5 * length (below n) = each-most transaction_line 5 (below n) (λ a m. transaction-size a (omega (arith, below-bound n a m))) in
    let same : each (λ a. each edge_line (edges_from n g a)) (below n) ≡ links = each-each edge_line (edges_from n g) (below n) in
    let linked : length (each (λ a. each edge_line (edges_from n g a)) (below n)) ≤ 6144 * length (below n) =
    each-most (λ a. each edge_line (edges_from n g a)) 6144 (below n) (λ a m. row-most n g a few (below-bound n a m)) in
    omega (arith, length-append opening (names ++ (links ++ closing)), length-append names (links ++ closing), length-append links closing, named, linked, ap length same, length_from 0 n)

-- ---- Document 02, L5, of drawing

module _ (input out work : List ℕ) where
  abbrev text : List ℕ
  text = picture (events input)

  kind-refused : (n : ℕ) → (refusal input work).number ≡ suc n → (drawn input out work).answer.kind ≡ 2
  unfolding drawn
  kind-refused n q = rw (q, drawn)

  kind-unfit : (refusal input work).number ≡ 0 → leb (length text) (length out) ≡ false → (drawn input out work).answer.kind ≡ 2
  unfolding drawn fitted
  kind-unfit q e = rw (q, e, drawn, fitted)

  front-fit : (refusal input work).number ≡ 0 → leb (length text) (length out) ≡ true → take (drawn input out work).answer.first (drawn input out work).out ≡ text
  unfolding drawn fitted over
  front-fit q e = rw (q, e, drawn, fitted) (take-append_seam text (drop (length text) out))

  always-fits : room_for_all ≤ length out → (refusal input work).number ≡ 0 → (drawn input out work).answer ≡ written_as (length text)
  unfolding drawn fitted picture
  always-fits room none =
      let few = refusal-few input work none in
      let fits : leb (length text) (length out) ≡ true =
      le-leb (length text) (length out) (omega (arith, room, drawing-most (transactions (events input)) (edges (labelled (events input))) few)) in
      rw (none, fits, drawn, fitted)

  pub right : Right input out work
  right = record { written = λ h. go h (refusal input work).number refl; shown = picture-right (events input); fits = always-fits }
    where
      go : (drawn input out work).answer.kind ≡ 0 → (n : ℕ) → (refusal input work).number ≡ n → take (drawn input out work).answer.first (drawn input out work).out ≡ text
      go h zero q = by (leb (length text) (length out)) (λ e. front-fit q e) (λ e. absurd (omega (arith, h, kind-unfit q e)))
      go h (suc n) q = absurd (omega (arith, h, kind-refused n q))
