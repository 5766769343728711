-- An engine whose sources are right keeps the rows right: where they stand for the edges of the records so far, they tell whether one record more closes a
-- cycle, and with it they stand for the edges of these records and it. The records are labelled in any way.
use Prim.Native.Nat.{ℕ, ◌<◌, ◌≤◌}
use native.Mathlib.Omega.{arith}
use mathlib.Core.Path.{◌≡◌, refl, sym, ap, ◌∙◌, subst}
use mathlib.Core.Logic.{◌≢◌}
use mathlib.Core.Bool.{Bool, false, cond, ◌&&◌, ◌||◌}
use mathlib.Core.List.{List, [], ◌∷◌, ◌++◌}
use borrow.Author.Tests.{ne_eqb}
use lib.Dec.{T}
use lib.ListN.{length}
use Rattle.lists.specs.Lists.{some_of}
use Rattle.lists.proofs.Tests.{by-same, or_cases, or_left, or_right, and_left, and_right, same_test}
use Rattle.lists.proofs.Lists.{Among, first-of, Holds, some_at, some-has, some_same}
use Rattle.trace.specs.Paths.{Edge, has_edge, PathAlong, reaches, cyclic}
use Rattle.trace.proofs.Reach.{Last, last-edge, sound, complete, path-joined, edge-back, edge-below}
use Rattle.trace.proofs.Closing.{reaches-goal, reaches-beyond, cyclic-goal}
use Rattle.rows.specs.Bits.{has, begun}
use Rattle.graph.specs.declared.Labelled.{Labelled}
use Rattle.graph.specs.Edges.{makes, edges}
use Rattle.graph.proofs.Ends.{pair-has, has-pair}
use Rattle.graph.proofs.Numbers.{bounded-edges}
use Rattle.graph.proofs.Steps.{among_none, among-split, before-end, edges-snoc}
use Rattle.ancestors.specs.Ancestors.{Stands}
use Rattle.ancestors.specs.Sources.{meeting, closed_rows, looked}
use Rattle.ancestors.proofs.Standing.{Kept, begun-stands}
use Rattle.ancestors.proofs.Gathering.{reaches-both, meeting-is, closed-stands, closed-kept}

-- The sources of record x after the records xs are right: each has an edge to the record's transaction; and who has such an edge reaches that transaction,
-- or one of the sources, without the record
pub record RightSources (xs : List Labelled) (x : Labelled) (bs : List ℕ) : Type 0 where
  pub edge : (b : ℕ) → Among b bs → T (has_edge (edges (xs ++ (x ∷ []))) b x.transaction)
  pub path : (b : ℕ) → T (has_edge (edges (xs ++ (x ∷ []))) b x.transaction) → T (reaches (edges xs) b x.transaction || some_of (λ c. reaches (edges xs) b c) bs)

-- The first m rows hold the records xs: they stand for their edges, and the records' transactions are among the first n
pub record RowsHold (m : ℕ) (xs : List Labelled) (work : List ℕ) (n : ℕ) : Type 0 where
  pub stands : Stands m work (edges xs)
  pub few : (y : Labelled) → Among y xs → y.transaction < n
  pub most : n ≤ m
  pub square : m ≤ 512
  pub none : cyclic (edges xs) ≡ false

-- Nothing has been done, and the rows stand for no edges: as they do where they have been begun
pub none-hold : (m : ℕ) (work : List ℕ) → m ≤ 512 → Stands m work [] → RowsHold m [] work 0
unfolding edges cyclic some_of
none-hold m work square stands = record {
  stands = stands;
  few = λ y m. absurd (among_none m);
  most = omega arith;
  square = square;
  none = refl;
}

pub begun-hold : (m : ℕ) (work : List ℕ) → m ≤ 512 → 4096 ≤ length work → RowsHold m [] (begun m work) 0
begun-hold m work square long = none-hold m (begun m work) square (begun-stands m work square long)

module _ (xs : List Labelled) (x : Labelled) (bs : List ℕ) (right : RightSources xs x bs) where
  abbrev t : ℕ
  t = x.transaction

  abbrev all : List Labelled
  all = xs ++ (x ∷ [])

  abbrev g : List Edge
  g = edges xs

  abbrev h : List Edge
  h = edges all

  -- who reaches whom with the record: who did, and, where t reached d, who now reaches t
  beyond : (a d : ℕ) → reaches h a d ≡ (reaches g a d || (reaches g t d && reaches h a t))
  beyond a d = reaches-beyond g h t xs (λ y. y.transaction) (λ y. makes y x) (edges-snoc xs x) a d

  old : (a d : ℕ) → T (reaches g a d) → T (reaches h a d)
  old a d u = subst T (sym (beyond a d)) (or_left (reaches g a d) (reaches g t d && reaches h a t) u)

  through : (a b c : ℕ) → T (reaches g a b) → T (reaches g b c) → T (reaches g a c)
  through a b c u v = complete g (path-joined (sound g a b u) (sound g b c v))

  -- a record before x that makes an edge with it
  made : (y : Labelled) → Among y xs → T (makes y x) → T (has_edge h y.transaction t)
  made y m u = pair-has y x all (before-end xs x m) u

  -- who reaches one with an edge to t reached t, or a source
  known : (a b : ℕ) → T (has_edge h b t) → T (reaches g a b) → T (reaches g a t || some_of (λ c. reaches g a c) bs)
  known a b e u = or_cases (reaches g b t) (some_of (λ c. reaches g b c) bs) (right.path b e)
      (λ v. or_left (reaches g a t) (some_of (λ c. reaches g a c) bs) (through a b t u v))
      (λ v. let f : Holds (λ c. reaches g b c) bs = some_at (λ c. reaches g b c) bs v in
      or_right (reaches g a t) (some_of (λ c. reaches g a c) bs) (some-has (λ c. reaches g a c) f.x bs f.in-l (through a b f.x u f.holds)))

  -- who reaches t with the record: who did, and who reaches a source
  goal : (a : ℕ) → reaches h a t ≡ (reaches g a t || some_of (λ b. reaches g a b) bs)
  goal a = same_test (reaches h a t) (reaches g a t || some_of (λ b. reaches g a b) bs) there back
    where
      there : T (reaches h a t) → T (reaches g a t || some_of (λ b. reaches g a b) bs)
      there u =
          let p : Labelled → Bool = λ y. makes y x && reaches g a y.transaction in
          or_cases (reaches g a t) (some_of p xs) (subst T (reaches-goal g h t xs (λ y. y.transaction) (λ y. makes y x) (edges-snoc xs x) a) u)
          (λ v. or_left (reaches g a t) (some_of (λ b. reaches g a b) bs) v)
          (λ v. let f : Holds p xs = some_at p xs v in
          let y : Labelled = f.x in
          known a y.transaction (made y f.in-l (and_left (makes y x) (reaches g a y.transaction) f.holds)) (and_right (makes y x) (reaches g a y.transaction) f.holds))

      back : T (reaches g a t || some_of (λ b. reaches g a b) bs) → T (reaches h a t)
      back u = or_cases (reaches g a t) (some_of (λ b. reaches g a b) bs) u
          (λ v. old a t v)
          (λ v. let f : Holds (λ b. reaches g a b) bs = some_at (λ b. reaches g a b) bs v in
          complete h (path-joined (sound h a f.x (old a f.x f.holds)) (PathAlong.there (right.edge f.x f.in-l) PathAlong.here)))

  -- where there was no cycle there is one now exactly if t reached a source
  cycle : cyclic g ≡ false → cyclic h ≡ some_of (λ b. reaches g t b) bs
  cycle none = same_test (cyclic h) (some_of (λ b. reaches g t b) bs) there back
    where
      there : T (cyclic h) → T (some_of (λ b. reaches g t b) bs)
      there u =
          let p : Labelled → Bool = λ y. makes y x && reaches g t y.transaction in
          let f : Holds p xs = some_at p xs (subst T (cyclic-goal g h t xs (λ y. y.transaction) (λ y. makes y x) (edges-snoc xs x) none) u) in
          let y : Labelled = f.x in
          let b : ℕ = y.transaction in
          let to : T (reaches g t b) = and_right (makes y x) (reaches g t b) f.holds in
          let e : T (has_edge h b t) = made y f.in-l (and_left (makes y x) (reaches g t b) f.holds) in
          or_cases (reaches g b t) (some_of (λ c. reaches g b c) bs) (right.path b e)
          (λ v. absurd ((has-pair all b t e).different (reaches-both g none b t v to)))
          (λ v. let k : Holds (λ c. reaches g b c) bs = some_at (λ c. reaches g b c) bs v in
          some-has (λ c. reaches g t c) k.x bs k.in-l (through t b k.x to k.holds))

      back : T (some_of (λ b. reaches g t b) bs) → T (cyclic h)
      back u = let f : Holds (λ b. reaches g t b) bs = some_at (λ b. reaches g t b) bs u in edge-back h f.x t (right.edge f.x f.in-l) (old t f.x f.holds)

  module _ (m : ℕ) (work : List ℕ) (n : ℕ) (holds : RowsHold m xs work n) (in-t : t < m) where
    in-t₀ : t < 512
    in-t₀ = omega (arith, holds.square)

    all-few : (y : Labelled) → Among y all → y.transaction < m
    all-few y a = among-split xs x a (λ i. omega (arith, holds.few y i, holds.most)) (λ e. subst (λ z. z.transaction < m) (sym e) in-t)

    source-small : (b : ℕ) → Among b bs → b < m
    source-small b i = let e = has-pair all b t (right.edge b i) in subst (λ k. k < m) e.x-of (all-few e.x (first-of e.order))

    source-other : (b : ℕ) → Among b bs → b ≢ t
    source-other b i = (has-pair all b t (right.edge b i)).different

    -- Whether the record closes a cycle: t reaches one of its sources, by the rows
    pub closing-right : some_of (λ b. has work b t) bs ≡ cyclic (edges (xs ++ (x ∷ [])))
    closing-right = some_same (λ b. has work b t) (λ b. reaches g t b) bs (λ b i. holds.stands.is t b in-t₀ (source-small b i)) ∙ sym (cycle holds.none)

    -- and by the new ones alone
    pub meeting-right : meeting work t bs ≡ cyclic (edges (xs ++ (x ∷ [])))
    meeting-right = meeting-is m holds.square work g holds.stands t in-t holds.none bs source-small source-other ∙ closing-right

    -- The rows to look at: all that t reaches, besides its own, are among the first k
    abbrev pub Looks : ℕ → Type 0
    Looks k = (d : ℕ) → d < m → k ≤ d → T (reaches (edges xs) x.transaction d) → d ≡ x.transaction

    -- enough are the rows of all transactions so far
    pub looks-all : (k : ℕ) → n ≤ k → Looks k
    looks-all k le d hd lo u = go (sound g t d u) lo
      where
        go : {a b : ℕ} → PathAlong g a b → k ≤ b → b ≡ a
        go PathAlong.here l = refl
        go {a} {b} (PathAlong.there {b = c} e p) l =
            let f : Last g a b = last-edge (record { mid = c; edge = e; path = p }) in
            absurd (omega (arith, (edge-below n g (bounded-edges n xs holds.few) f.mid b f.edge).1))

    -- and none, where the record begins its transaction
    looks-first : (k : ℕ) → t ≡ n → Looks k
    looks-first k new d hd lo u = go (sound g t d u) refl
      where
        go : {a b : ℕ} → PathAlong g a b → a ≡ t → b ≡ t
        go PathAlong.here q = q
        go {a} (PathAlong.there {b = c} e p) q = let f = has-pair xs a c e in absurd (omega (arith, holds.few f.x (first-of f.order), f.x-of, q))

    pub looks-enough : Looks (looked x.transaction n)
    unfolding looked
    looks-enough = by-same t n (λ e. looks-first (looked t n) e) (λ ne. looks-all (looked t n) (omega (arith, ap (λ b. cond b 0 n) (ne_eqb t n ne))))

    module _ (k : ℕ) (in-k : k ≤ 512) (looks : Looks k) where
      -- The rows stand for the edges with the record, cycle or not
      pub rows-stand : Stands m (closed_rows work k x.transaction bs) (edges (xs ++ (x ∷ [])))
      rows-stand = closed-stands m holds.square work g h holds.stands t k in-t in-k bs source-small source-other goal beyond looks

      -- as many numbers as before, and those past the square stay
      pub rows-kept : Kept work (closed_rows work k x.transaction bs)
      rows-kept = closed-kept m holds.square work g h holds.stands t k in-t in-k bs source-small source-other goal beyond looks

      -- where it closes no cycle, they hold it too
      pub rows-hold : (c : ℕ) → n ≤ c → x.transaction < c → c ≤ m → cyclic (edges (xs ++ (x ∷ []))) ≡ false → RowsHold m (xs ++ (x ∷ [])) (closed_rows work k x.transaction bs) c
      rows-hold c le in_c most none = record {
        stands = rows-stand;
        few = λ y i. among-split xs x i (λ j. omega (arith, holds.few y j)) (λ e. subst (λ z. z.transaction < c) (sym e) in_c);
        most = most;
        square = holds.square;
        none = none;
      }
