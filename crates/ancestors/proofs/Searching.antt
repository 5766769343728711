-- An engine whose sources are right finds the shortest prefix with a cycle, and leaves the rows by which the order or the cycle is named: `searched-right`.
use Prim.Native.Nat.{ℕ, suc, ◌+◌, ◌<◌, ◌≤◌}
use native.Mathlib.Omega.{arith}
use mathlib.Core.Path.{◌≡◌, refl, sym, ap, ap₂, ◌∙◌, subst}
use mathlib.Core.Bool.{true, false, cond, ◌&&◌}
use mathlib.Core.List.{List, [], ◌∷◌, ◌++◌, map, append-nil}
use borrow.Author.Tests.{lt-ltb, le-ltb}
use lib.Dec.{eqb}
use lib.ListN.{length, get_or, take, drop, length-append}
use lib.Seq.{append_snoc, take_at, get_or_at}
use Rattle.record.specs.declared.Event.{Event}
use Rattle.lists.specs.Lists.{first_of, from}
use Rattle.lists.proofs.Tests.{by, by-same}
use Rattle.lists.proofs.Lists.{Among, among_second, first-default, first-is, first-same, from_le, from-bound, map_at}
use Rattle.trace.specs.Paths.{reaches, cyclic}
use Rattle.rows.specs.Bits.{has}
use Rattle.graph.specs.declared.Labelled.{Labelled}
use Rattle.graph.specs.declared.Tally.{Tally}
use Rattle.graph.specs.Transactions.{none_yet, begins, belongs, tallied, labelled_from, labelled, tally_from, transactions, transaction_limit, work_size}
use Rattle.graph.specs.Edges.{edges}
use Rattle.graph.specs.Violation.{edges_up_to, cyclic_up_to, shortest, transaction_at}
use Rattle.graph.proofs.Numbers.{Sane, sane-none, sane-tallied, belongs-first, belongs-lt, count-begun, count-unbegun, tally-rises, labels-lt, labelled-take}
use Rattle.graph.proofs.Round.{labelled-length}
use Rattle.ancestors.specs.Ancestors.{Stands, Found}
use Rattle.ancestors.specs.Sources.{meeting, closed_rows, looked, begun_with}
use Rattle.ancestors.specs.Search.{Searched, closes_cycle, rows_with, kept_with, kept_from, searched_from, searched}
use Rattle.ancestors.proofs.Standing.{Kept, kept_then}
use Rattle.ancestors.proofs.Joining.{begun_first, begun-other}
use Rattle.ancestors.proofs.Right.{RightSources, RowsHold, none-hold, meeting-right, looks-enough, rows-stand, rows-kept, rows-hold}

-- ---- one record more, of one of 512 transactions or of another

module _ {S : Type 0} (sources : S → Labelled → List ℕ) (s : S) (work : List ℕ) (n : ℕ) (x : Labelled) where
  pub closes-under : x.transaction < transaction_limit → closes_cycle sources s work x ≡ meeting work x.transaction (sources s x)
  unfolding closes_cycle
  closes-under h = ap (λ b. b && meeting work x.transaction (sources s x)) (lt-ltb x.transaction transaction_limit h)

  pub closes-over : transaction_limit ≤ x.transaction → closes_cycle sources s work x ≡ false
  unfolding closes_cycle
  closes-over h = ap (λ b. b && meeting work x.transaction (sources s x)) (le-ltb x.transaction transaction_limit h)

  pub rows_under : x.transaction < transaction_limit → rows_with sources s work n x ≡ closed_rows work n x.transaction (sources s x)
  unfolding rows_with
  rows_under h = ap (λ b. cond b (closed_rows work n x.transaction (sources s x)) work) (lt-ltb x.transaction transaction_limit h)

  pub rows-over : transaction_limit ≤ x.transaction → rows_with sources s work n x ≡ work
  unfolding rows_with
  rows-over h = ap (λ b. cond b (closed_rows work n x.transaction (sources s x)) work) (le-ltb x.transaction transaction_limit h)

module _ {S : Type 0} (next : S → Labelled → S) (s : S) (x : Labelled) where
  pub kept_under : x.transaction < transaction_limit → kept_with next s x ≡ next s x
  unfolding kept_with
  kept_under h = ap (λ b. cond b (next s x) s) (lt-ltb x.transaction transaction_limit h)

  pub kept-over : transaction_limit ≤ x.transaction → kept_with next s x ≡ s
  unfolding kept_with
  kept-over h = ap (λ b. cond b (next s x) s) (le-ltb x.transaction transaction_limit h)

-- after records and one more
pub kept-snoc : {S : Type 0} (next : S → Labelled → S) (s : S) (xs : List Labelled) (x : Labelled) → kept_from next s (xs ++ (x ∷ [])) ≡ next (kept_from next s xs) x
unfolding kept_from
kept-snoc next s [] x = refl
kept-snoc next s (y ∷ xs) x = kept-snoc next (next s y) xs x

-- ---- the search, record by record

module _ {S : Type 0} (sources : S → Labelled → List ℕ) (next : S → Labelled → S) (k n : ℕ) (s : S) (work : List ℕ) where
  pub searched-none : searched_from sources next k n s work [] ≡ record { prefix = 0; rows = work }
  unfolding searched_from
  searched-none = refl

  module _ (x : Labelled) (xs : List Labelled) where
    -- it closes a cycle
    pub searched-hit : closes_cycle sources s work x ≡ true
        → searched_from sources next k n s work (x ∷ xs) ≡ record { prefix = suc k; rows = rows_with sources s work (looked x.transaction n) x }
    unfolding searched_from
    searched-hit e = rw (e, searched_from)

    -- it closes none
    pub searched-more : closes_cycle sources s work x ≡ false
        → searched_from sources next k n s work (x ∷ xs)
        ≡ searched_from sources next (suc k) (begun_with x.transaction n) (kept_with next s x) (rows_with sources s work (looked x.transaction n) x) xs
    unfolding searched_from
    searched-more e = rw (e, searched_from)

-- ---- the transactions are numbered as they begin

-- where n have begun before the records
abbrev Numbered : ℕ → List Labelled → Type 0
Numbered n [] = Unit {0}
Numbered n (x ∷ xs) = (x.transaction ≤ n) × Numbered (begun_with x.transaction n) xs

numbered-labels : (s : Tally) (es : List Event) → Sane s → (tally_from s es).count ≤ transaction_limit → Numbered s.count (labelled_from s es)
unfolding labelled_from tally_from
numbered-labels s [] sane few = tt
numbered-labels s (e ∷ es) sane few =
    let rises : (tallied s e).count ≤ (tally_from (tallied s e) es).count = tally-rises (tallied s e) es in
    let lt : belongs s e < (tallied s e).count = belongs-lt s e sane in
    let is : begun_with (belongs s e) s.count ≡ (tallied s e).count = by (begins s e)
    (λ b. begun_first (belongs s e) s.count (belongs-first s e b) (omega (arith, few)) ∙ sym (count-begun s e b))
    (λ b. begun-other (belongs s e) s.count (λ q. omega (arith, count-unbegun s e b)) ∙ sym (count-unbegun s e b)) in
    let below : belongs s e ≤ s.count = by (begins s e) (λ b. omega (arith, belongs-first s e b)) (λ b. omega (arith, count-unbegun s e b)) in
    (below, subst (λ n. Numbered n (labelled_from (tallied s e) es)) (sym is) (numbered-labels (tallied s e) es (sane-tallied s e sane) few))

-- a record's transaction is among those begun with it
begun-in : (a n m : ℕ) → a ≤ n → a < m → n ≤ m → m ≤ transaction_limit → (n ≤ begun_with a n) × (a < begun_with a n) × (begun_with a n ≤ m)
begun-in a n m le in-a most square = by-same a n
    (λ e. let q : begun_with a n ≡ suc n = begun_first a n e (omega arith) in (omega arith, omega arith, omega arith))
    (λ ne. let q : begun_with a n ≡ n = begun-other a n ne in (omega arith, omega arith, omega arith))

looked-few : (a n : ℕ) → n ≤ transaction_limit → looked a n ≤ transaction_limit
unfolding looked
looked-few a n h = by (eqb a n) (λ e. omega (arith, ap (λ b. cond b 0 n) e)) (λ e. omega (arith, ap (λ b. cond b 0 n) e))

-- ---- over labelled records

-- what is found, as `Found` has it of operations
record FoundIn (m : ℕ) (zs : List Labelled) (before : List ℕ) (r : Searched) : Type 0 where
  first : r.prefix ≡ first_of (λ k. cyclic (edges (take k zs))) 0 (from 1 (length zs))
  stands : r.prefix ≡ 0 → Stands m r.rows (edges zs)
  row : (k : ℕ) → r.prefix ≡ suc k → (b : ℕ) → b < 512
      → has r.rows (get_or (map (λ y. y.transaction) zs) k 0) b ≡ reaches (edges (take (suc k) zs)) b (get_or (map (λ y. y.transaction) zs) k 0)
  kept : Kept before r.rows

-- where the search stands with the records `done` behind it: none of their prefixes has a cycle
record Standing (m : ℕ) (zs : List Labelled) (start : List ℕ) (done : List Labelled) (work : List ℕ) (n : ℕ) : Type 0 where
  holds : RowsHold m done work n
  none : (j : ℕ) → 1 ≤ j → j ≤ length done → cyclic (edges (take j zs)) ≡ false
  kept : Kept start work

none_left : (m : ℕ) (zs : List Labelled) (start work : List ℕ) (n : ℕ) → Standing m zs start zs work n → FoundIn m zs start (record { prefix = 0; rows = work })
none_left m zs start work n at = record {
  first = sym (first-default (λ k. cyclic (edges (take k zs))) 0 (from 1 (length zs)) (λ j i. at.none j (from_le 1 (length zs) j i) (omega (arith, from-bound 1 (length zs) j i))));
  stands = λ z. at.holds.stands;
  row = λ k q. absurd (omega arith);
  kept = at.kept;
}

length-snoc : (xs : List Labelled) (x : Labelled) → length (xs ++ (x ∷ [])) ≡ suc (length xs)
length-snoc xs x = omega (arith, length-append xs (x ∷ []))

-- one record x more, whose sources are bs
module _ (m : ℕ) (start : List ℕ) (done : List Labelled) (x : Labelled) (later : List Labelled) (work : List ℕ) (n : ℕ) (bs : List ℕ) (right : RightSources done x bs)
    (at : Standing m (done ++ x ∷ later) start done work n) (in-x : x.transaction < m) where
  abbrev zs : List Labelled
  zs = done ++ x ∷ later

  abbrev all : List Labelled
  all = done ++ (x ∷ [])

  abbrev k : ℕ
  k = length done

  abbrev after : List ℕ
  after = closed_rows work (looked x.transaction n) x.transaction bs

  in-looked : looked x.transaction n ≤ 512
  in-looked = looked-few x.transaction n (omega (arith, at.holds.most, at.holds.square))

  prefix-is : take (suc k) zs ≡ all
  prefix-is = ap (take (suc k)) (sym (append_snoc done x later)) ∙ take_at all later (suc k) (length-snoc done x)

  cyclic-is : meeting work x.transaction bs ≡ cyclic (edges (take (suc k) zs))
  cyclic-is = meeting-right done x bs right m work n at.holds in-x ∙ ap (λ l. cyclic (edges l)) (sym prefix-is)

  kept-after : Kept start after
  kept-after = let kept : Kept work after = rows-kept done x bs right m work n at.holds in-x (looked x.transaction n) in-looked (looks-enough done x bs right m work n at.holds in-x) in
      kept_then start work after at.kept kept.size kept.rest

  long : length zs ≡ suc (k + length later)
  long = omega (arith, length-append done (x ∷ later))

  transaction-is : get_or (map (λ y. y.transaction) zs) k 0 ≡ x.transaction
  transaction-is = map_at (λ y. y.transaction) zs k x 0 (omega (arith, long)) ∙ ap (λ y. y.transaction) (get_or_at done x later x k refl)

  -- it closes a cycle
  cycle-closed : meeting work x.transaction bs ≡ true → FoundIn m zs start (record { prefix = suc k; rows = after })
  cycle-closed c = record {
    first = sym (first-is (λ j. cyclic (edges (take j zs))) 0 1 (length zs) (suc k) (omega arith) (omega (arith, long)) (sym cyclic-is ∙ c) (λ j lo hi. at.none j lo (omega arith)));
    stands = λ z. absurd (omega arith);
    row = λ j q b hb. let same : k ≡ j = omega arith in
        subst (λ i. has after (get_or (map (λ y. y.transaction) zs) i 0) b ≡ reaches (edges (take (suc i) zs)) b (get_or (map (λ y. y.transaction) zs) i 0)) same
        (subst (λ t. has after t b ≡ reaches (edges (take (suc k) zs)) b t) (sym transaction-is)
        ((rows-stand done x bs right m work n at.holds in-x (looked x.transaction n) in-looked (looks-enough done x bs right m work n at.holds in-x)).is b x.transaction hb in-x
        ∙ ap (λ l. reaches (edges l) b x.transaction) (sym prefix-is)));
    kept = kept-after;
  }

  -- it closes none
  none-closed : meeting work x.transaction bs ≡ false → x.transaction ≤ n → Standing m zs start all after (begun_with x.transaction n)
  none-closed c le =
      let in_c = begun-in x.transaction n m le in-x at.holds.most at.holds.square in
      record {
        holds = rows-hold done x bs right m work n at.holds in-x (looked x.transaction n) in-looked (looks-enough done x bs right m work n at.holds in-x)
            (begun_with x.transaction n) in_c.0 in_c.1 in_c.2 (sym (meeting-right done x bs right m work n at.holds in-x) ∙ c);
        none = λ j lo hi. by-same j (suc k)
            (λ q. ap (λ i. cyclic (edges (take i zs))) q ∙ sym cyclic-is ∙ c)
            (λ ne. at.none j lo (omega (arith, length-snoc done x)));
        kept = kept-after;
      }

module _ {S : Type 0} (sources : S → Labelled → List ℕ) (next : S → Labelled → S) (s₀ : S) where
  -- The engine's sources are right at every record of zs
  abbrev pub RightEngine : List Labelled → Type 0
  RightEngine zs = (xs : List Labelled) (x : Labelled) (later : List Labelled) → xs ++ x ∷ later ≡ zs → RightSources xs x (sources (kept_from next s₀ xs) x)

  -- the records `rest` are left
  rest-found : (m : ℕ) (start : List ℕ) (done rest : List Labelled) (k n : ℕ) (s : S) (work : List ℕ) → length done ≡ k → kept_from next s₀ done ≡ s → RightEngine (done ++ rest)
      → ((y : Labelled) → Among y (done ++ rest) → y.transaction < m) → Numbered n rest → Standing m (done ++ rest) start done work n
      → FoundIn m (done ++ rest) start (searched_from sources next k n s work rest)
  rest-found m start done [] k n s work is-k is-s right small numbered at =
      subst (λ r. FoundIn m (done ++ []) start r) (sym (searched-none sources next k n s work))
      (none_left m (done ++ []) start work n (subst (λ l. Standing m (done ++ []) start l work n) (sym (append-nil done)) at))
  rest-found m start done (x ∷ rest) k n s work is-k is-s right small numbered at =
      by (meeting work x.transaction bs)
      (λ c. subst (λ r. FoundIn m (done ++ x ∷ rest) start r)
      (sym (searched-hit sources next k n s work x rest (closes ∙ c) ∙ ap₂ {C = Searched} (λ j w. record { prefix = suc j; rows = w }) (sym is-k) rows))
      (cycle-closed m start done x rest work n bs ok at in-x c))
      (λ c. subst (λ r. FoundIn m (done ++ x ∷ rest) start r) (sym (searched-more sources next k n s work x rest (closes ∙ c)))
      (subst (λ l. FoundIn m l start (searched_from sources next (suc k) (begun_with x.transaction n) (kept_with next s x) (rows_with sources s work (looked x.transaction n) x) rest)) split
      (rest-found m start (done ++ (x ∷ [])) rest (suc k) (begun_with x.transaction n) (kept_with next s x) (rows_with sources s work (looked x.transaction n) x)
      (length-snoc done x ∙ ap suc is-k) (kept-snoc next s₀ done x ∙ ap (λ u. next u x) is-s ∙ sym (kept_under next s x in-512))
      (subst (λ l. RightEngine l) (sym split) right) (λ y i. small y (subst (λ l. Among y l) split i)) numbered.1
      (subst (λ l. Standing m l start (done ++ (x ∷ [])) (rows_with sources s work (looked x.transaction n) x) (begun_with x.transaction n)) (sym split)
      (subst (λ w. Standing m (done ++ x ∷ rest) start (done ++ (x ∷ [])) w (begun_with x.transaction n)) (sym rows) (none-closed m start done x rest work n bs ok at in-x c numbered.0))))))
    where
      bs : List ℕ
      bs = sources s x

      ok : RightSources done x bs
      ok = subst (λ u. RightSources done x (sources u x)) is-s (right done x rest refl)

      split : done ++ (x ∷ []) ++ rest ≡ done ++ x ∷ rest
      split = append_snoc done x rest

      in-x : x.transaction < m
      in-x = small x (among_second done (x ∷ rest) Among.top)

      in-512 : x.transaction < transaction_limit
      in-512 = omega (arith, in-x, at.holds.square)

      closes : closes_cycle sources s work x ≡ meeting work x.transaction bs
      closes = closes-under sources s work n x in-512

      rows : rows_with sources s work (looked x.transaction n) x ≡ closed_rows work (looked x.transaction n) x.transaction bs
      rows = rows_under sources s work (looked x.transaction n) x in-512

  -- Over the records of operations with at most 512 transactions, from rows that stand for no edges
  pub searched-right : (es : List Event) → transactions es ≤ transaction_limit → RightEngine (labelled es) → (work : List ℕ) → Stands (transactions es) work []
      → Found es work (searched sources next s₀ work (labelled es)).prefix (searched sources next s₀ work (labelled es)).rows
  unfolding kept_from none_yet transactions shortest cyclic_up_to edges_up_to transaction_at
  searched-right es few right work stands =
      let zs : List Labelled = labelled es in
      let r : Searched = searched sources next s₀ work zs in
      let cut : (k : ℕ) → edges (take k zs) ≡ edges (labelled (take k es)) = λ k. ap edges (sym (labelled-take none_yet k es)) in
      let at : Standing (transactions es) zs work [] work 0 = record {
        holds = none-hold (transactions es) work few stands;
        none = λ j lo hi. absurd (omega arith);
        kept = record { size = refl; rest = refl };
      } in
      let f : FoundIn (transactions es) zs work r = rest-found (transactions es) work [] zs 0 0 s₀ work refl refl right (labels-lt none_yet es sane-none) (numbered-labels none_yet es sane-none few) at in
      record {
        first = f.first ∙ first-same (λ k. cyclic (edges (take k zs))) (λ k. cyclic (edges (labelled (take k es)))) 0 (from 1 (length zs)) (λ k i. ap cyclic (cut k))
            ∙ ap (λ n. first_of (cyclic_up_to es) 0 (from 1 n)) (labelled-length none_yet es);
        stands = f.stands;
        row = λ k q b hb. f.row k q b hb ∙ ap (λ g. reaches g b (transaction_at es k)) (cut (suc k));
        size = f.kept.size;
        rest = f.kept.rest;
      }

-- ---- what is found

-- the same of other rows that were there before, with the same numbers past the square
pub found_from : (es : List Event) (start before : List ℕ) (prefix : ℕ) (work : List ℕ) → length start ≡ length before → drop work_size start ≡ drop work_size before
    → Found es start prefix work → Found es before prefix work
found_from es start before prefix work size rest f =
    record { first = f.first; stands = f.stands; row = f.row; size = f.size ∙ size; rest = f.rest ∙ rest }
