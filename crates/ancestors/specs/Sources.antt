-- What crates promise one another about the sources of a record: the transactions from which it makes an edge into its own transaction a, what they
-- do to the rows of the work area, and whether a cycle closes. A reader of the public promises need not read this.
use Rattle.std.specs.Prelude.{ℕ, zero, suc, pred, ◌≡◌, Bool, false, cond, not, ◌&&◌, ◌||◌, List, [], ◌∷◌, eqb, ltb}
use Rattle.lists.specs.Lists.{some_of}
use Rattle.rows.specs.Bits.{has, joined}
use Rattle.graph.specs.Transactions.{transaction_limit}
use Rattle.ancestors.specs.declared.Joined.{Joined}
use Rattle.ancestors.specs.declared.Joined.TheVariants.{Nothing, Source, Cycle}
use Rattle.ancestors.specs.Others.{is_other}

-- whether a reaches the transaction that is held, another than a
abbrev pub leads : List ℕ → ℕ → ℕ → Bool
leads work a c = is_other a c && has work (pred c) a

-- ---- the rows

-- The rows as sources of transaction a come in: each source's row is joined into row a, unless row a has its bit already
unfoldable pub gathered : List ℕ → ℕ → List ℕ → List ℕ
gathered work a [] = work
gathered work a (b ∷ bs) = gathered (cond (has work a b) work (joined work a b)) a bs

-- Whether a cycle is seen as they come in: one that row a hasn't the bit of yet is reached from a
unfoldable pub meeting : List ℕ → ℕ → List ℕ → Bool
meeting work a [] = false
meeting work a (b ∷ bs) = (not (has work a b) && has work b a) || meeting (cond (has work a b) work (joined work a b)) a bs

-- whether there is one that row a hasn't the bit of
abbrev pub some_new : List ℕ → ℕ → List ℕ → Bool
some_new work a bs = some_of (λ b. not (has work a b)) bs

-- row a is joined into each of the first n rows that has bit a
unfoldable pub spread_to : ℕ → List ℕ → ℕ → List ℕ
spread_to zero work a = work
spread_to (suc n) work a = let w : List ℕ = spread_to n work a in cond (has w n a) (joined w n a) w

-- The rows with the edges from all sources, where there are n rows to look at. Where row a has the bits of all of them, nothing changes
unfoldable pub closed_rows : List ℕ → ℕ → ℕ → List ℕ → List ℕ
closed_rows work n a bs = cond (some_new work a bs) (spread_to n (gathered work a bs) a) work

-- the rows to look at, where n transactions have begun before a record of transaction a: none, where the record begins it and so nobody is reached from it
unfoldable pub looked : ℕ → ℕ → ℕ
looked a n = cond (eqb a n) 0 n

-- how many have begun with the record; there are 512 at most
unfoldable pub begun_with : ℕ → ℕ → ℕ
begun_with a n = cond (eqb a n && ltb a transaction_limit) (suc n) n

-- ---- what comes in, in a number

abbrev pub code : Joined → ℕ
code Nothing = 0
code Source = 1
code Cycle = 2

-- 0 where none is new, 2 where one that is new is reached from a, else 1
abbrev pub code_of : Bool → Bool → ℕ
code_of new back = cond new (cond back 2 1) 0

-- the greater of two
abbrev pub more : ℕ → ℕ → ℕ
more x y = cond (ltb x y) y x

-- What joining the rows of sources into row a answers and leaves
pub record Joins (before : List ℕ) (a : ℕ) (bs : List ℕ) (r : ℕ) (after : List ℕ) : Type 0 where
  pub code : r ≡ code_of (some_new before a bs) (meeting before a bs)
  pub rows : after ≡ gathered before a bs

-- Everything above, opened at once, for a proof by computation: `unfolding opened`
unfoldable pub opened : Unit {0}
unfolding gathered meeting spread_to closed_rows looked begun_with
opened = tt
