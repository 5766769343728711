-- What the records of each transaction are linked by: for the walk along the cycle, and for the checker's writing.
-- A reader of the public promises need not read this.
use Rattle.std.specs.Prelude.{ℕ, suc, ◌<◌, ◌≤◌, ◌≡◌, true, false, List, [], ◌∷◌, eqb, length, get_or, drop}
use Rattle.graph.specs.declared.Labelled.{Labelled}
use Rattle.graph.specs.Transactions.{transaction_limit}
use Rattle.naming.specs.Naming.{transaction_at}

-- what stands where there is no record
abbrev pub no_record : ℕ
no_record = 1024

-- the number of the first record of transaction a, where the first of the list is record k
unfoldable pub first_in : ℕ → List Labelled → ℕ → ℕ
first_in k [] a = no_record
first_in k (x ∷ xs) a = elim (eqb x.transaction a) [ true ↦ k | false ↦ first_in (suc k) xs a ]

-- and of its first from record i on
abbrev pub first_from : List Labelled → ℕ → ℕ → ℕ
first_from xs a i = first_in i (drop i xs) a

-- record k is one of those from record i on that are linked: those of 512 transactions
abbrev pub Within : List Labelled → ℕ → ℕ → Type 0
Within xs i k = (i ≤ k) × (k < length xs) × (transaction_at xs k < transaction_limit)

-- Arrays that link the records from record i on: the first of each of 512 transactions, after each record that is linked the next of its transaction,
-- and in every other place none
pub record Linked (xs : List Labelled) (i : ℕ) (firsts nexts : List ℕ) : Type 0 where
  pub firsts-long : length firsts ≡ transaction_limit
  pub nexts-long : length nexts ≡ 1024
  pub first-is : (a : ℕ) → a < transaction_limit → get_or firsts a no_record ≡ first_from xs a i
  pub next-is : (k : ℕ) → Within xs i k → get_or nexts k no_record ≡ first_from xs (transaction_at xs k) (suc k)
  pub none-is : (k : ℕ) → (Within xs i k → ⊥) → get_or nexts k no_record ≡ no_record
