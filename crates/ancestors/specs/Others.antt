-- What an engine holds of the records so far: 0, or a transaction and 1.
use Rattle.std.specs.Prelude.{ℕ, pred, Bool, not, ◌&&◌, List, map, eqb}
use Rattle.lists.specs.Lists.{keep}

-- whether that is a transaction other than a
abbrev pub is_other : ℕ → ℕ → Bool
is_other a c = not (eqb c 0) && not (eqb (pred c) a)

-- the transactions other than a, of some that are held
unfoldable pub others : ℕ → List ℕ → List ℕ
others a cs = map pred (keep (is_other a) cs)
