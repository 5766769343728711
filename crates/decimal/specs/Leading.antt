-- What stands before a number's last digits. A reader of the public promises need not read this.
use Rattle.std.specs.Prelude.{ℕ, zero, suc, List, []}
use Rattle.decimal.specs.Decimal.{decimal}

-- a number's digits, and none of 0
abbrev pub leading : ℕ → List ℕ
leading n = elim n [ zero ↦ [] | suc m ↦ decimal (suc m) ]
