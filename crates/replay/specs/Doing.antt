-- What a function that does an operation promises
use Rattle.std.specs.Prelude.{◌≡◌, ℕ, cond, List, eqb}
use Rattle.record.specs.Faults.{Check, first_fault}
use Rattle.replay.specs.declared.State.{State}

-- Where it must find `checks` and a possible operation leaves `next`: its number is of the first check that isn't passed, and a refused operation leaves the state
abbrev pub Does : State → List Check → State → ℕ → State → Type 0
Does before checks next number after = (number ≡ first_fault checks) × (after ≡ cond (eqb number 0) next before)
