-- The exported answers are the answers in numbers.
use Rattle.std.specs.Prelude.{ℕ, List, [], ◌∷◌, get_or}
use Rattle.record.specs.Answers.{Numbers}
use Rattle.reasons.specs.Why as Why
use Rattle.quelohuite.specs.declared.Told.{Told}
use Rattle.quelohuite.specs.declared.ToldWhy.{ToldWhy}

abbrev pub told : Told → Numbers
told r = record { kind = r.kind; first = r.first; second = r.second }

-- what is told of an edge: a kind and four values
abbrev pub told_why : ToldWhy → List ℕ
told_why r = r.kind ∷ r.first ∷ r.second ∷ r.reason ∷ r.number ∷ []

-- the same of an answer in numbers: 0 where its kind has fewer values
abbrev pub in_five : Why.Numbers → List ℕ
in_five w = w.kind ∷ get_or w.values 0 0 ∷ get_or w.values 1 0 ∷ get_or w.values 2 0 ∷ get_or w.values 3 0 ∷ []
