-- What the private functions promise. Nothing here has to be believed: the public promises stand in Line and File.
use Rattle.std.specs.Prelude.{ℕ, cond, ◌&&◌, List, [], ◌∷◌, ◌++◌, leb, Option, None, Some, Result, Ok, Err}
use Rattle.lists.specs.Lists.{all_of, each}
use Rattle.record.specs.declared.Event.{Event}
use Rattle.record.specs.declared.Refusal.{Refusal as Given}
use Rattle.record.specs.Faults.{Refusal}
use Rattle.record.specs.Answers.{refusal_of}
use Rattle.decimal.specs.Decimal.{decimal, is_digit, value_from, value_of, is_number}
use Rattle.text.specs.Line.{space, formless}
use Rattle.text.specs.File.{found, events}

-- the number that a run of digits after digits worth v is; none where there is another byte or it passes the limit
unfoldable pub run_in : ℕ → ℕ → List ℕ → Option ℕ
run_in limit v w = cond (all_of is_digit w && leb (value_from v w) limit) (Some (value_from v w)) None

-- the number that a word is within the limit
unfoldable pub number_in : ℕ → List ℕ → Option ℕ
number_in limit w = cond (is_number limit w) (Some (value_of w)) None

-- the number of a kind that is named; 0 for none
abbrev pub kind_in : Option ℕ → ℕ
kind_in None = 0
kind_in (Some k) = k

-- what a line is read as; none is number 14
abbrev pub event_in : Option Event → Result Event Refusal
event_in None = formless
event_in (Some e) = Ok e

-- numbers, each after a space
unfoldable pub spaced_out : List ℕ → List ℕ
spaced_out [] = []
spaced_out (n ∷ ns) = space ∷ decimal n ++ spaced_out ns

-- ---- Files, part by part

-- the first refusal, in numbers; number 0 where there is none
abbrev pub refusal_in : Result Unit Given → Refusal
refusal_in (Ok u) = record { number = 0; place = 0 }
refusal_in (Err r) = refusal_of r

-- what is written for one part: nothing where it is refused
unfoldable pub part_bytes : (Event → List ℕ) → Result Event Refusal → List ℕ
part_bytes put d = each put (found d)

-- what is written for all parts
unfoldable pub all_bytes : (Event → List ℕ) → (List ℕ → Result Event Refusal) → List (List ℕ) → List ℕ
all_bytes put read ps = each put (events read ps)
