-- What an answer says in numbers, and how a call ends: every answer, of whichever function, is told in these words.
use Rattle.std.specs.Prelude.{ℕ, List, Option, None, Some, Result, Ok, Err}
use Rattle.record.specs.declared.Fault.{Fault}
use Rattle.record.specs.declared.Fault.TheVariants.{Length, TooLong, Output, WorkArea, Mark, Kind, Field, Life, Wait, Holder, Child, Value, Transactions, Form, Records}
use Rattle.record.specs.declared.Refusal.{Refusal as Given}
use Rattle.record.specs.Faults.{Refusal}

-- The numbers of the faults
abbrev pub number : Fault → ℕ
number Length = 1
number TooLong = 2
number Output = 3
number WorkArea = 4
number Mark = 5
number Kind = 6
number Field = 7
number Life = 8
number Wait = 9
number Holder = 10
number Child = 11
number Value = 12
number Transactions = 13
number Form = 14
number Records = 15

-- A refusal that is given, in numbers; none is number 0
abbrev pub refusal_of : Given → Refusal
refusal_of r = record { number = number r.fault; place = r.place }

abbrev pub refusal_in : Option Given → Refusal
refusal_in None = record { number = 0; place = 0 }
refusal_in (Some r) = refusal_of r

-- the number of a check's fault; 0 where it is passed
abbrev pub number_in : Result Unit Fault → ℕ
number_in (Ok u) = 0
number_in (Err f) = number f

-- a fault that isn't at a record
abbrev pub at_no_record : Fault → Given
at_no_record f = record { fault = f; place = 0 }

-- what is found, with its refusal in numbers
abbrev pub told : {A : Type 0} → Result A Given → Result A Refusal
told (Ok x) = Ok x
told (Err r) = Err (refusal_of r)

-- This paper's number and values for each case of an answer: the kind, and its first two numbers. Refused is kind 2 everywhere: the number, and the
-- record (or line) that it is given at
pub record Numbers : Type 0 where
  pub kind : ℕ
  pub first : ℕ
  pub second : ℕ

abbrev pub refused_as : Refusal → Numbers
refused_as r = record { kind = 2; first = r.number; second = r.place }

-- This paper's number and values where a call writes.  0 written: the number of bytes.  2 refused: number and record
abbrev pub bytes_or_refused : Result ℕ Given → Numbers
bytes_or_refused (Ok bytes) = record { kind = 0; first = bytes; second = 0 }
bytes_or_refused (Err r) = refused_as (refusal_of r)

-- The answer, and the output and the work area at the end
pub record Ending : Type 0 where
  pub answer : Numbers
  pub out : List ℕ
  pub work : List ℕ
