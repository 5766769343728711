-- The numbers of an answer tell the answer: whatever a promise says in numbers, two answers with the same numbers are the same.
use Prim.Native.Nat.{ℕ}
use native.Mathlib.Omega.{arith}
use mathlib.Core.Path.{◌≡◌, refl, sym, ap, ap₂, ◌∙◌}
use mathlib.Core.List.{List, [], ◌∷◌}
use lib.ListN.{get_or}
use Rattle.std.specs.Prelude.{Option, None, Some, Result, Ok, Err}
use Rattle.record.specs.declared.Fault.{Fault}
use Rattle.record.specs.declared.Fault.TheVariants.{Length, TooLong, Output, WorkArea, Mark, Kind, Field, Life, Wait, Holder, Child, Value, Transactions, Form, Records}
use Rattle.record.specs.declared.Refusal.{Refusal as Given}
use Rattle.record.specs.Answers.{number, refusal_of, refusal_in, number_in, told, bytes_or_refused}
use Rattle.record.proofs.Laws.{number-some}

-- a fault by its number
abbrev faults : List Fault
faults = Length ∷ Length ∷ TooLong ∷ Output ∷ WorkArea ∷ Mark ∷ Kind ∷ Field ∷ Life ∷ Wait ∷ Holder ∷ Child ∷ Value ∷ Transactions ∷ Form ∷ Records ∷ []

fault-is : (f : Fault) → get_or faults (number f) Length ≡ f
fault-is Length = refl
fault-is TooLong = refl
fault-is Output = refl
fault-is WorkArea = refl
fault-is Mark = refl
fault-is Kind = refl
fault-is Field = refl
fault-is Life = refl
fault-is Wait = refl
fault-is Holder = refl
fault-is Child = refl
fault-is Value = refl
fault-is Transactions = refl
fault-is Form = refl
fault-is Records = refl

pub faults-same : (f g : Fault) → number f ≡ number g → f ≡ g
faults-same f g e = sym (fault-is f) ∙ ap (λ n. get_or faults n Length) e ∙ fault-is g

pub refusals-same : (r s : Given) → number r.fault ≡ number s.fault → r.place ≡ s.place → r ≡ s
refusals-same r s p q = ap₂ {C = Given} (λ f k. record { fault = f; place = k }) (faults-same r.fault s.fault p) q

pub bytes-same : (a b : Result ℕ Given) → bytes_or_refused a ≡ bytes_or_refused b → a ≡ b
bytes-same (Ok m) (Ok n) e = ap Ok (ap (λ x. x.first) e)
bytes-same (Ok m) (Err s) e = absurd (omega (arith, ap (λ x. x.kind) e))
bytes-same (Err r) (Ok n) e = absurd (omega (arith, ap (λ x. x.kind) e))
bytes-same (Err r) (Err s) e = ap Err (refusals-same r s (ap (λ x. x.first) e) (ap (λ x. x.second) e))

-- the refusal as a definition has it
given-same : (r s : Given) → refusal_of r ≡ refusal_of s → r ≡ s
given-same r s e = refusals-same r s (ap (λ x. x.number) e) (ap (λ x. x.place) e)

pub told-same : {A : Type 0} (a b : Result A Given) → told a ≡ told b → a ≡ b
told-same (Ok x) (Ok y) e = cc
told-same (Ok x) (Err s) e = cc
told-same (Err r) (Ok y) e = cc
told-same (Err r) (Err s) e = ap Err (given-same r s cc)

-- a refusal or none, and a check's fault or none: none is number 0
pub refusal-same : (a b : Option Given) → refusal_in a ≡ refusal_in b → a ≡ b
refusal-same None None e = refl
refusal-same None (Some s) e = absurd (number-some s.fault (sym (ap (λ x. x.number) e)))
refusal-same (Some r) None e = absurd (number-some r.fault (ap (λ x. x.number) e))
refusal-same (Some r) (Some s) e = ap Some (given-same r s e)

pub passed-same : (a b : Result Unit Fault) → number_in a ≡ number_in b → a ≡ b
passed-same (Ok u) (Ok v) e = refl
passed-same (Ok u) (Err g) e = absurd (number-some g (sym e))
passed-same (Err f) (Ok v) e = absurd (number-some f e)
passed-same (Err f) (Err g) e = ap Err (faults-same f g e)
