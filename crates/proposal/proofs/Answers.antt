-- Any two answers that the promise permits are equal: the numbers of an answer tell the answer.
use Prim.Native.Nat.{ℕ}
use native.Mathlib.Omega.{arith}
use mathlib.Core.Path.{◌≡◌, ap, ap₂}
use Rattle.std.specs.Prelude.{Result, Ok, Err}
use Rattle.record.specs.declared.Refusal.{Refusal as Given}
use Rattle.record.proofs.Numbers.{refusals-same}
use Rattle.proposal.specs.declared.Finished.{Finished}
use Rattle.proposal.specs.Proposed.{numbers}

pub answers-same : (a b : Result Finished Given) → numbers a ≡ numbers b → a ≡ b
answers-same (Ok f) (Ok g) e = ap₂ (λ (n m : ℕ). Ok (record { bytes = n; yields = m })) (ap (λ x. x.first) e) (ap (λ x. x.second) e)
answers-same (Ok f) (Err r) e = absurd (omega (arith, ap (λ x. x.kind) e))
answers-same (Err r) (Ok f) e = absurd (omega (arith, ap (λ x. x.kind) e))
answers-same (Err r) (Err s) e = ap Err (refusals-same r s (ap (λ x. x.first) e) (ap (λ x. x.second) e))
