-- Any two answers that a promise permits are equal: the numbers of an answer tell the answer.
use native.Mathlib.Omega.{arith}
use mathlib.Core.Path.{◌≡◌, ap, ap₂}
use Rattle.record.specs.Answers.{Numbers}
use Rattle.record.proofs.Numbers.{refusals-same}
use Rattle.checker.specs.declared.Answer.{Answer}
use Rattle.checker.specs.declared.Answer.TheVariants.{Cooperable, Violation, Refused}
use Rattle.checker.specs.Verdict.{numbers}

-- the parts of equal numbers
kinds : {m n : Numbers} → m ≡ n → m.kind ≡ n.kind
kinds e = ap (λ n. n.kind) e

firsts : {m n : Numbers} → m ≡ n → m.first ≡ n.first
firsts e = ap (λ n. n.first) e

seconds : {m n : Numbers} → m ≡ n → m.second ≡ n.second
seconds e = ap (λ n. n.second) e

pub answers-same : (a b : Answer) → numbers a ≡ numbers b → a ≡ b
answers-same (Cooperable n t) (Cooperable m u) e = ap₂ Cooperable (firsts e) (seconds e)
answers-same (Cooperable n t) (Violation k l) e = absurd (omega (arith, kinds e))
answers-same (Cooperable n t) (Refused r) e = absurd (omega (arith, kinds e))
answers-same (Violation k l) (Cooperable m u) e = absurd (omega (arith, kinds e))
answers-same (Violation k l) (Violation j m) e = ap₂ Violation (firsts e) (seconds e)
answers-same (Violation k l) (Refused r) e = absurd (omega (arith, kinds e))
answers-same (Refused r) (Cooperable m u) e = absurd (omega (arith, kinds e))
answers-same (Refused r) (Violation j m) e = absurd (omega (arith, kinds e))
answers-same (Refused r) (Refused s) e = ap Refused (refusals-same r s (firsts e) (seconds e))
