-- Any two answers that a promise permits are equal: the numbers of an answer tell the answer.
use Prim.Native.Nat.{ℕ}
use mathlib.Core.Path.{◌≡◌}
use Rattle.std.specs.Prelude.{Result}
use Rattle.record.specs.declared.Refusal.{Refusal as Given}
use Rattle.record.specs.Answers.{bytes_or_refused}
use Rattle.record.proofs.Numbers.{bytes-same}

pub drawn-same : (a b : Result ℕ Given) → bytes_or_refused a ≡ bytes_or_refused b → a ≡ b
drawn-same = bytes-same
