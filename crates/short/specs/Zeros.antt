-- Zeros stand behind the bytes, so the bytes give the buffer back.
use Rattle.std.specs.Prelude.{ℕ, ◌≡◌, ◌-◌, ◌≤◌, ◌++◌, List, length, take, drop, replicate}
use mathlib.Core.Path.{sym, ap, ◌∙◌}
use native.Mathlib.Omega.{arith}
use Rattle.std.proofs.lemmas.List.{take-append-drop, length-take-le}

abbrev pub Filled : ℕ → List ℕ → ℕ → Type 0
Filled n bytes len = (len ≤ n) × (length bytes ≡ n) × (drop len bytes ≡ replicate (n - len) 0)

pub length-back : (n : ℕ) (bytes : List ℕ) (len : ℕ) → Filled n bytes len → length (take len bytes) ≡ len
length-back n bytes len h = length-take-le len bytes (omega (arith, h.0, h.1))

pub filled-back : (n : ℕ) (bytes : List ℕ) (len : ℕ) → Filled n bytes len → take len bytes ++ replicate (n - length (take len bytes)) 0 ≡ bytes
filled-back n bytes len h =
    ap (λ k. take len bytes ++ replicate (n - k) 0) (length-back n bytes len h) ∙ ap (λ zeros. take len bytes ++ zeros) (sym h.2) ∙ take-append-drop len bytes
