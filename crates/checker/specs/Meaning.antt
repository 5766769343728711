-- What document 02, L7, demands of the second engine, of every recording that isn't refused and with no other condition. Its proof is `right` in
-- proofs/Right. That both judgements are the same on every input is their contracts: each is equality with `judged`, and the numbers of an answer tell
-- the answer (proofs/Answers).
use Rattle.std.specs.Prelude.{ℕ, ◌≡◌, List}
use Rattle.second.specs.Meaning as Second
use Rattle.looking.specs.Refusals.{events}
use Rattle.checker.specs.Judged.{refusal}

-- every prefix: the second engine's edges are some of 01's, its paths are those of 01's edges, and so are its cycles
abbrev pub Right : Type 0
Right = (input out work : List ℕ) → (refusal input out work).number ≡ 0 → (k : ℕ) → Second.Right (events input) k
