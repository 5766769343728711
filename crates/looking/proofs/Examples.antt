-- Document 01's examples of refusals, and records with two faults, of which the lowest number is given: one table, proved of the definitions by
-- computing them.
use Prim.Native.Nat.{ℕ, zero, suc}
use mathlib.Core.Path.{◌≡◌, refl}
use mathlib.Core.List.{List, [], ◌∷◌, ◌++◌}
use lib.ListN.{replicate}
use Rattle.record.specs.Faults.{Refusal}
use Rattle.record.specs.Faults as Faults
use Rattle.record.specs.Record as Record
use Rattle.replay.specs.Machine as Machine
use Rattle.graph.specs.Conflict as Conflict
use Rattle.graph.specs.Transactions as Transactions
use Rattle.looking.specs.Refusals as Refusals
use Rattle.looking.specs.Refusals.{input_checks, refused_by}

-- a record's bytes: kind, thread, target, value
abbrev line : ℕ → ℕ → ℕ → ℕ → List ℕ
line k t x v = 0xA7 ∷ 0x7A ∷ k ∷ t ∷ x ∷ 0 ∷ v ∷ 0 ∷ []

-- n yields of thread 0, and then others
abbrev yields : ℕ → List ℕ → List ℕ
yields zero l = l
yields (suc n) l = line 10 0 0 0 ++ yields n l

-- A row: the bytes, and the refusal, of number 0 where there is none
record Example : Type 0 where
  bytes : List ℕ
  refusal : Refusal

abbrev example : List ℕ → ℕ → ℕ → Example
example bs n k = record { bytes = bs; refusal = record { number = n; place = k } }

abbrev table : List Example
table =
    -- the empty recording; 7, 8,193 and 8,200 bytes
    example [] 0 0
    ∷ example (replicate 7 0) 1 0
    ∷ example (replicate 8193 0) 1 0
    ∷ example (replicate 8200 0) 2 0
    -- thread 16
    ∷ example (line 1 16 0 0) 7 0
    -- P11
    ∷ example (line 3 0 0 0 ++ line 3 0 0 0) 10 1
    -- 512 yields, and 1,024
    ∷ example (yields 512 []) 0 0
    ∷ example (yields 1024 []) 13 512
    -- 5 and 8: another mark, of a thread that isn't forked
    ∷ example (0xA7 ∷ 0x7B ∷ 1 ∷ 3 ∷ 0 ∷ 0 ∷ 0 ∷ 0 ∷ []) 5 0
    -- 9 and 11: a waiting thread joins itself
    ∷ example (line 3 0 0 0 ++ line 5 0 0 0 ++ line 9 0 0 0) 9 2
    -- 12 and 13: a wrong read that would begin a 513th transaction
    ∷ example (line 2 0 0 1 ++ yields 512 (line 1 0 0 2)) 12 513
    ∷ []

-- the definitions give what a row says
abbrev Right : Example → Type 0
Right x = refused_by (input_checks x.bytes) x.bytes ≡ x.refusal

abbrev All : (Example → Type 0) → List Example → Type 0
All P [] = Unit {0}
All P (x ∷ xs) = P x × All P xs

pub examples : All Right table
unfolding Faults.opened Record.opened Machine.opened Conflict.opened Transactions.opened Refusals.opened
examples = (refl, (refl, (refl, (refl, (refl, (refl, (refl, (refl, (refl, (refl, (refl, tt)))))))))))
