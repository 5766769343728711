-- The examples P1 to P11 of document 01, and one of its slips, as one table, proved of the definitions by computing them.
use Rattle.std.specs.Prelude.{ℕ, ◌≡◌, refl, List, [], ◌∷◌, ◌++◌, replicate}
use Rattle.record.specs.Faults as Faults
use Rattle.record.specs.Record as Record
use Rattle.replay.specs.Machine as Machine
use Rattle.lists.specs.Lists as Lists
use Rattle.trace.specs.Paths as Paths
use Rattle.trace.specs.Order as Order
use Rattle.graph.specs.Conflict as Conflict
use Rattle.graph.specs.Transactions as Transactions
use Rattle.graph.specs.Edges as Edges
use Rattle.graph.specs.Serial as Serial
use Rattle.graph.specs.Violation as Violations
use Rattle.checker.specs.Verdict as Verdicts
use Rattle.looking.specs.Refusals as Refusals
use Rattle.checker.specs.Judged as Whole
use Rattle.record.specs.Answers.{Numbers}
use Rattle.checker.specs.Judged.{judged}

-- Lines of a recording: the thread, then what is touched, then the value. They are written out as bytes, and not by `encoded`
abbrev Line : Type 0
Line = List ℕ

abbrev line : ℕ → ℕ → ℕ → ℕ → Line
line k t x v = 0xA7 ∷ 0x7A ∷ k ∷ t ∷ x ∷ 0 ∷ v ∷ 0 ∷ []

abbrev read : ℕ → ℕ → ℕ → Line
read t x v = line 1 t x v

abbrev write : ℕ → ℕ → ℕ → Line
write t x v = line 2 t x v

abbrev acquire : ℕ → ℕ → Line
acquire t m = line 3 t m 0

abbrev release : ℕ → ℕ → Line
release t m = line 4 t m 0

abbrev prewait : ℕ → ℕ → Line
prewait t m = line 5 t m 0

abbrev postwait : ℕ → ℕ → Line
postwait t m = line 6 t m 0

abbrev notify : ℕ → ℕ → Line
notify t m = line 7 t m 0

abbrev fork : ℕ → ℕ → Line
fork t u = line 8 t u 0

abbrev join : ℕ → ℕ → Line
join t u = line 9 t u 0

abbrev yield : ℕ → Line
yield t = line 10 t 0 0

abbrev bytes : List Line → List ℕ
bytes [] = []
bytes (l ∷ ls) = l ++ bytes ls

-- what stands in the output and in the work area before: 80 bytes, and 4,097 numbers, none of them 0
abbrev out_before : List ℕ
out_before = replicate 80 0xEE

abbrev work_before : List ℕ
work_before = replicate 4097 0x77

-- A row: the recording, the answer, and the output and the work area at the end
record Example : Type 0 where
  recording : List Line
  answer : Numbers
  out : List ℕ
  work : List ℕ

-- the work area after cooperable or violation: 4,096 numbers 0, and the rest as it was
abbrev cleared : List ℕ
cleared = replicate 4096 0 ++ (0x77 ∷ [])

-- n bytes of the output as they were
abbrev rest : ℕ → List ℕ
rest n = replicate n 0xEE

abbrev cooperable : List Line → ℕ → ℕ → List Line → ℕ → Example
cooperable ls n m o r = record { recording = ls; answer = record { kind = 0; first = n; second = m }; out = bytes o ++ rest r; work = cleared }

abbrev violation : List Line → ℕ → ℕ → List ℕ → ℕ → Example
violation ls k n o r = record { recording = ls; answer = record { kind = 1; first = k; second = n }; out = o ++ rest r; work = cleared }

abbrev refused : List Line → ℕ → ℕ → Example
refused ls n k = record { recording = ls; answer = record { kind = 2; first = n; second = k }; out = out_before; work = work_before }

abbrev table : List Example
table =
    -- P1
    cooperable [] 0 0 [] 80
    -- P2
    ∷ cooperable (write 0 3 5 ∷ []) 1 1 (write 0 3 5 ∷ []) 72
    -- P3
    ∷ violation (fork 0 1 ∷ read 0 0 0 ∷ write 1 0 1 ∷ write 0 0 1 ∷ []) 3 2 (0 ∷ 0 ∷ 1 ∷ 0 ∷ []) 76
    -- P4
    ∷ cooperable
    (fork 0 1 ∷ read 0 0 0 ∷ write 1 0 1 ∷ yield 0 ∷ write 0 0 1 ∷ []) 5 3
    (fork 0 1 ∷ read 0 0 0 ∷ yield 0 ∷ write 1 0 1 ∷ write 0 0 1 ∷ []) 40
    -- P5
    ∷ cooperable
    (fork 0 1 ∷ read 0 0 0 ∷ read 1 0 0 ∷ read 0 0 0 ∷ []) 4 2
    (fork 0 1 ∷ read 0 0 0 ∷ read 0 0 0 ∷ read 1 0 0 ∷ []) 48
    -- P6
    ∷ violation
    (fork 0 1 ∷ acquire 0 0 ∷ release 0 0 ∷ acquire 1 0 ∷ release 1 0 ∷ acquire 0 0 ∷ []) 5 2
    (0 ∷ 0 ∷ 1 ∷ 0 ∷ []) 76
    -- P7
    ∷ cooperable
    (fork 0 1 ∷ acquire 0 0 ∷ prewait 0 0 ∷ acquire 1 0 ∷ notify 1 0 ∷ release 1 0 ∷ postwait 0 0 ∷ release 0 0 ∷ []) 8 3
    (fork 0 1 ∷ acquire 0 0 ∷ prewait 0 0 ∷ acquire 1 0 ∷ notify 1 0 ∷ release 1 0 ∷ postwait 0 0 ∷ release 0 0 ∷ []) 16
    -- P8
    ∷ cooperable
    (fork 0 1 ∷ write 1 0 1 ∷ join 0 1 ∷ read 0 0 1 ∷ []) 4 3
    (fork 0 1 ∷ write 1 0 1 ∷ join 0 1 ∷ read 0 0 1 ∷ []) 48
    -- P9
    ∷ violation
    (fork 0 1 ∷ fork 0 2 ∷ yield 0 ∷ write 0 0 1 ∷ read 1 0 1 ∷ write 1 1 1 ∷ read 2 1 1 ∷ write 2 2 1 ∷ read 0 2 1 ∷ []) 8 3
    (1 ∷ 0 ∷ 2 ∷ 0 ∷ 3 ∷ 0 ∷ []) 74
    -- P10, since recordings may start late
    ∷ cooperable (read 0 0 7 ∷ []) 1 1 (read 0 0 7 ∷ []) 72
    -- P11
    ∷ refused (acquire 0 0 ∷ acquire 0 0 ∷ []) 10 1
    -- P3 with an impossible record behind the violation
    ∷ refused (fork 0 1 ∷ read 0 0 0 ∷ write 1 0 1 ∷ write 0 0 1 ∷ read 0 0 7 ∷ []) 12 4
    ∷ []

-- the definitions give what a row says
abbrev Right : Example → Type 0
Right x = judged (bytes x.recording) out_before work_before ≡ record { answer = x.answer; out = x.out; work = x.work }

abbrev All : (Example → Type 0) → List Example → Type 0
All P [] = Unit {0}
All P (x ∷ xs) = P x × All P xs

pub examples : All Right table
unfolding Faults.opened Record.opened Machine.opened Lists.opened Paths.opened Order.opened Conflict.opened Transactions.opened Edges.opened Serial.opened Violations.opened Verdicts.opened Refusals.opened Whole.opened
examples = (refl, (refl, (refl, (refl, (refl, (refl, (refl, (refl, (refl, (refl, (refl, (refl, tt))))))))))))
