-- Examples of pictures, proved of the definitions by computing them: P3 and P9 of document 01, which are violations, and every refusal of a sort.
use Rattle.std.specs.Prelude.{ℕ, ◌+◌, ◌≡◌, refl, List, [], ◌∷◌, ◌++◌, replicate}
use Rattle.record.specs.declared.Event.{Event}
use Rattle.record.specs.declared.Op.{Op}
use Rattle.record.specs.declared.Op.TheVariants.{Read, Write, Fork, Yield}
use Rattle.record.specs.Faults as Faults
use Rattle.record.specs.Record as Record
use Rattle.record.specs.Answers.{Numbers}
use Rattle.replay.specs.Machine as Machine
use Rattle.lists.specs.Lists as Lists
use Rattle.trace.specs.Paths as Paths
use Rattle.graph.specs.Conflict as Conflict
use Rattle.graph.specs.Transactions as Transactions
use Rattle.graph.specs.Edges as Edges
use Rattle.looking.specs.Refusals as Refusals
use Rattle.decimal.specs.Decimal as Decimal
use Rattle.picture.specs.Picture as Pictures
use Rattle.picture.specs.Picture.{edge, drawing, picture}
use Rattle.picture.specs.Drawn as Whole
use Rattle.picture.specs.Drawn.{drawn}

-- ---- Pictures of histories

abbrev event : ℕ → Op → Event
event t o = record { thread = t; op = o }

-- the lines of small numbers, byte by byte
abbrev node : ℕ → List ℕ
node a = (48 + a) ∷ 59 ∷ 10 ∷ []

abbrev link : ℕ → ℕ → List ℕ
link a b = (48 + a) ∷ 32 ∷ 45 ∷ 62 ∷ 32 ∷ (48 + b) ∷ 59 ∷ 10 ∷ []

-- `digraph {`, what is between, and `}`
abbrev between : List ℕ → List ℕ
between l = (100 ∷ 105 ∷ 103 ∷ 114 ∷ 97 ∷ 112 ∷ 104 ∷ 32 ∷ 123 ∷ 10 ∷ []) ++ (l ++ (125 ∷ 10 ∷ []))

abbrev p3 : List Event
p3 = event 0 (Fork 1) ∷ event 0 (Read 0 0) ∷ event 1 (Write 0 1) ∷ event 0 (Write 0 1) ∷ []

abbrev p9 : List Event
p9 =
    event 0 (Fork 1) ∷ event 0 (Fork 2) ∷ event 0 Yield
    ∷ event 0 (Write 0 1) ∷ event 1 (Read 0 1) ∷ event 1 (Write 1 1) ∷ event 2 (Read 1 1) ∷ event 2 (Write 2 1) ∷ event 0 (Read 2 1) ∷ []

-- P3 and two records more: the edges of the whole, and not only of the prefix that ends in the violation
abbrev longer : List Event
longer = p3 ++ (event 0 Yield ∷ event 0 (Read 0 1) ∷ [])

-- no record; P3, with an edge each way; P3 and more; P9, with one edge of each pair though several records make it
pub pictures : (picture [] ≡ between [])
    × (picture p3 ≡ between (node 0 ++ node 1 ++ link 0 1 ++ link 1 0))
    × (picture longer ≡ between (node 0 ++ node 1 ++ node 2 ++ link 0 1 ++ link 0 2 ++ link 1 0 ++ link 1 2))
    × (picture p9 ≡ between (node 0 ++ node 1 ++ node 2 ++ node 3 ++ link 0 1 ++ link 0 2 ++ link 0 3 ++ link 1 2 ++ link 2 3 ++ link 3 1))
unfolding Lists.opened Paths.opened Conflict.opened Transactions.opened Edges.opened Decimal.opened Pictures.opened
pictures = (refl, refl, refl, refl)

-- by number, and not as text goes: of twelve transactions 10 and 11 come after 9; of three edges 2 -> 9 comes before 2 -> 11, and both before 10 -> 2
pub by_number : drawing 12 (edge 10 2 ∷ edge 2 11 ∷ edge 2 9 ∷ [])
    ≡ between (node 0 ++ node 1 ++ node 2 ++ node 3 ++ node 4 ++ node 5 ++ node 6 ++ node 7 ++ node 8 ++ node 9 ++ (49 ∷ node 0) ++ (49 ∷ node 1)
    ++ link 2 9 ++ (50 ∷ 32 ∷ 45 ∷ 62 ∷ 32 ∷ 49 ∷ node 1) ++ (49 ∷ link 0 2))
unfolding Lists.opened Paths.opened Decimal.opened Pictures.opened
by_number = refl

-- ---- Whole answers

-- a record's bytes: kind, thread, target, value
abbrev line : ℕ → ℕ → ℕ → ℕ → List ℕ
line k t x v = 0xA7 ∷ 0x7A ∷ k ∷ t ∷ x ∷ 0 ∷ v ∷ 0 ∷ []

abbrev recording : List ℕ
recording = line 8 0 1 0 ++ line 1 0 0 0 ++ line 2 1 0 1 ++ line 2 0 0 1

abbrev text : List ℕ
text = between (node 0 ++ node 1 ++ link 0 1 ++ link 1 0)

-- A row: the recording, how long output and work area are, the answer, and both at the end. Before, the one holds 0xEE and the other 0x77
record Example : Type 0 where
  input : List ℕ
  room : ℕ
  rows : ℕ
  answer : Numbers
  out : List ℕ
  work : List ℕ

abbrev numbers : ℕ → ℕ → ℕ → Numbers
numbers k m n = record { kind = k; first = m; second = n }

abbrev left : ℕ → List ℕ
left n = replicate n 0x77

abbrev cleared : List ℕ
cleared = replicate 4096 0 ++ left 1

abbrev table : List Example
table =
    -- P3 with room to spare, with just enough, and with one byte too few
    record { input = recording; room = 36; rows = 4097; answer = numbers 0 34 0; out = text ++ (0xEE ∷ 0xEE ∷ []); work = cleared }
    ∷ record { input = recording; room = 34; rows = 4097; answer = numbers 0 34 0; out = text; work = cleared }
    ∷ record { input = recording; room = 33; rows = 4097; answer = numbers 2 3 0; out = replicate 33 0xEE; work = cleared }
    -- 4 comes before 3, and before a record's; 1 before 4
    ∷ record { input = recording; room = 0; rows = 4095; answer = numbers 2 4 0; out = []; work = left 4095 }
    ∷ record { input = line 11 0 0 0; room = 0; rows = 4095; answer = numbers 2 4 0; out = []; work = left 4095 }
    ∷ record { input = 0xA7 ∷ []; room = 0; rows = 0; answer = numbers 2 1 0; out = []; work = [] }
    -- a record's comes before 3: a lock acquired twice
    ∷ record { input = line 3 0 0 0 ++ line 3 0 0 0; room = 0; rows = 4097; answer = numbers 2 10 1; out = []; work = left 4097 }
    ∷ []

abbrev Right : Example → Type 0
Right x = drawn x.input (replicate x.room 0xEE) (left x.rows) ≡ record { answer = x.answer; out = x.out; work = x.work }

abbrev All : List Example → Type 0
All [] = Unit {0}
All (x ∷ xs) = Right x × All xs

pub examples : All table
unfolding Faults.opened Record.opened Machine.opened Lists.opened Paths.opened Conflict.opened Transactions.opened Edges.opened Refusals.opened Decimal.opened Pictures.opened Whole.opened
examples = (refl, (refl, (refl, (refl, (refl, (refl, (refl, tt)))))))
