-- Lines and texts on each side of the form, as one table, proved of the definitions by computing them.
use Rattle.std.specs.Prelude.{ℕ, ◌≡◌, refl, List, [], ◌∷◌, ◌++◌, replicate}
use Prim.Native.String.{String}
use Rattle.text.specs.File as Files
use Rattle.text.specs.Line.{ascii}
use Rattle.text.specs.File.{read_text, write_text, done, refused}

-- a record's bytes: kind, thread, target, value in two bytes. They are written out, and not by `encoded`
abbrev bytes : ℕ → ℕ → ℕ → ℕ → ℕ → List ℕ
bytes k t x low high = 0xA7 ∷ 0x7A ∷ k ∷ t ∷ x ∷ 0 ∷ low ∷ high ∷ []

-- what stands in the output before
abbrev before : List ℕ
before = replicate 40 0xEE

-- A text and its records: each is read into and written from the other
record Pair : Type 0 where
  text : String
  recording : List ℕ

abbrev pairs : List Pair
pairs =
    record { text = ""; recording = [] }
    ∷ record { text = "0 write 3 5\n"; recording = bytes 2 0 3 5 0 }
    ∷ record { text = "15 read 255 65535\n0 write 0 0\n"; recording = bytes 1 15 255 255 255 ++ bytes 2 0 0 0 0 }
    ∷ record { text = "1 acquire 31\n1 release 31\n"; recording = bytes 3 1 31 0 0 ++ bytes 4 1 31 0 0 }
    ∷ record { text = "2 prewait 0\n2 postwait 10\n"; recording = bytes 5 2 0 0 0 ++ bytes 6 2 10 0 0 }
    ∷ record { text = "3 notify 7\n0 fork 15\n"; recording = bytes 7 3 7 0 0 ++ bytes 8 0 15 0 0 }
    ∷ record { text = "0 join 15\n9 yield\n"; recording = bytes 9 0 15 0 0 ++ bytes 10 9 0 0 0 }
    ∷ []

-- A text without the form, and the number of its first line that has none
record Wrong : Type 0 where
  text : String
  line : ℕ

abbrev wrongs : List Wrong
wrongs =
    record { text = "\n"; line = 0 }
    ∷ record { text = "0 yield"; line = 0 }
    ∷ record { text = "0 yield\n0 yield\n0 yield"; line = 2 }
    ∷ record { text = "0 yield\n\n0 yield\n"; line = 1 }
    ∷ record { text = "0 yield\r\n"; line = 0 }
    ∷ record { text = "0 yield \n"; line = 0 }
    ∷ record { text = " 0 yield\n"; line = 0 }
    ∷ record { text = "0  yield\n"; line = 0 }
    ∷ record { text = "0 Yield\n"; line = 0 }
    ∷ record { text = "0 yields\n"; line = 0 }
    ∷ record { text = "0 yiel\n"; line = 0 }
    ∷ record { text = "00 yield\n"; line = 0 }
    ∷ record { text = "16 yield\n"; line = 0 }
    ∷ record { text = "0 yield 0\n"; line = 0 }
    ∷ record { text = "0 acquire\n"; line = 0 }
    ∷ record { text = "0 acquire 0 0\n"; line = 0 }
    ∷ record { text = "0 acquire 32\n"; line = 0 }
    ∷ record { text = "0 fork 16\n"; line = 0 }
    ∷ record { text = "0 write 0\n"; line = 0 }
    ∷ record { text = "0 write 03 5\n"; line = 0 }
    ∷ record { text = "0 write 256 5\n"; line = 0 }
    ∷ record { text = "0 write 3 65536\n"; line = 0 }
    ∷ record { text = "0 write 3 100000000000000000000000000000\n"; line = 0 }
    ∷ record { text = "0 write 3 -5\n"; line = 0 }
    ∷ []

-- every pair, both ways; every wrong text, refused 14
abbrev BothWays : List Pair → Type 0
BothWays [] = Unit {0}
BothWays (p ∷ ps) =
    (read_text (ascii p.text) before ≡ done p.recording before)
    × (write_text p.recording before ≡ done (ascii p.text) before)
    × BothWays ps

abbrev AllWrong : List Wrong → Type 0
AllWrong [] = Unit {0}
AllWrong (w ∷ ws) = (read_text (ascii w.text) before ≡ refused 14 w.line before) × AllWrong ws

examples-right : BothWays pairs × AllWrong wrongs
unfolding Files.opened
examples-right = (
  (refl, refl, (refl, refl, (refl, refl, (refl, refl, (refl, refl, (refl, refl, (refl, refl, tt))))))),
  (refl, (refl, (refl, (refl, (refl, (refl, (refl, (refl, (refl, (refl, (refl, (refl, (refl, (refl, (refl, (refl, (refl, (refl, (refl, (refl, (refl, (refl, (refl, (refl, tt)))))))))))))))))))))))),
)
