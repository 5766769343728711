-- The written form of a record (document 02, L4): a line such as `0 write 3 5`. Thread, name of the operation, then target and value
-- where the kind has them; one space between, one line feed at the end; numbers in decimal without leading zeros.
use Rattle.std.specs.Prelude.{ℕ, zero, suc, ◌-◌, Bool, true, false, cond, ◌&&◌, List, [], ◌∷◌, ◌++◌, map, length, take, get_or, leb, eqb, Result, Ok, Err}
use Prim.Native.Char.{code}
use Prim.Native.String.{String, [] as nothing, ◌∷◌ as ◌then◌}
use Rattle.lists.specs.Lists.{over}
use Rattle.record.specs.declared.Event.{Event}
use Rattle.record.specs.declared.Op.{Op}
use Rattle.record.specs.Faults.{Refusal}
use Rattle.record.specs.Record.{kind, target, value, target_limit, operation}
use Rattle.decimal.specs.Decimal.{decimal, value_of, is_number}

-- the bytes of a text in ASCII
unfoldable pub ascii : String → List ℕ
ascii nothing = []
ascii (c then s) = code c ∷ ascii s

abbrev pub space : ℕ
space = 32

abbrev pub line_feed : ℕ
line_feed = 10

-- The names of the kinds 1 to 10, in order, as in source document 000
unfoldable pub names : List (List ℕ)
names =
    ascii "read"
    ∷ ascii "write"
    ∷ ascii "acquire"
    ∷ ascii "release"
    ∷ ascii "prewait"
    ∷ ascii "postwait"
    ∷ ascii "notify"
    ∷ ascii "fork"
    ∷ ascii "join"
    ∷ ascii "yield"
    ∷ []

unfoldable pub name : ℕ → List ℕ
name k = get_or names (k - 1) []

-- how many numbers stand after the name: target and value of kinds 1 and 2, a target of 3 to 9, none of 10
unfoldable pub field_count : ℕ → ℕ
field_count k = cond (leb k 2) 2 (cond (leb k 9) 1 0)

-- ---- Writing

-- the numbers after the name
unfoldable pub fields : Op → List ℕ
fields o = take (field_count (kind o)) (target o ∷ value o ∷ [])

-- the words of a line
unfoldable pub words_of : Event → List (List ℕ)
words_of e = decimal e.thread ∷ name (kind e.op) ∷ map decimal (fields e.op)

-- words with one space between
unfoldable pub spaced : List (List ℕ) → List ℕ
spaced [] = []
spaced (w ∷ []) = w
spaced (w ∷ v ∷ ws) = w ++ (space ∷ spaced (v ∷ ws))

-- The line of an event
unfoldable pub line_of : Event → List ℕ
line_of e = spaced (words_of e) ++ (line_feed ∷ [])

-- An event's line written at the front of an output, or nothing where it doesn't fit; and how many bytes that is
unfoldable pub line_over : Event → List ℕ → List ℕ
line_over e old = cond (leb (length (line_of e)) (length old)) (over (line_of e) old) old

unfoldable pub line_room : Event → List ℕ → ℕ
line_room e old = cond (leb (length (line_of e)) (length old)) (length (line_of e)) 0

-- ---- Reading

-- a byte put before the first of some parts
unfoldable pub glued : ℕ → List (List ℕ) → List (List ℕ)
glued c [] = (c ∷ []) ∷ []
glued c (p ∷ ps) = (c ∷ p) ∷ ps

-- what stands between the spaces: always one word more than there are spaces
unfoldable pub words : List ℕ → List (List ℕ)
words [] = [] ∷ []
words (c ∷ bs) = elim (eqb c space) [ true ↦ [] ∷ words bs | false ↦ glued c (words bs) ]

-- whether two words are the same
unfoldable pub same_word : List ℕ → List ℕ → Bool
same_word [] [] = true
same_word [] (d ∷ v) = false
same_word (c ∷ w) [] = false
same_word (c ∷ w) (d ∷ v) = eqb c d && same_word w v

-- the place of a word among some, counted from k; 0 where it isn't among them
unfoldable pub place_from : ℕ → List ℕ → List (List ℕ) → ℕ
place_from k w [] = 0
place_from k w (n ∷ ns) = elim (same_word w n) [ true ↦ k | false ↦ place_from (suc k) w ns ]

-- the kind that a word names; 0 where it names none
unfoldable pub kind_named : List ℕ → ℕ
kind_named w = place_from 1 w names

-- the limits of the numbers after the name
unfoldable pub limits : ℕ → List ℕ
limits k = take (field_count k) (target_limit k ∷ 65535 ∷ [])

-- as many words as limits, and each a number within its own
unfoldable pub fit : List ℕ → List (List ℕ) → Bool
fit [] [] = true
fit [] (w ∷ ws) = false
fit (m ∷ ms) [] = false
fit (m ∷ ms) (w ∷ ws) = is_number m w && fit ms ws

-- number 14: a line without this form
abbrev pub formless : Result Event Refusal
formless = Err (record { number = 14; place = 0 })

-- the words after the name, read
unfoldable pub read_fields : ℕ → ℕ → List (List ℕ) → Result Event Refusal
read_fields t k ws =
    elim (fit (limits k) ws) [
      | true ↦ Ok (record { thread = t; op = operation k (value_of (get_or ws 0 [])) (value_of (get_or ws 1 [])) })
      | false ↦ formless
    ]

-- the words after the thread, read
unfoldable pub read_operation : ℕ → List (List ℕ) → Result Event Refusal
read_operation t [] = formless
read_operation t (w ∷ ws) = elim (kind_named w) [ zero ↦ formless | suc k ↦ read_fields t (suc k) ws ]

-- the words of a line, read
unfoldable pub read_words : List (List ℕ) → Result Event Refusal
read_words [] = formless
read_words (w ∷ ws) = elim (is_number 15 w) [ true ↦ read_operation (value_of w) ws | false ↦ formless ]

-- the last byte of some bytes, and all but the last
abbrev pub last_byte : List ℕ → ℕ
last_byte bs = get_or bs (length bs - 1) 0

abbrev pub but_last : List ℕ → List ℕ
but_last bs = take (length bs - 1) bs

-- A line read: its event, or number 14
unfoldable pub line_read : List ℕ → Result Event Refusal
line_read line = elim (eqb (last_byte line) line_feed) [ true ↦ read_words (words (but_last line)) | false ↦ formless ]

-- Everything above, opened at once, for a proof by computation: `unfolding opened`
unfoldable pub opened : Unit {0}
unfolding Rattle.decimal.specs.Decimal.opened Rattle.record.specs.Record.opened ascii names name field_count fields words_of spaced line_of line_over line_room glued words same_word place_from kind_named limits fit read_fields read_operation read_words line_read
opened = tt
