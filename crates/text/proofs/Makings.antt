-- Laws for the functions that make a line: bytes put after it, one after the other.
use Prim.Native.Nat.{ℕ, ◌+◌, ◌≤◌, ◌<◌}
use native.Mathlib.Omega.{arith}
use mathlib.Core.Path.{◌≡◌, refl, sym, ap, ◌∙◌}
use mathlib.Core.List.{List, [], ◌∷◌, ◌++◌, append_assoc, append-nil, map}
use lib.ListN.{length, length-append}
use borrow.Author.Tests.{le-leb, lt-leb}
use Rattle.record.specs.declared.Event.{Event}
use Rattle.record.specs.declared.Op.{Op}
use Rattle.record.specs.Record.{kind, target, value}
use Rattle.decimal.specs.Decimal.{decimal}
use Rattle.decimal.proofs.Decimals.{size-three}
use Rattle.text.specs.Line.{space, line_feed, name, field_count, fields, words_of, spaced, line_of}
use Rattle.text.specs.Steps.{spaced_out}

-- ---- The numbers after the name

pub field_is : (n : ℕ) → (space ∷ []) ++ decimal n ≡ spaced_out (n ∷ [])
unfolding spaced_out
field_is n = ap (λ r. space ∷ r) (sym (append-nil (decimal n)))

pub field-size : (n : ℕ) → length (spaced_out (n ∷ [])) ≡ length (decimal n) + 1
field-size n = ap length (sym (field_is n)) ∙ omega arith

pub fields-none : (o : Op) → 9 < kind o → spaced_out (fields o) ≡ []
unfolding spaced_out fields field_count
fields-none o h = simp (lt-leb (kind o) 2 (omega arith), lt-leb (kind o) 9 h)

pub fields-one : (o : Op) → 2 < kind o → kind o ≤ 9 → spaced_out (fields o) ≡ spaced_out (target o ∷ [])
unfolding spaced_out fields field_count
fields-one o l h = simp (lt-leb (kind o) 2 l, le-leb (kind o) 9 h)

pub fields-two : (o : Op) → kind o ≤ 2 → spaced_out (fields o) ≡ spaced_out (target o ∷ []) ++ spaced_out (value o ∷ [])
unfolding spaced_out fields field_count
fields-two o h =
    simp (le-leb (kind o) 2 h) (ap (λ r. space ∷ r) (sym (append_assoc (decimal (target o)) [] (space ∷ decimal (value o) ++ []) ∙ refl)))

-- a line by its parts
pub line-parts : (e : Event) → line_of e ≡ decimal e.thread ++ ((space ∷ []) ++ (name (kind e.op) ++ (spaced_out (fields e.op) ++ (line_feed ∷ []))))
unfolding line_of words_of spaced spaced_out
line-parts e =
    ap (λ r. r ++ (line_feed ∷ [])) (ap (λ r. decimal e.thread ++ (space ∷ r)) (after (name (kind e.op)) (fields e.op)))
    ∙ append_assoc (decimal e.thread) (space ∷ (name (kind e.op) ++ spaced_out (fields e.op))) (line_feed ∷ [])
    ∙ ap (λ r. decimal e.thread ++ (space ∷ r)) (append_assoc (name (kind e.op)) (spaced_out (fields e.op)) (line_feed ∷ []))
  where
    after : (w : List ℕ) (ns : List ℕ) → spaced (w ∷ map decimal ns) ≡ w ++ spaced_out ns
    after w [] = sym (append-nil w)
    after w (n ∷ ns) = ap (λ r. w ++ (space ∷ r)) (after (decimal n) ns)

-- put one after the other
pub line-made : (e : Event) (a b d l : List ℕ) → a ≡ [] ++ decimal e.thread → b ≡ a ++ (space ∷ []) → d ≡ b ++ name (kind e.op) → l ≡ d ++ spaced_out (fields e.op) → l ++ (line_feed ∷ []) ≡ line_of e
line-made e a b d l p q r s =
    let n : List ℕ = name (kind e.op) in
    let f : List ℕ = spaced_out (fields e.op) in
    ap (λ x. x ++ (line_feed ∷ [])) (s ∙ ap (λ x. x ++ f) (r ∙ ap (λ x. x ++ n) (q ∙ ap (λ x. x ++ (space ∷ [])) p)))
    ∙ append_assoc ((decimal e.thread ++ (space ∷ [])) ++ n) f (line_feed ∷ [])
    ∙ append_assoc (decimal e.thread ++ (space ∷ [])) n (f ++ (line_feed ∷ []))
    ∙ append_assoc (decimal e.thread) (space ∷ []) (n ++ (f ++ (line_feed ∷ [])))
    ∙ sym (line-parts e)

-- a thread and a space have at most four bytes, and with a name at most twelve
pub begun-size : (t : ℕ) (a b : List ℕ) → t < 1000 → a ≡ [] ++ decimal t → b ≡ a ++ (space ∷ []) → length b ≤ 4
begun-size t a b h p q = omega (arith, ap length (q ∙ ap (λ x. x ++ (space ∷ [])) p), length-append (decimal t) (space ∷ []), size-three t h)
