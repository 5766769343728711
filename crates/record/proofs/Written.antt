-- Laws of events written: one into the rest of an output, and some one after the other.
use Prim.Native.Nat.{ℕ, ◌+◌, ◌-◌, ◌*◌, ◌≤◌}
use native.Mathlib.Omega.{arith}
use mathlib.Core.Path.{◌≡◌, refl, sym, ap, ◌∙◌}
use mathlib.Core.List.{List, [], ◌∷◌, ◌++◌, map, append_assoc}
use lib.ListN.{length, take, drop, length-append, length-drop}
use borrow.Rule.Slice.PartMut.{put_mid}
use Rattle.lists.specs.Lists.{each, over, written_at}
use Rattle.lists.proofs.Places.{rest-whole, put-over}
use Rattle.record.specs.declared.Event.{Event}
use Rattle.record.specs.Record.{encoded, encoded_over, encoded_size, records}
use Rattle.record.proofs.Laws.{encoded-over, size-over, length-encoded}

-- from place n of an output on
module _ (e : Event) (out : List ℕ) (n : ℕ) (room : n + 8 ≤ length out) where
  abbrev rest : List ℕ
  rest = take (length out - n) (drop n out)

  rest-room : 8 ≤ length rest
  rest-room = omega (arith, ap length (rest-whole out n), length-drop n out)

  -- it fits, and stands there
  pub written-size : encoded_size rest ≡ 8
  written-size = size-over rest rest-room

  pub written-part : (part : List ℕ) → part ≡ encoded_over e rest → put_mid n (length out - n) out part ≡ written_at out n (encoded e)
  unfolding over written_at
  written-part part p =
      put-over (encoded e) out part n (omega arith) (p ∙ encoded-over e rest rest-room ∙ ap (λ k. encoded e ++ drop k rest) (sym (length-encoded e)))
      ∙ append_assoc (take n out) (encoded e) (drop (n + length (encoded e)) out)

-- one after the other: so many bytes, and the records that are read back
pub length-records : (es : List Event) → length (each encoded es) ≡ 8 * length es
unfolding each
length-records [] = refl
length-records (e ∷ es) = omega (arith, length-append (encoded e) (each encoded es), length-encoded e, length-records es)

pub records-written : (es : List Event) (rest : List ℕ) → records (length es) (each encoded es ++ rest) ≡ map encoded es
unfolding records each encoded
records-written [] rest = refl
records-written (e ∷ es) rest = ap (λ l. encoded e ∷ l) (records-written es rest)
