-- Laws of text put piece by piece: two pieces, and a loop that puts one after the other.
use Prim.Native.Nat.{ℕ, ◌+◌, ◌-◌, ◌≤◌}
use native.Mathlib.Omega.{arith}
use mathlib.Core.Path.{◌≡◌, refl, sym, ap, ap₂, ◌∙◌, subst}
use mathlib.Core.List.{List, [], ◌++◌}
use lib.ListN.{length, take, length-append}
use borrow.Rule.Slice.PartMut.{put_mid, Post-is}
use Rattle.lists.specs.Lists.{written_at}
use Rattle.lists.proofs.Places.{written-nothing, written-more, length-written}
use Rattle.picture.specs.Putting.{Puts}

pub puts_none : (at : ℕ) (l : List ℕ) → Puts [] at l l at
puts_none at l = record { size = refl; end = omega arith; put = λ h. sym (written-nothing l at) }

pub puts-both : (x y : List ℕ) (at r s : ℕ) (l m n : List ℕ) → Puts x at l m r → Puts y r m n s → Puts (x ++ y) at l n s
puts-both x y at r s l m n p q = record {
  size = q.size ∙ p.size;
  end = omega (arith, p.end, q.end, length-append x y);
  put = λ room.
      let sum : length (x ++ y) ≡ length x + length y = length-append x y in
      let fits : at + length x ≤ length l = omega (arith, room, sum) in
      q.put (omega (arith, room, sum, p.end, p.size))
      ∙ ap₂ (λ (v : List ℕ) (k : ℕ). written_at v k y) (p.put fits) p.end
      ∙ written-more l at x y (omega (arith, fits));
}

pub puts-as : {x y : List ℕ} (at r : ℕ) (l m : List ℕ) → x ≡ y → Puts x at l m r → Puts y at l m r
puts-as at r l m e p = subst (λ b. Puts b at l m r) e p

-- bytes copied into the part that begins at a place and is as long
pub puts-part : (bytes new l : List ℕ) (at : ℕ) → new ≡ bytes → at + length bytes ≤ length l
    → Puts bytes at l (put_mid at (at + length bytes - at) l new) (at + length bytes)
unfolding written_at
puts-part bytes new l at e h =
    let end : ℕ = at + length bytes in
    let is : put_mid at (end - at) l new ≡ written_at l at bytes = ap₂ (λ x y. take at l ++ (x ++ y)) e (Post-is at end l (omega arith)) in
    record { size = ap length is ∙ length-written l at bytes h; end = refl; put = λ _. is }

-- ---- A loop

-- what is still to be put ends what was to be put
abbrev pub Goes : List ℕ → ℕ → List ℕ → List ℕ → ℕ → List ℕ → Type 0
Goes total at₀ out₀ rest at out = (m : List ℕ) (r : ℕ) → Puts rest at out m r → Puts total at₀ out₀ m r

pub goes-more : (total : List ℕ) (at₀ : ℕ) (out₀ b rest rest' : List ℕ) (at at' : ℕ) (out out' : List ℕ)
    → rest ≡ b ++ rest' → Puts b at out out' at' → Goes total at₀ out₀ rest at out → Goes total at₀ out₀ rest' at' out'
goes-more total at₀ out₀ b rest rest' at at' out out' e p g = λ m r q. g m r (puts-as at r out m (sym e) (puts-both b rest' at at' r out out' m p q))

pub goes_end : (total : List ℕ) (at₀ : ℕ) (out₀ rest : List ℕ) (at : ℕ) (out : List ℕ) → rest ≡ [] → Goes total at₀ out₀ rest at out → Puts total at₀ out₀ out at
goes_end total at₀ out₀ rest at out e g = g out at (puts-as at at out out (sym e) (puts_none at out))
