-- Laws of what is written, piece after piece.
use Prim.Native.Nat.{ℕ, suc, ◌+◌, ◌*◌, ◌≤◌, ◌<◌}
use native.Mathlib.Omega.{arith}
use native.Mathlib.Nat.{zero-add, add_comm, mul-suc, mul-zero}
use native.Mathlib.Numerals.{add-one}
use mathlib.Core.Path.{◌≡◌, refl, sym, ap, ap₂, ◌∙◌, subst}
use mathlib.Core.List.{List, [], ◌∷◌, ◌++◌, append_assoc}
use lib.ListN.{length, get_or, set, take, drop, length-append, drop_of_length-le}
use lib.Seq.{drop-cons, sets-eq}
use Rattle.lists.proofs.Places.{written-nothing, written_start, length-written, written-more}
use Rattle.lists.specs.Lists.{each, over, written_at}

-- Writing under way: of the whole, to be written from place n of out₀ on, the rest is still to be written, from place end of out on
pub record Left (out₀ : List ℕ) (n : ℕ) (whole : List ℕ) (out : List ℕ) (end : ℕ) (rest : List ℕ) : Type 0 where
  pub same : length out ≡ length out₀
  pub place : end + length rest ≡ n + length whole
  pub made : written_at out end rest ≡ written_at out₀ n whole

module _ (out₀ : List ℕ) (n : ℕ) (whole : List ℕ) where
  pub left-start : Left out₀ n whole out₀ n whole
  left-start = record { same = refl; place = refl; made = refl }

  -- there is room for the next piece
  pub left-room : (out : List ℕ) (end : ℕ) (new rest : List ℕ) → n + length whole ≤ length out₀ → Left out₀ n whole out end (new ++ rest)
      → end + length new ≤ length out
  left-room out end new rest h l =
      let a : length (new ++ rest) ≡ length new + length rest = length-append new rest in
      omega (arith, l.same, l.place)

  -- one piece more
  pub left-more : (out : List ℕ) (end : ℕ) (new rest : List ℕ) (out' : List ℕ) (end' : ℕ) → n + length whole ≤ length out₀
      → Left out₀ n whole out end (new ++ rest) → out' ≡ written_at out end new → end' ≡ end + length new → Left out₀ n whole out' end' rest
  left-more out end new rest out' end' h l p q =
      let a : length (new ++ rest) ≡ length new + length rest = length-append new rest in
      let room : end + length new ≤ length out = left-room out end new rest h l in
      record {
        same = ap length p ∙ length-written out end new room ∙ l.same;
        place = omega (arith, l.place, q);
        made = ap₂ (λ (x : List ℕ) (m : ℕ). written_at x m rest) p q ∙ written-more out end new rest (omega arith) ∙ l.made;
      }

  -- nothing is left
  pub left-place : (out : List ℕ) (end : ℕ) → Left out₀ n whole out end [] → end ≡ n + length whole
  left-place out end l = omega (arith, l.place)

  pub left-made : (out : List ℕ) (end : ℕ) → Left out₀ n whole out end [] → out ≡ written_at out₀ n whole
  left-made out end l = sym (written-nothing out end) ∙ l.made

-- numbers stored one after the other
pub two-stores : (l : List ℕ) (i a b : ℕ) → i + 2 ≤ length l → set (set l i a) (i + 1) b ≡ written_at l i (a ∷ b ∷ [])
unfolding written_at
two-stores l i a b h =
    ap (λ j. set (set l i a) j b) (add-one i) ∙ sets-eq (a ∷ b ∷ []) l i h ∙ append_assoc (take i l) (a ∷ b ∷ []) (drop (i + 2) l)

-- ---- What is written for each number of a list

-- for those from place k on
unfoldable pub each_from : (ℕ → List ℕ) → ℕ → List ℕ → List ℕ
each_from f k l = each f (drop k l)

-- the first k are written, up to place end
abbrev pub Going : (ℕ → List ℕ) → List ℕ → List ℕ → List ℕ → ℕ → ℕ → Type 0
Going f l out₀ out end k = Left out₀ 0 (each f l) out end (each_from f k l)

module _ (f : ℕ → List ℕ) (l out₀ : List ℕ) where
  each_next : (k : ℕ) → k < length l → each_from f k l ≡ f (get_or l k 0) ++ each_from f (suc k) l
  unfolding each_from each
  each_next k h = ap (each f) (drop-cons l k 0 h)

  each_none : (k : ℕ) → length l ≤ k → each_from f k l ≡ []
  unfolding each_from each
  each_none k h = ap (each f) (drop_of_length-le l h)

  pub going_start : Going f l out₀ out₀ 0 0
  unfolding each_from
  going_start = left-start out₀ 0 (each f l)

  pub going-room : (out : List ℕ) (end k : ℕ) → length (each f l) ≤ length out₀ → k < length l → Going f l out₀ out end k → end + length (f (get_or l k 0)) ≤ length out
  going-room out end k room h g =
      left-room out₀ 0 (each f l) out end (f (get_or l k 0)) (each_from f (suc k) l) (omega arith) (subst (Left out₀ 0 (each f l) out end) (each_next k h) g)

  pub going_more : (out : List ℕ) (end k : ℕ) (out' : List ℕ) (end' : ℕ) → length (each f l) ≤ length out₀ → k < length l → Going f l out₀ out end k
      → out' ≡ written_at out end (f (get_or l k 0)) → end' ≡ end + length (f (get_or l k 0)) → Going f l out₀ out' end' (k + 1)
  going_more out end k out' end' room h g p q =
      subst (Going f l out₀ out' end') (sym (add-one k))
      (left-more out₀ 0 (each f l) out end (f (get_or l k 0)) (each_from f (suc k) l) out' end' (omega arith) (subst (Left out₀ 0 (each f l) out end) (each_next k h) g) p q)

  pub going-place : (out : List ℕ) (end k : ℕ) → length l ≤ k → Going f l out₀ out end k → end ≡ length (each f l)
  going-place out end k h g =
      left-place out₀ 0 (each f l) out end (subst (Left out₀ 0 (each f l) out end) (each_none k h) g) ∙ zero-add (length (each f l))

  pub going_end : (out : List ℕ) (end k : ℕ) → length l ≤ k → Going f l out₀ out end k → out ≡ over (each f l) out₀
  going_end out end k h g =
      left-made out₀ 0 (each f l) out end (subst (Left out₀ 0 (each f l) out end) (each_none k h) g) ∙ written_start out₀ (each f l)

-- the same of each number below n
pub each_within : (f g : ℕ → List ℕ) (n : ℕ) (l : List ℕ) → ((k : ℕ) → k < length l → get_or l k 0 < n) → ((i : ℕ) → i < n → f i ≡ g i) → each f l ≡ each g l
unfolding each
each_within f g n [] low same = refl
each_within f g n (x ∷ l) low same = ap₂ ◌++◌ (same x (low 0 (omega arith))) (each_within f g n l (λ k h. low (suc k) (omega arith)) same)

-- each has w numbers
pub length-each : {A : Type 0} (f : A → List ℕ) (w : ℕ) → ((a : A) → length (f a) ≡ w) → (l : List A) → length (each f l) ≡ w * length l
unfolding each
length-each f w h [] = sym (mul-zero w)
length-each f w h (a ∷ l) =
    let p : length (f a ++ each f l) ≡ length (f a) + length (each f l) = length-append (f a) (each f l) in
    let q : length (each f l) ≡ w * length l = length-each f w h l in
    p ∙ ap₂ ◌+◌ (h a) q ∙ add_comm w (w * length l) ∙ sym (mul-suc w (length l))
