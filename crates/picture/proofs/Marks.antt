-- Laws of the rows that hold the edges: two records, none, and one record more.
use Prim.Native.Nat.{ℕ, ◌<◌, ◌≤◌}
use native.Mathlib.Omega.{arith}
use mathlib.Core.Path.{◌≡◌, refl, sym, ap, ap₂, ◌∙◌, subst}
use mathlib.Core.Bool.{Bool, true, false, cond, ◌&&◌, ◌||◌, or-true, or-false, and-true, and-false}
use mathlib.Core.List.{List, [], ◌∷◌, ◌++◌}
use borrow.Author.Tests.{eq-eqb, ne_eqb}
use lib.ListN.{length, drop}
use lib.Dec.{eqb}
use Rattle.lists.specs.Lists.{some_of}
use Rattle.trace.specs.Paths.{has_edge}
use Rattle.lists.proofs.Tests.{by, by-same}
use Rattle.lists.proofs.Lists.{some-snoc}
use Rattle.rows.specs.Bits.{has, marked, cleared}
use Rattle.rows.proofs.Laws.{marked-same, marked_other, length_marked, rest-marked, length-cleared, cleared-none}
use Rattle.graph.specs.Conflict.{conflict}
use Rattle.graph.specs.declared.Labelled.{Labelled}
use Rattle.graph.specs.Edges.{makes, edges}
use Rattle.graph.proofs.Steps.{makes-own, makes-by, edges-snoc}
use Rattle.picture.specs.Linking.{Links, linked}

-- ---- Two records

module _ (x y : Labelled) (w : List ℕ) where
  -- of one transaction
  pub linked-own : x.transaction ≡ y.transaction → w ≡ linked x y w
  linked-own e = sym (ap (λ (c : Bool). cond c (marked w x.transaction y.transaction) w) (makes-own y x e))

  -- of two, that conflict or don't
  pub linked-by : (x.transaction ≡ y.transaction → ⊥) → (found is : Bool) → found ≡ conflict x.event y.event → found ≡ is
      → cond is (marked w x.transaction y.transaction) w ≡ linked x y w
  linked-by other found is c e = sym (ap (λ (d : Bool). cond d (marked w x.transaction y.transaction) w) (makes-by y x is other (sym e ∙ c)))

-- ---- No records

-- all rows cleared
pub links-none : (w : List ℕ) → 4096 ≤ length w → Links [] (cleared w)
unfolding has_edge edges some_of
links-none w long = record { long = omega (arith, length-cleared w long); is = λ a b ha hb. cleared-none w long a b ha hb }

-- ---- One bit more

marked-is : (w : List ℕ) (s t : ℕ) → s < 512 → t < 512 → 4096 ≤ length w → (a b : ℕ) → a < 512 → b < 512
    → has (marked w s t) a b ≡ (has w a b || (eqb t b && eqb s a))
marked-is w s t hs ht long a b ha hb = by-same s a
    (λ e. by-same t b
    (λ f. ap₂ (λ x y. has (marked w s t) x y) (sym e) (sym f) ∙ marked-same w s t hs ht long
    ∙ sym (ap₂ (λ x y. has w a b || (x && y)) (eq-eqb t b f) (eq-eqb s a e) ∙ or-true (has w a b)))
    (λ ne. marked_other w s t hs ht long a b hb (λ p q. ne q) ∙ sym (ap (λ x. has w a b || (x && eqb s a)) (ne_eqb t b ne) ∙ or-false (has w a b))))
    (λ ne. marked_other w s t hs ht long a b hb (λ p q. ne p)
    ∙ sym (ap (λ y. has w a b || (eqb t b && y)) (ne_eqb s a ne) ∙ ap (λ x. has w a b || x) (and-false (eqb t b)) ∙ or-false (has w a b)))

-- ---- One record more, with those before it, one after the other

-- the edges that x makes with ys are marked, besides those of xs
pub record Partly (xs : List Labelled) (x : Labelled) (ys : List Labelled) (before w : List ℕ) : Type 0 where
  pub size : length w ≡ length before
  pub rest : drop 4096 w ≡ drop 4096 before
  pub bits : (a b : ℕ) → a < 512 → b < 512
      → has w a b ≡ (has_edge (edges xs) a b || (eqb x.transaction b && some_of (λ y. eqb y.transaction a && makes y x) ys))

pub partly_none : (xs : List Labelled) (x : Labelled) (w : List ℕ) → Links xs w → Partly xs x [] w w
unfolding some_of
partly_none xs x w l = record {
  size = refl;
  rest = refl;
  bits = λ a b ha hb. l.is a b ha hb
      ∙ sym (ap (λ c. has_edge (edges xs) a b || c) (and-false (eqb x.transaction b)) ∙ or-false (has_edge (edges xs) a b));
}

-- an edge or one that is made, or one that is made now
gather : (e b s n : Bool) → ((e || (b && s)) || (b && n)) ≡ (e || (b && (s || n)))
gather true b s n = refl
gather false true s n = refl
gather false false s n = refl

module _ (xs : List Labelled) (x : Labelled) (ys : List Labelled) (before w : List ℕ) (y : Labelled)
    (long : 4096 ≤ length before) (hy : y.transaction < 512) (hx : x.transaction < 512) (p : Partly xs x ys before w) where
  -- y makes an edge to x
  more-marked : makes y x ≡ true → Partly xs x (ys ++ (y ∷ [])) before (marked w y.transaction x.transaction)
  more-marked e = record {
    size = length_marked w y.transaction x.transaction ∙ p.size;
    rest = rest-marked w y.transaction x.transaction hy hx ∙ p.rest;
    bits = λ a b ha hb.
        let new : Labelled → Bool = λ z. eqb z.transaction a && makes z x in
        let edge : Bool = has_edge (edges xs) a b in
        let to : Bool = eqb x.transaction b in
        let from : Bool = eqb y.transaction a in
        let now : new y ≡ from = ap (λ c. from && c) e ∙ and-true from in
        marked-is w y.transaction x.transaction hy hx (omega (arith, p.size)) a b ha hb
        ∙ ap (λ c. c || (to && from)) (p.bits a b ha hb)
        ∙ gather edge to (some_of new ys) from
        ∙ sym (ap (λ c. edge || (to && c)) (some-snoc new ys y ∙ ap (λ c. some_of new ys || c) now));
  }

  -- it makes none
  more-none : makes y x ≡ false → Partly xs x (ys ++ (y ∷ [])) before w
  more-none e = record {
    size = p.size;
    rest = p.rest;
    bits = λ a b ha hb.
        let new : Labelled → Bool = λ z. eqb z.transaction a && makes z x in
        let now : new y ≡ false = ap (λ c. eqb y.transaction a && c) e ∙ and-false (eqb y.transaction a) in
        p.bits a b ha hb
        ∙ sym (ap (λ c. has_edge (edges xs) a b || (eqb x.transaction b && c)) (some-snoc new ys y ∙ ap (λ c. some_of new ys || c) now ∙ or-false (some_of new ys)));
  }

  pub partly_more : (w' : List ℕ) → w' ≡ linked y x w → Partly xs x (ys ++ (y ∷ [])) before w'
  partly_more w' q = by (makes y x)
      (λ e. subst (Partly xs x (ys ++ (y ∷ [])) before) (sym (q ∙ ap (λ c. cond c (marked w y.transaction x.transaction) w) e)) (more-marked e))
      (λ e. subst (Partly xs x (ys ++ (y ∷ [])) before) (sym (q ∙ ap (λ c. cond c (marked w y.transaction x.transaction) w) e)) (more-none e))

-- with all of them
pub partly-all : (xs : List Labelled) (x : Labelled) (before w : List ℕ) → 4096 ≤ length before → Partly xs x xs before w → Links (xs ++ (x ∷ [])) w
partly-all xs x before w long p = record { long = omega (arith, p.size); is = λ a b ha hb. p.bits a b ha hb ∙ sym (edges-snoc xs x a b) }
