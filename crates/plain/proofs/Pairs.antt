-- What the plain engine's code cites: the sources of a record, one record before it at a time.
use Prim.Native.Nat.{ℕ, ◌<◌, ◌≤◌}
use mathlib.Core.Path.{◌≡◌, refl, sym, ap, ap₂, ◌∙◌, subst}
use mathlib.Core.Bool.{Bool, true, false, not, cond, ◌&&◌, and-false}
use mathlib.Core.List.{List, [], ◌∷◌, ◌++◌, map}
use denote.Enum.Bare.{sameb}
use borrow.Author.Tests.{eq-eqb, ne_eqb, lt-ltb, le-ltb}
use lib.Dec.{eqb, ltb}
use Rattle.lists.specs.Lists.{keep}
use Rattle.lists.proofs.Tests.{by}
use Rattle.lists.proofs.Lists.{keep-true, keep-false, keep_append, map-append}
use Rattle.rows.specs.Bits.{has}
use Rattle.graph.specs.Conflict.{conflict}
use Rattle.graph.specs.declared.Labelled.{Labelled}
use Rattle.graph.specs.Transactions.{transaction_limit}
use Rattle.graph.specs.Edges.{makes}
use Rattle.ancestors.specs.declared.Joined.{Joined}
use Rattle.ancestors.specs.declared.Joined.TheVariants.{Nothing, Source, Cycle}
use Rattle.ancestors.specs.contracts.Joined.{the_type}
use Rattle.ancestors.specs.Sources.{more, code, Joins}
use Rattle.ancestors.proofs.Joining.{joins-none, joins-then, joins-old}
use Rattle.plain.specs.Plain.{sources, few}

-- one record more before it
sources-more : (ys : List Labelled) (y x : Labelled) → sources (few (ys ++ (y ∷ []))) x ≡ sources (few ys) x ++ sources (few (y ∷ [])) x
unfolding sources
sources-more ys y x =
    ap (λ l. map (λ z. z.transaction) (keep (λ z. makes z x) l)) (keep_append (λ z. ltb z.transaction transaction_limit) ys (y ∷ []))
    ∙ ap (map (λ z. z.transaction)) (keep_append (λ z. makes z x) (few ys) (few (y ∷ [])))
    ∙ map-append (λ z. z.transaction) (keep (λ z. makes z x) (few ys)) (keep (λ z. makes z x) (few (y ∷ [])))

module _ (y x : Labelled) where
  -- one record is a source, or not
  one-is : (b c : Bool) → ltb y.transaction transaction_limit ≡ b → makes y x ≡ c → sources (few (y ∷ [])) x ≡ cond (b && c) (y.transaction ∷ []) []
  unfolding sources keep
  one-is true true p q = ap (λ l. map (λ z. z.transaction) (keep (λ z. makes z x) l)) (keep-true (λ z. ltb z.transaction transaction_limit) y [] p) ∙ ap (map (λ z. z.transaction)) (keep-true (λ z. makes z x) y [] q)
  one-is true false p q = ap (λ l. map (λ z. z.transaction) (keep (λ z. makes z x) l)) (keep-true (λ z. ltb z.transaction transaction_limit) y [] p) ∙ ap (map (λ z. z.transaction)) (keep-false (λ z. makes z x) y [] q)
  one-is false c p q = ap (λ l. map (λ z. z.transaction) (keep (λ z. makes z x) l)) (keep-false (λ z. ltb z.transaction transaction_limit) y [] p)

  makes-by : (b c : Bool) → eqb y.transaction x.transaction ≡ b → conflict y.event x.event ≡ c → makes y x ≡ (not b && c)
  unfolding makes
  makes-by b c p q = ap₂ (λ u v. not u && v) p q

  module _ (w : List ℕ) where
    abbrev None : Type 0
    None = Joins w x.transaction (sources (few (y ∷ [])) x) 0 w

    nothing : (b c : Bool) → ltb y.transaction transaction_limit ≡ b → makes y x ≡ c → (b && c) ≡ false → None
    nothing b c p q e = subst (λ l. Joins w x.transaction l 0 w) (sym (one-is b c p q ∙ ap (λ d. cond d (y.transaction ∷ []) []) e)) (joins-none w x.transaction)

    -- it is of the same transaction; of none of 512; row a has its bit; it doesn't conflict
    pub joins-same : y.transaction ≡ x.transaction → None
    joins-same e = nothing (ltb y.transaction transaction_limit) false refl
        (makes-by true (conflict y.event x.event) (eq-eqb y.transaction x.transaction e) refl) (and-false (ltb y.transaction transaction_limit))

    pub joins-over : transaction_limit ≤ y.transaction → None
    joins-over h = nothing false (makes y x) (le-ltb y.transaction transaction_limit h) refl refl

    pub joins-known : has w x.transaction y.transaction ≡ true → None
    joins-known e = by (ltb y.transaction transaction_limit && makes y x)
        (λ c. subst (λ l. Joins w x.transaction l 0 w) (sym (one-is (ltb y.transaction transaction_limit) (makes y x) refl refl ∙ ap (λ d. cond d (y.transaction ∷ []) []) c))
        (joins-old w x.transaction y.transaction e))
        (λ c. nothing (ltb y.transaction transaction_limit) (makes y x) refl refl c)

    module _ (ne : y.transaction ≡ x.transaction → ⊥) where
      other : (c : Bool) → conflict y.event x.event ≡ c → makes y x ≡ c
      other c q = makes-by false c (ne_eqb y.transaction x.transaction ne) q

      pub joins-apart : conflict y.event x.event ≡ false → None
      joins-apart q = nothing (ltb y.transaction transaction_limit) false refl (other false q) (and-false (ltb y.transaction transaction_limit))

      -- it makes an edge
      pub joins-edge : y.transaction < transaction_limit → conflict y.event x.event ≡ true → (r : ℕ) (v : List ℕ) → Joins w x.transaction (y.transaction ∷ []) r v
          → Joins w x.transaction (sources (few (y ∷ [])) x) r v
      joins-edge h q r v j = subst (λ l. Joins w x.transaction l r v) (sym (one-is true true (lt-ltb y.transaction transaction_limit h) (other true q))) j

-- ---- records before it, and one more

pub joins-first : (x : Labelled) (w : List ℕ) → Joins w x.transaction (sources (few []) x) 0 w
unfolding sources keep
joins-first x w = joins-none w x.transaction

pub joins-next : (ys : List Labelled) (y x : Labelled) (u v w : List ℕ) (p q r : ℕ) → Joins u x.transaction (sources (few ys) x) p v → Joins v x.transaction (sources (few (y ∷ [])) x) q w
    → r ≡ more p q → Joins u x.transaction (sources (few (ys ++ (y ∷ []))) x) r w
joins-next ys y x u v w p q r f g h = subst (λ l. Joins u x.transaction l r w) (sym (sources-more ys y x)) (joins-then u v w x.transaction (sources (few ys) x) (sources (few (y ∷ [])) x) p q r f g h)

-- ---- what was found, in numbers

pub is-cycle : (j : Joined) → sameb the_type j Cycle ≡ eqb (code j) 2
is-cycle Nothing = refl
is-cycle Source = refl
is-cycle Cycle = refl

pub is-nothing : (j : Joined) → sameb the_type j Nothing ≡ eqb (code j) 0
is-nothing Nothing = refl
is-nothing Source = refl
is-nothing Cycle = refl
