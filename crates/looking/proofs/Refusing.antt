-- Laws of the refusals: sizes, then the records one after the other.
use Prim.Native.Nat.{ℕ, zero, suc, ◌%◌, ◌≤◌}
use native.Mathlib.Omega.{arith}
use mathlib.Core.Path.{◌≡◌, refl, sym, ap, ◌∙◌}
use mathlib.Core.Logic.{◌≢◌}
use mathlib.Core.List.{List, ◌∷◌, ◌++◌}
use lib.Dec.{eqb, leb}
use lib.ListN.{length}
use borrow.Author.Tests.{eqb-true, leb-true}
use Rattle.record.specs.Faults.{Check, first_fault}
use Rattle.record.specs.Record.{event, records_of}
use Rattle.record.proofs.Laws.{Counted, none_first, first-of-both, second-of-both}
use Rattle.looking.specs.declared.seeing.Run.{Run}
use Rattle.looking.specs.Refusals.{input_checks, start, onwards, record_checks, first_refusal, refused_by}

-- ---- Numbers 1 and 2

pub record Sized (input : List ℕ) : Type 0 where
  pub whole : length input % 8 ≡ 0
  pub most : length input ≤ 8192

pub sized : (input : List ℕ) → first_fault (input_checks input) ≡ 0 → Sized input
unfolding input_checks
sized input h =
    let c1 = none_first 1 0 (eqb (length input % 8) 0) _ (omega arith) h in
    let c2 = none_first 2 0 (leb (length input) 8192) _ (omega arith) c1.1 in
    record { whole = eqb-true (length input % 8) 0 c1.0; most = leb-true (length input) 8192 c2.0 }

inputs-counted : (input : List ℕ) → Counted (input_checks input)
unfolding input_checks
inputs-counted input = (omega arith, (omega arith, tt))

-- they go first, whatever is tried after them
pub inputs-first : (input : List ℕ) (more : List Check) (n : ℕ) → n ≡ first_fault (input_checks input) → n ≢ 0 → n ≡ first_fault (input_checks input ++ more)
inputs-first input more zero h some = absurd (some refl)
inputs-first input more (suc n) h some = sym (first-of-both (input_checks input) more n (sym h))

pub inputs-next : (input : List ℕ) (more : List Check) → first_fault (input_checks input) ≡ 0 → first_fault (input_checks input ++ more) ≡ first_fault more
inputs-next input more h = second-of-both (input_checks input) more (inputs-counted input) h

-- what has passed them and more has passed them
pub inputs-passed : (input : List ℕ) (more : List Check) → first_fault (input_checks input ++ more) ≡ 0 → first_fault (input_checks input) ≡ 0
inputs-passed input more h = go (first_fault (input_checks input)) refl
  where
    go : (n : ℕ) → first_fault (input_checks input) ≡ n → first_fault (input_checks input) ≡ 0
    go zero q = q
    go (suc n) q = absurd (omega (arith, h, first-of-both (input_checks input) more n q))

-- ---- Sizes, then records

module _ (sizes : List Check) (input : List ℕ) where
  pub size-refused : (n : ℕ) → first_fault sizes ≡ n → n ≢ 0 → refused_by sizes input ≡ record { number = n; place = 0 }
  unfolding refused_by
  size-refused zero h some = absurd (some refl)
  size-refused (suc n) h some = rw (h, refused_by)

  pub size-passed : first_fault sizes ≡ 0 → refused_by sizes input ≡ first_refusal start 0 (records_of input)
  unfolding refused_by
  size-passed h = rw (h, refused_by)

  -- a recording that isn't refused has passed the sizes
  pub sizes-passed : (refused_by sizes input).number ≡ 0 → first_fault sizes ≡ 0
  sizes-passed e = go (first_fault sizes) refl
    where
      go : (n : ℕ) → first_fault sizes ≡ n → first_fault sizes ≡ 0
      go zero q = q
      go (suc n) q = absurd (omega (arith, e, ap (λ f. f.number) (size-refused (suc n) q (λ z. absurd (omega arith)))))

-- where 1, 2 and more sizes are passed, the records decide: the refusal is that of 1, 2 and the records alone
pub more-passed : (input : List ℕ) (more : List Check) → first_fault (input_checks input ++ more) ≡ 0
    → refused_by (input_checks input ++ more) input ≡ refused_by (input_checks input) input
more-passed input more h = size-passed (input_checks input ++ more) input h ∙ sym (size-passed (input_checks input) input (inputs-passed input more h))

-- ---- The records

pub refusal-on : (r : Run) (k : ℕ) (bs : List ℕ) (rs : List (List ℕ)) → first_fault (record_checks r bs) ≡ 0 → first_refusal r k (bs ∷ rs) ≡ first_refusal (onwards r (event bs)) (suc k) rs
unfolding first_refusal
refusal-on r k bs rs q = rw (q, first_refusal)

pub refusal-at : (r : Run) (k : ℕ) (bs : List ℕ) (rs : List (List ℕ)) (n : ℕ) → first_fault (record_checks r bs) ≡ suc n
    → first_refusal r k (bs ∷ rs) ≡ record { number = suc n; place = k }
unfolding first_refusal
refusal-at r k bs rs n q = rw (q, first_refusal)
