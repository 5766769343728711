-- Laws of looking at one record: which check is the first to fail, and what is taken in where none does.
use Prim.Native.Nat.{ℕ, zero, suc}
use native.Mathlib.Omega.{arith}
use mathlib.Core.Path.{◌≡◌, refl, sym, ap, ap₂, ◌∙◌}
use mathlib.Core.Logic.{◌≢◌}
use mathlib.Core.Bool.{Bool, true, false, not, cond}
use mathlib.Core.List.{List, [], ◌∷◌, ◌++◌, append_assoc}
use lib.ListN.{length}
use Rattle.record.specs.declared.Op.{Op}
use Rattle.record.specs.declared.Op.TheVariants.{Read, Write, Acquire, Release, Prewait, Postwait, Notify, Fork, Join, Yield}
use Rattle.record.specs.declared.Event.{Event}
use Rattle.record.specs.Faults.{Refusal, Check, check, first_fault}
use Rattle.record.specs.Record as Record
use Rattle.record.specs.Record.{event, decoded}
use Rattle.record.proofs.Laws.{Counted, first-of-both, second-of-both, checks-counted, IsEvent, good-decoded, refused-decoded, number-some}
use Rattle.record.specs.Answers.{number}
use Rattle.record.specs.declared.Fault.{Fault}
use Rattle.record.specs.declared.Fault.TheVariants.{Transactions}
use Rattle.std.specs.Result.{IsErrAnd}
use Rattle.std.specs.Option.{ok_or}
use Rattle.replay.specs.declared.State.{State}
use Rattle.replay.specs.Machine as Machine
use Rattle.replay.specs.Machine.{finds, fault_of, stepped, next}
use Rattle.graph.specs.declared.Tally.{Tally}
use Rattle.graph.specs.Transactions.{full, belongs, numbered, counted, tallied}
use Rattle.std.specs.Prelude.{Option, None, Some, Result, Ok, Err}
use Rattle.graph.specs.declared.Labelled.{Labelled}
use Rattle.looking.specs.declared.seeing.Run.{Run}
use Rattle.looking.specs.Refusals.{onwards, record_checks}
use Rattle.looking.specs.Seeing.{seen, seen_as, Saw}

-- ---- The first fault of a record

finds-counted : (s : State) (t : ℕ) (o : Op) → Counted (finds s t o)
unfolding finds
finds-counted s t (Read x v) = (omega arith, tt)
finds-counted s t (Write x v) = tt
finds-counted s t (Acquire m) = (omega arith, tt)
finds-counted s t (Release m) = (omega arith, tt)
finds-counted s t (Prewait m) = (omega arith, tt)
finds-counted s t (Postwait m) = (omega arith, tt)
finds-counted s t (Notify m) = (omega arith, tt)
finds-counted s t (Fork u) = (omega arith, tt)
finds-counted s t (Join u) = (omega arith, (omega arith, tt))
finds-counted s t Yield = tt

machine-counted : (s : State) (e : Event) → Counted (Machine.checks s e)
unfolding Machine.checks
machine-counted s e = (omega arith, (omega arith, finds-counted s e.thread e.op))

module _ (r : Run) (bs : List ℕ) where
  -- the last check
  abbrev room : Bool → List Check
  room full = check 13 0 (not full) ∷ []

  checks-are : record_checks r bs ≡ Record.checks bs ++ (Machine.checks r.state (event bs) ++ room (full r.tally (event bs)))
  unfolding record_checks
  checks-are = append_assoc (Record.checks bs) (Machine.checks r.state (event bs)) (room (full r.tally (event bs)))

  form-fault : (n : ℕ) → first_fault (Record.checks bs) ≡ n → n ≢ 0 → first_fault (record_checks r bs) ≡ n
  form-fault zero h q = absurd (q refl)
  form-fault (suc n) h q = ap first_fault checks-are ∙ first-of-both (Record.checks bs) (Machine.checks r.state (event bs) ++ room (full r.tally (event bs))) n h

  form-passed : first_fault (Record.checks bs) ≡ 0
      → first_fault (record_checks r bs) ≡ first_fault (Machine.checks r.state (event bs) ++ room (full r.tally (event bs)))
  form-passed h = ap first_fault checks-are
      ∙ second-of-both (Record.checks bs) (Machine.checks r.state (event bs) ++ room (full r.tally (event bs))) (checks-counted bs) h

  event-fault : (n : ℕ) → first_fault (Record.checks bs) ≡ 0 → fault_of r.state (event bs) ≡ n → n ≢ 0 → first_fault (record_checks r bs) ≡ n
  unfolding fault_of
  event-fault zero h q p = absurd (p refl)
  event-fault (suc n) h q p = form-passed h ∙ first-of-both (Machine.checks r.state (event bs)) (room (full r.tally (event bs))) n q

  event-passed : first_fault (Record.checks bs) ≡ 0 → fault_of r.state (event bs) ≡ 0 → first_fault (record_checks r bs) ≡ first_fault (room (full r.tally (event bs)))
  unfolding fault_of
  event-passed h q = form-passed h ∙ second-of-both (Machine.checks r.state (event bs)) (room (full r.tally (event bs))) (machine-counted r.state (event bs)) q

  full-fault : first_fault (Record.checks bs) ≡ 0 → fault_of r.state (event bs) ≡ 0 → full r.tally (event bs) ≡ true → first_fault (record_checks r bs) ≡ 13
  unfolding first_fault
  full-fault h q f = event-passed h q ∙ ap (λ t. first_fault (room t)) f

  -- a record that passes all three parts has no fault
  pub no-fault : first_fault (Record.checks bs) ≡ 0 → fault_of r.state (event bs) ≡ 0 → full r.tally (event bs) ≡ false → first_fault (record_checks r bs) ≡ 0
  unfolding first_fault
  no-fault h q f = event-passed h q ∙ ap (λ t. first_fault (room t)) f

  -- a record without a fault passes all three parts
  pub parts-passed : first_fault (record_checks r bs) ≡ 0
      → (first_fault (Record.checks bs) ≡ 0) × (fault_of r.state (event bs) ≡ 0) × (full r.tally (event bs) ≡ false)
  parts-passed h = form (first_fault (Record.checks bs)) refl
    where
      last : first_fault (Record.checks bs) ≡ 0 → fault_of r.state (event bs) ≡ 0 → (t : Bool) → full r.tally (event bs) ≡ t → full r.tally (event bs) ≡ false
      last p q true f = absurd (omega (arith, h, full-fault p q f))
      last p q false f = f

      acts : first_fault (Record.checks bs) ≡ 0 → (n : ℕ) → fault_of r.state (event bs) ≡ n
          → (first_fault (Record.checks bs) ≡ 0) × (fault_of r.state (event bs) ≡ 0) × (full r.tally (event bs) ≡ false)
      acts p zero q = (p, q, last p q (full r.tally (event bs)) refl)
      acts p (suc n) q = absurd (omega (arith, h, event-fault (suc n) p q (λ z. absurd (omega arith))))

      form : (n : ℕ) → first_fault (Record.checks bs) ≡ n
          → (first_fault (Record.checks bs) ≡ 0) × (fault_of r.state (event bs) ≡ 0) × (full r.tally (event bs) ≡ false)
      form zero p = acts p (fault_of r.state (event bs)) refl
      form (suc n) p = absurd (omega (arith, h, form-fault (suc n) p (λ z. absurd (omega arith))))

-- ---- What is seen

seen-faulty : (r : Run) (bs : List ℕ) (n : ℕ) → first_fault (record_checks r bs) ≡ suc n → seen r bs ≡ Err (suc n)
unfolding seen
seen-faulty r bs n h = rw (h, seen)

seen-sound : (r : Run) (bs : List ℕ) → first_fault (record_checks r bs) ≡ 0 → seen r bs ≡ Ok (record { transaction = belongs r.tally (event bs); event = event bs })
unfolding seen
seen-sound r bs h = rw (h, seen)

-- a fault found, and nothing counted, is all that is said
saw-faulty : (r : Run) (bs : List ℕ) (after : Run) (n : ℕ) → first_fault (record_checks r bs) ≡ n → n ≢ 0 → after.tally ≡ r.tally → Saw r bs after (Err n)
saw-faulty r bs after zero h q same = absurd (q refl)
saw-faulty r bs after (suc n) h q same = record { answer = sym (seen-faulty r bs n h); onward = λ z. absurd (omega (arith, h, z)); uncounted = λ some. same }

-- whether a 513th transaction would begin, as counting says it
pub counted-full : (s : Tally) (e : Event) → numbered s e ≡ None → full s e ≡ true
unfolding numbered
counted-full s e h = go (full s e) refl
  where
    go : (b : Bool) → full s e ≡ b → b ≡ true
    go true q = refl
    go false q =
        let x : Some (belongs s e) ≡ None = ap (λ t. cond t None (Some (belongs s e))) (sym q) ∙ h in
        let z : ◌≡◌ {A = ℕ} 0 1 = cc x in absurd (omega (arith, z))

pub counted_of : (s : Tally) (e : Event) (a : ℕ) → numbered s e ≡ Some a → (full s e ≡ false) × (belongs s e ≡ a)
unfolding numbered
counted_of s e a h = go (full s e) refl
  where
    go : (b : Bool) → full s e ≡ b → (full s e ≡ false) × (belongs s e ≡ a)
    go true q =
        let x : None ≡ Some a = ap (λ t. cond t None (Some (belongs s e))) (sym q) ∙ h in
        let z : ◌≡◌ {A = ℕ} 0 1 = cc x in absurd (omega (arith, z))
    go false q =
        let x : Some (belongs s e) ≡ Some a = ap (λ t. cond t None (Some (belongs s e))) (sym q) ∙ h in
        (q, cc x)

stepped-next : (s : State) (e : Event) → fault_of s e ≡ 0 → stepped s e ≡ next s e
unfolding stepped
stepped-next s e h = rw (h, stepped)

pub counted-tallied : (s : Tally) (e : Event) → full s e ≡ false → counted s e ≡ tallied s e
unfolding counted
counted-tallied s e h = ap (λ t. cond t s (tallied s e)) h

counted_none : (s : Tally) (e : Event) → full s e ≡ true → counted s e ≡ s
unfolding counted
counted_none s e h = ap (λ t. cond t s (tallied s e)) h

-- ---- What the calls of `see` answer, by its parts

-- a fault
pub seen-err : (r : Result Labelled Fault) (f : Fault) → IsErrAnd r (λ e. e ≡ f) → seen_as r ≡ Err (number f)
seen-err (Ok x) f h = absurd h
seen-err (Err e) f h = ap (λ x. Err (number x)) h

-- no transaction
pub no-number : (o : Option ℕ) (f : Fault) → ◌≡◌ {A = Result ℕ Fault} (Err f) (ok_or o Transactions) → (o ≡ None) × (f ≡ Transactions)
no-number None f h = (refl, cc h)
no-number (Some a) f h = let z : ◌≡◌ {A = ℕ} 0 1 = cc h in absurd (omega (arith, z))

-- ---- The four ways through

module _ (r : Run) (bs : List ℕ) (size : length bs ≡ 8) where
  pub saw-form : (after : Run) (f : Refusal) → decoded bs ≡ Err f → after.tally ≡ r.tally → Saw r bs after (Err f.number)
  saw-form after f h same =
      let q = refused-decoded bs f size h in
      let some : f.number ≢ 0 = λ z. absurd (omega (arith, q.1, z)) in
      saw-faulty r bs after f.number (form-fault r bs f.number q.0 some) some same

  pub saw-event : (after : Run) (e : Event) (f : Fault) → decoded bs ≡ Ok e → number f ≡ fault_of r.state e → after.tally ≡ r.tally → Saw r bs after (Err (number f))
  saw-event after e f h q same =
      let g : IsEvent bs e = good-decoded bs e h in
      saw-faulty r bs after (number f) (event-fault r bs (number f) g.faultless (ap (fault_of r.state) g.same ∙ sym q) (number-some f)) (number-some f) same

  pub saw-full : (after : Run) (e : Event) → decoded bs ≡ Ok e → fault_of r.state e ≡ 0 → numbered r.tally e ≡ None → after.tally ≡ counted r.tally e
      → Saw r bs after (Err 13)
  saw-full after e h q p k =
      let g : IsEvent bs e = good-decoded bs e h in
      let fe : full r.tally e ≡ true = counted-full r.tally e p in
      let f : full r.tally (event bs) ≡ true = ap (full r.tally) g.same ∙ fe in
      saw-faulty r bs after 13 (full-fault r bs g.faultless (ap (fault_of r.state) g.same ∙ q) f) (λ z. absurd (omega arith)) (k ∙ counted_none r.tally e fe)

  pub saw-sound : (s : State) (c : Tally) (e : Event) (a : ℕ) → decoded bs ≡ Ok e → fault_of r.state e ≡ 0 → s ≡ stepped r.state e
      → numbered r.tally e ≡ Some a → c ≡ counted r.tally e → Saw r bs (record { state = s; tally = c }) (Ok (record { transaction = a; event = e }))
  saw-sound s c e a h q p m k =
      let g : IsEvent bs e = good-decoded bs e h in
      let o : (full r.tally e ≡ false) × (belongs r.tally e ≡ a) = counted_of r.tally e a m in
      let f : full r.tally (event bs) ≡ false = ap (full r.tally) g.same ∙ o.0 in
      let n : first_fault (record_checks r bs) ≡ 0 = no-fault r bs g.faultless (ap (fault_of r.state) g.same ∙ q) f in
      let now : ◌≡◌ {A = Run} (record { state = s; tally = c }) (onwards r e) =
      ap₂ (λ (x : State) (y : Tally). record { state = x; tally = y }) (p ∙ stepped-next r.state e q) (k ∙ counted-tallied r.tally e o.0) in
      record {
        answer = sym (seen-sound r bs n ∙ ap₂ (λ (x : Event) (t : ℕ). Ok (record { transaction = t; event = x })) g.same (ap (belongs r.tally) g.same ∙ o.1));
        onward = λ z. now ∙ ap (onwards r) (sym g.same);
        uncounted = λ some. absurd (some n);
      }

-- ---- What the answer says

-- a record that is sound is taken in, and noted as its event with its transaction
pub record Taken (r : Run) (bs : List ℕ) (after : Run) (x : Labelled) : Type 0 where
  pub faultless : first_fault (record_checks r bs) ≡ 0
  pub record-is : x ≡ record { transaction = belongs r.tally (event bs); event = event bs }
  pub after_is : after ≡ onwards r (event bs)

pub taken : (r : Run) (bs : List ℕ) (after : Run) (x : Labelled) → Saw r bs after (Ok x) → Taken r bs after x
taken r bs after x s = go (first_fault (record_checks r bs)) refl
  where
    go : (n : ℕ) → first_fault (record_checks r bs) ≡ n → Taken r bs after x
    go zero q =
        let y : Ok x ≡ Ok (record { transaction = belongs r.tally (event bs); event = event bs }) = s.answer ∙ seen-sound r bs q in
        record { faultless = q; record-is = cc y; after_is = s.onward q }
    go (suc n) q =
        let y : Ok x ≡ Err (suc n) = s.answer ∙ seen-faulty r bs n q in
        let z : ◌≡◌ {A = ℕ} 0 1 = cc y in absurd (omega (arith, z))

-- a faulty record's number is that of its first fault, and nothing was counted
pub record Stopped (r : Run) (bs : List ℕ) (after : Run) (n : ℕ) : Type 0 where
  pub number : ℕ
  pub number_is : n ≡ suc number
  pub fault-is : first_fault (record_checks r bs) ≡ suc number
  pub uncounted : after.tally ≡ r.tally

pub stopped : (r : Run) (bs : List ℕ) (after : Run) (n : ℕ) → Saw r bs after (Err n) → Stopped r bs after n
stopped r bs after n s = go (first_fault (record_checks r bs)) refl
  where
    go : (m : ℕ) → first_fault (record_checks r bs) ≡ m → Stopped r bs after n
    go zero q =
        let x : ◌≡◌ {A = Result Labelled ℕ} (Err n) (Ok (record { transaction = belongs r.tally (event bs); event = event bs })) = s.answer ∙ seen-sound r bs q in
        let z : ◌≡◌ {A = ℕ} 0 1 = cc x in absurd (omega (arith, z))
    go (suc m) q =
        let x : Err n ≡ Err (suc m) = s.answer ∙ seen-faulty r bs m q in
        let some : first_fault (record_checks r bs) ≢ 0 = λ z. absurd (omega (arith, q, z)) in
        record { number = m; number_is = cc x; fault-is = q; uncounted = s.uncounted some }
