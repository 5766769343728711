-- Where a yield is possible: a thread in the middle of a transaction waits on nothing.
use Prim.Native.Nat.{ℕ, zero, suc}
use native.Mathlib.Omega.{arith}
use mathlib.Core.Path.{◌≡◌, refl, sym, ap, ◌∙◌, subst}
use mathlib.Core.Logic.{◌≢◌}
use mathlib.Core.Bool.{true, false, cond, ◌||◌}
use mathlib.Core.List.{List, [], ◌∷◌}
use lib.ListN.{get_or, set}
use lib.Seq.{get_or-set_other}
use lib.Dec.{T, eqb}
use borrow.Author.Tests.{eq-eqb}
use Rattle.record.specs.declared.Event.{Event}
use Rattle.record.specs.declared.Op.{Op}
use Rattle.record.specs.declared.Op.TheVariants.{Read, Write, Acquire, Release, Prewait, Postwait, Notify, Fork, Join, Yield}
use Rattle.record.specs.Faults.{first_fault, check}
use Rattle.record.specs.Record.{kind}
use Rattle.replay.specs.declared.State.{State}
use Rattle.replay.specs.Machine.{fresh, forked, waitless, waits_on, life_of, wait_of, wait_before, finds, checks, fault_of, act, next, after, possible}
use Rattle.lists.proofs.Tests.{by, by-same, T_of}
use Rattle.graph.specs.declared.Tally.{Tally}
use Rattle.graph.specs.Transactions.{none_yet, current_of, begins, belongs, ends, tallied, tally_from}
use Rattle.graph.proofs.Numbers.{sane-none, current-other, open_of}
use Rattle.second.proofs.Possible.{met, first_fine}
use Rattle.proposal.specs.Walk.{yield_of}

pub set-zero : (l : List ℕ) (i : ℕ) → get_or (set l i 0) i 0 ≡ 0
set-zero [] i = refl
set-zero (x ∷ l) zero = refl
set-zero (x ∷ l) (suc i) = set-zero l i

abbrev pub Idle : State → Tally → Type 0
Idle s c = (t : ℕ) → current_of c t ≢ 0 → wait_of s t ≡ 0

-- a thread's wait changes by its own prewait and postwait alone
wait-other : (s : State) (t : ℕ) (o : Op) (u : ℕ) → u ≢ t → wait_of (act s t o) u ≡ wait_of s u
unfolding act
wait-other s t (Read x v) u d = refl
wait-other s t (Write x v) u d = refl
wait-other s t (Acquire m) u d = refl
wait-other s t (Release m) u d = refl
wait-other s t (Prewait m) u d = get_or-set_other s.waits t u (waits_on m) 0 d
wait-other s t (Postwait m) u d = get_or-set_other s.waits t u waitless 0 d
wait-other s t (Notify m) u d = refl
wait-other s t (Fork w) u d = refl
wait-other s t (Join w) u d = refl
wait-other s t Yield u d = refl

-- after an operation that doesn't end its transaction its thread waits on nothing
wait-own : (s : State) (t : ℕ) (o : Op) → wait_of s t ≡ wait_before o → eqb (kind o) 5 ≡ false → wait_of (act s t o) t ≡ 0
unfolding act wait_before
wait-own s t (Read x v) h n = h
wait-own s t (Write x v) h n = h
wait-own s t (Acquire m) h n = h
wait-own s t (Release m) h n = h
wait-own s t (Prewait m) h n = absurd (subst T n tt)
wait-own s t (Postwait m) h n = set-zero s.waits t
wait-own s t (Notify m) h n = h
wait-own s t (Fork w) h n = h
wait-own s t (Join w) h n = h
wait-own s t Yield h n = h

pub current-ended : (c : Tally) (e : Event) → ends e ≡ true → current_of (tallied c e) e.thread ≡ 0
unfolding tallied
current-ended c e b = ap (λ v. get_or (set c.current e.thread v) e.thread 0) (ap (λ x. cond x 0 (suc (belongs c e))) b) ∙ set-zero c.current e.thread

-- a yield ends its transaction
pub yield-last : (t : ℕ) → ends (yield_of t) ≡ true
unfolding ends
yield-last t = refl

not-ended : (e : Event) → ends e ≡ false → eqb (kind e.op) 5 ≡ false
unfolding ends
not-ended e b = by (eqb (kind e.op) 10)
    (λ q. absurd (subst T (sym (ap (λ x. x || eqb (kind e.op) 5) q) ∙ b) tt))
    (λ q. sym (ap (λ x. x || eqb (kind e.op) 5) q) ∙ b)

pub idle-next : (s : State) (c : Tally) (e : Event) → fault_of s e ≡ 0 → Idle s c → Idle (next s e) (tallied c e)
idle-next s c e fine idle u opened = by-same u e.thread
    (λ q. by (ends e)
    (λ b. absurd (opened (ap (current_of (tallied c e)) q ∙ current-ended c e b)))
    (λ b. ap (wait_of (next s e)) q ∙ wait-own s e.thread e.op (met s e fine).wait (not-ended e b)))
    (λ d. wait-other s e.thread e.op u d ∙ idle u (λ z. opened (current-other c e u d ∙ z)))

pub idle-after : (s : State) (c : Tally) (es : List Event) → T (possible s es) → Idle s c → Idle (after s es) (tally_from c es)
unfolding after tally_from
idle-after s c [] p idle = idle
idle-after s c (e ∷ es) p idle = let a = first_fine s e es p in idle-after (next s e) (tallied c e) es a.1 (idle-next s c e a.0 idle)

pub idle-fresh : Idle fresh none_yet
unfolding none_yet
idle-fresh t opened = absurd (opened (omega (arith, sane-none t)))

-- a yield is possible where its thread's next event is possible and doesn't begin a transaction
pub yield-possible : (s : State) (c : Tally) (e : Event) → fault_of s e ≡ 0 → Idle s c → begins c e ≡ false → fault_of s (yield_of e.thread) ≡ 0
unfolding fault_of checks finds wait_before first_fault
yield-possible s c e fine idle b =
    let t : ℕ = e.thread in
    let life : eqb (life_of s t) forked ≡ true = eq-eqb (life_of s t) forked (met s e fine).life in
    let wait : eqb (wait_of s t) waitless ≡ true = eq-eqb (wait_of s t) waitless (idle t (λ z. absurd (subst T (open_of c e b) (T_of (eq-eqb (current_of c t) 0 z))))) in
    ap (λ p. first_fault (check 8 0 p ∷ check 9 0 (eqb (wait_of s t) waitless) ∷ [])) life
    ∙ ap (λ p. first_fault (check 9 0 p ∷ [])) wait
