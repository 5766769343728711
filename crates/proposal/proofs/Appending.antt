-- Records put after a recording: their labels, its tally, and whether they are possible.
use mathlib.Core.Path.{◌≡◌, refl, ap}
use mathlib.Core.List.{List, [], ◌∷◌, ◌++◌}
use lib.Dec.{T, eqb}
use Rattle.record.specs.declared.Event.{Event}
use Rattle.replay.specs.declared.State.{State}
use Rattle.replay.specs.Machine.{fault_of, next, after, possible}
use Rattle.graph.specs.declared.Labelled.{Labelled}
use Rattle.graph.specs.declared.Tally.{Tally}
use Rattle.graph.specs.Transactions.{belongs, tallied, labelled_from, tally_from}
use Rattle.graph.specs.Held.{labelled_as}
use Rattle.graph.proofs.Numbers.{Sane, sane-tallied}
use Rattle.lists.proofs.Tests.{and_left, and_right, and_both}

pub labelled-append : (s : Tally) (a b : List Event) → labelled_from s (a ++ b) ≡ labelled_from s a ++ labelled_from (tally_from s a) b
unfolding labelled_from tally_from
labelled-append s [] b = refl
labelled-append s (e ∷ a) b = ap (λ (l : List Labelled). labelled_as (belongs s e) e ∷ l) (labelled-append (tallied s e) a b)

pub tally-append : (s : Tally) (a b : List Event) → tally_from s (a ++ b) ≡ tally_from (tally_from s a) b
unfolding tally_from
tally-append s [] b = refl
tally-append s (e ∷ a) b = tally-append (tallied s e) a b

pub sane-from : (s : Tally) (es : List Event) → Sane s → Sane (tally_from s es)
unfolding tally_from
sane-from s [] h = h
sane-from s (e ∷ es) h = sane-from (tallied s e) es (sane-tallied s e h)

-- ---- possible

pub possible-parts : (s : State) (a b : List Event) → T (possible s (a ++ b)) → T (possible s a) × T (possible (after s a) b)
unfolding possible after
possible-parts s [] b t = (tt, t)
possible-parts s (e ∷ a) b t =
    let r = possible-parts (next s e) a b (and_right (eqb (fault_of s e) 0) (possible (next s e) (a ++ b)) t) in
    (and_both (eqb (fault_of s e) 0) (possible (next s e) a) (and_left (eqb (fault_of s e) 0) (possible (next s e) (a ++ b)) t) r.0, r.1)

pub possible-both : (s : State) (a b : List Event) → T (possible s a) → T (possible (after s a) b) → T (possible s (a ++ b))
unfolding possible after
possible-both s [] b p q = q
possible-both s (e ∷ a) b p q =
    and_both (eqb (fault_of s e) 0) (possible (next s e) (a ++ b)) (and_left (eqb (fault_of s e) 0) (possible (next s e) a) p)
    (possible-both (next s e) a b (and_right (eqb (fault_of s e) 0) (possible (next s e) a) p) q)
