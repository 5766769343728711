-- `reasons::searching::cause` meets its contract: the two records are among those searched.
use Prim.Native.Nat.{◌<◌}
use native.Mathlib.Omega.{arith}
use mathlib.Core.Path.{sym, subst}
use lib.ListN.{length}
use Rattle.reasons.proofs.Hits.{first_small, second-small, cause-right}
use Rattle.reasons.proofs.searching.cause.Goals.{After-search-first}
use Rattle.reasons.proofs.searching.cause.Goals as goal

first-within : (c : After-search-first) → c.search-first.result.first < length c.args.records.now
first-within c = let a = c.args in subst (λ i. i < length a.records.now) (sym c.search-first.ensures.0) (first_small a.records.now a.a a.b c.requires.0)

second-within : (c : After-search-first) → c.search-first.result.second < length c.args.records.now
second-within c = let a = c.args in subst (λ i. i < length a.records.now) (sym c.search-first.ensures.1) (second-small a.records.now a.a a.b c.requires.0 _)

pub offset_bounds-records-first : goal.offset_bounds-records-first
offset_bounds-records-first c = omega (arith, first-within c)

pub bounds-records-first : goal.bounds-records-first
bounds-records-first c = first-within (goal.at.bounds-records-first c).After-search-first

pub offset_bounds-records-second : goal.offset_bounds-records-second
offset_bounds-records-second c = omega (arith, second-within (goal.at.offset_bounds-records-second c).After-search-first)

pub bounds-records-second : goal.bounds-records-second
bounds-records-second c = second-within (goal.at.bounds-records-second c).After-search-first

pub returns : goal.returns
returns c =
    let a = c.args in
    cause-right a.records.now a.a a.b _ _ _ _ _ c.search-first.ensures (first-within (goal.at.returns c).After-search-first) (second-within (goal.at.returns c).After-search-first) c.reason_of-reason.ensures
