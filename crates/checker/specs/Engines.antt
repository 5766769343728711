-- Either engine finds the shortest prefix with a cycle.
-- A reader of the public promises need not read this.
use Rattle.std.specs.Prelude.{[]}
use Rattle.ancestors.specs.Search.{searched}
use Rattle.plain.specs.Plain.{sources, next}
use Rattle.plain.proofs.Right as Plain
use Rattle.second.specs.Taken.{second_searched}
use Rattle.second.proofs.Right as Second
use Rattle.checker.specs.Concluded.{FindsShortest}

pub plain_right : FindsShortest (λ work xs. searched sources next [] work xs)
plain_right es s = Plain.search-right es s.few

pub second_right : FindsShortest second_searched
second_right es s = Second.possible-search-right es s.can-be s.in-range s.few
