-- `naming::chains::Chains::next_of` meets its contract.
use native.Mathlib.Omega.{arith}
use mathlib.Core.Path.{ap, ◌∙◌}
use Rattle.std.specs.Prelude.{unwrap_or}
use Rattle.naming.specs.Chains.{no_record}
use Rattle.naming.proofs.chains.Chains.next_of.Goals as goal

pub returns : goal.returns
returns c = c.unwrap_or.ensures ∙ ap (λ r. unwrap_or r no_record) c.copied.ensures ∙ c.get.ensures.lookup.4 (omega arith) no_record
