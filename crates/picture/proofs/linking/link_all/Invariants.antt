-- `picture::linking::link_all` meets its contract: the edges of the first k records are marked.
use mathlib.Core.Path.{◌≡◌}
use lib.ListN.{drop, take}
use Rattle.picture.specs.Linking.{Links}
use Rattle.picture.proofs.linking.link_all.Given as goal

abbrev pub invariant-loop-k : goal.invariant-loop-k
invariant-loop-k l = record {
  links : Links (take l.k l.records) l.work;
  rest : drop 4096 l.work ≡ drop 4096 l.initial.work;
}
