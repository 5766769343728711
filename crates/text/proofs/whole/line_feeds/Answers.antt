-- `text::whole::line_feeds` meets its contract.
use native.Mathlib.Omega.{arith}
use mathlib.Core.Path.{ap, ◌∙◌}
use lib.Dec.{eqb}
use lib.Seq.{take_all}
use Rattle.std.specs.List.{count_by}
use Rattle.text.specs.Line.{line_feed}
use Rattle.text.proofs.Wholes.{feeds-counted}
use Rattle.text.proofs.whole.line_feeds.Goals as goal

pub returns : goal.returns
returns c =
    let all = take_all c.loop-c.c-index c.args.text.now (omega arith) in
    c.loop-c.invariant.1 ∙ ap (count_by (λ c. eqb c line_feed)) all ∙ feeds-counted c.args.text.now
