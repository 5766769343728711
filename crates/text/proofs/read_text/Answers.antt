-- `text::read_text`: 2, 3, 14, or the records.
use Prim.Native.Nat.{◌*◌, ◌≤◌}
use native.Mathlib.Omega.{arith}
use mathlib.Core.Path.{sym, ap, ◌∙◌}
use lib.ListN.{length}
use Rattle.record.specs.Answers.{refusal_of}
use Rattle.text.specs.File.{feeds, ending}
use Rattle.text.specs.Steps.{refusal_in}
use Rattle.text.proofs.Endings.{passed, read-two, read-three, read-fourteen, records-fit, read_all}
use Rattle.text.proofs.read_text.Goals as goal

pub returns-then-feeds-gt1024 : goal.returns-then-feeds-gt1024
returns-then-feeds-gt1024 c = read-two c.args.text.now c.args.out.now c.into.result (omega (arith, c.line_feeds-feeds.ensures)) (ap refusal_of c.into.ensures)

pub returns-then-out-feeds : goal.returns-then-out-feeds
returns-then-out-feeds c =
    let few : feeds c.args.text.now ≤ 1024 = omega (arith, c.line_feeds-feeds.ensures) in
    read-three c.args.text.now c.args.out.now c.into-then-out-feeds.result few (omega (arith, c.line_feeds-feeds.ensures)) (ap refusal_of c.into-then-out-feeds.ensures)

pub returns-in_err-first_formless : goal.returns-in_err-first_formless
returns-in_err-first_formless c =
    let few : feeds c.args.text.now ≤ 1024 = omega (arith, c.line_feeds-feeds.ensures) in
    let room : 8 * feeds c.args.text.now ≤ length c.args.out.now = omega (arith, c.line_feeds-feeds.ensures) in
    let found = c.in_err-first_formless.field-0.0 in
    let told = sym (ap refusal_in c.in_err-first_formless.was) ∙ c.first_formless.ensures in
    ap (λ r. ending r c.args.out.now) (passed c.from_residual.result found c.from_residual.ensures.1) ∙ read-fourteen c.args.text.now c.args.out.now few room found told

pub put_records-requires : goal.put_records-requires
put_records-requires c =
    let few : feeds c.args.text.now ≤ 1024 = omega (arith, c.line_feeds-feeds.ensures) in
    let room : 8 * feeds c.args.text.now ≤ length c.args.out.now = omega (arith, c.line_feeds-feeds.ensures) in
    let none = sym c.first_formless.ensures ∙ ap refusal_in c.in_ok-first_formless.was in
    records-fit c.args.text.now c.args.out.now few room none

pub returns : goal.returns
returns c =
    let few : feeds c.args.text.now ≤ 1024 = omega (arith, c.line_feeds-feeds.ensures) in
    let room : 8 * feeds c.args.text.now ≤ length c.args.out.now = omega (arith, c.line_feeds-feeds.ensures) in
    let none = sym c.first_formless.ensures ∙ ap refusal_in c.in_ok-first_formless.was in
    read_all c.args.text.now c.args.out.now few room none c.put_records.result c.put_records.new.out c.put_records.ensures.0 c.put_records.ensures.1
