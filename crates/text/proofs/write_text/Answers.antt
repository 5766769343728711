-- `text::write_text`: 1, 2, 5 to 7, 3, or the lines.
use native.Mathlib.Omega.{arith}
use mathlib.Core.Path.{sym, ap, ◌∙◌}
use Rattle.record.specs.Answers.{refusal_of}
use Rattle.text.specs.File.{ending}
use Rattle.text.specs.Steps.{refusal_in}
use Rattle.text.proofs.Endings.{passed, write-one, write_two, write-faulty, write-three, write-all}
use Rattle.text.proofs.write_text.Goals as goal

pub returns-then-input-ne0 : goal.returns-then-input-ne0
returns-then-input-ne0 c = write-one c.args.input.now c.args.out.now c.into.result c.if-input-ne0.true (ap refusal_of c.into.ensures)

pub returns-then-input-gt8192 : goal.returns-then-input-gt8192
returns-then-input-gt8192 c = write_two c.args.input.now c.args.out.now c.into-then-input-gt8192.result c.if-input-ne0.false c.if-input-gt8192.true (ap refusal_of c.into-then-input-gt8192.ensures)

pub returns-in_err-first_faulty : goal.returns-in_err-first_faulty
returns-in_err-first_faulty c =
    let whole = c.if-input-ne0.false in
    let few = c.if-input-gt8192.false in
    let found = c.in_err-first_faulty.field-0.0 in
    let told = sym (ap refusal_in c.in_err-first_faulty.was) ∙ c.first_faulty.ensures in
    ap (λ r. ending r c.args.out.now) (passed c.from_residual.result found c.from_residual.ensures.1) ∙ write-faulty c.args.input.now c.args.out.now whole few found told

pub returns-then-out-text_size : goal.returns-then-out-text_size
returns-then-out-text_size c =
    let whole = c.if-input-ne0.false in
    let few = c.if-input-gt8192.false in
    let none = sym c.first_faulty.ensures ∙ ap refusal_in c.in_ok-first_faulty.was in
    write-three c.args.input.now c.args.out.now whole few none c.into-then-out-text_size.result (omega (arith, c.text_size.ensures)) (ap refusal_of c.into-then-out-text_size.ensures)

pub returns : goal.returns
returns c =
    let whole = c.if-input-ne0.false in
    let few = c.if-input-gt8192.false in
    let none = sym c.first_faulty.ensures ∙ ap refusal_in c.in_ok-first_faulty.was in
    write-all c.args.input.now c.args.out.now whole few none c.put_lines.result c.put_lines.new.out (omega (arith, c.text_size.ensures)) c.put_lines.ensures.0 c.put_lines.ensures.1
