-- `making::push_fields`: by the kind, nothing, a target, or a target and a value.
use Prim.Native.Nat.{◌≤◌, ◌<◌}
use native.Mathlib.Omega.{arith}
use mathlib.Core.Path.{sym, ap, ap₂, ◌∙◌}
use mathlib.Core.List.{[], ◌∷◌, ◌++◌, append_assoc, append-nil}
use lib.ListN.{length, length-append}
use Rattle.record.specs.Record.{kind}
use Rattle.decimal.proofs.Decimals.{size-three, size-five}
use Rattle.text.specs.Steps.{spaced_out}
use Rattle.text.proofs.Makings.{field-size, fields-none, fields-one, fields-two}
use Rattle.text.proofs.making.push_fields.Goals as goal

pub returns-then-kind-gt9 : goal.returns-then-kind-gt9
returns-then-kind-gt9 c =
    let a = c.args in
    let k : 9 < kind a.op = omega arith in
    (sym (ap (λ r. a.line.now ++ r) (fields-none a.op k) ∙ append-nil a.line.now), omega arith)

pub push_field-requires : goal.push_field-requires
push_field-requires c = omega (arith, size-three c.target.result (omega arith))

pub returns-then-kind-gt2 : goal.returns-then-kind-gt2
returns-then-kind-gt2 c =
    let a = c.args in
    let k : kind a.op ≤ 9 = omega arith in
    let l : 2 < kind a.op = omega arith in (
      c.push_field.ensures ∙ ap (λ r. a.line.now ++ r) (ap (λ n. spaced_out (n ∷ [])) c.target.ensures ∙ sym (fields-one a.op l k)),
      omega (arith, ap length c.push_field.ensures, length-append a.line.now (spaced_out (c.target.result ∷ [])), field-size c.target.result, size-three c.target.result (omega arith)),
    )

pub push_field-requires-2 : goal.push_field-requires-2
push_field-requires-2 c =
    let a = c.args in
    omega (arith, ap length c.push_field.ensures, length-append a.line.now (spaced_out (c.target.result ∷ [])), field-size c.target.result, size-three c.target.result (omega arith), size-five c.value.result (omega arith))

pub returns : goal.returns
returns c =
    let a = c.args in
    let k : kind a.op ≤ 2 = omega arith in
    let x = spaced_out (c.target.result ∷ []) in
    let v = spaced_out (c.value.result ∷ []) in (
      c.push_field-2.ensures ∙ ap (λ r. r ++ v) c.push_field.ensures ∙ append_assoc a.line.now x v
          ∙ ap (λ r. a.line.now ++ r) (ap₂ (λ i j. spaced_out (i ∷ []) ++ spaced_out (j ∷ [])) c.target.ensures c.value.ensures ∙ sym (fields-two a.op k)),
      omega (
        arith,
        ap length c.push_field-2.ensures,
        length-append c.push_field.new.line v,
        ap length c.push_field.ensures,
        length-append a.line.now x,
        field-size c.target.result,
        field-size c.value.result,
        size-three c.target.result (omega arith),
        size-five c.value.result (omega arith),
      ),
    )
