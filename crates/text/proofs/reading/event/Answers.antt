-- `reading::event`: word by word, with what stands wrong in a line that has none.
use native.Mathlib.Omega.{arith}
use mathlib.Core.Path.{sym, ap, ◌∙◌}
use mathlib.Core.List.{◌∷◌}
use Rattle.std.proofs.Common.{rules}
use Rattle.std.proofs.lemmas.List.Sorted.{answers_always}
use Rattle.std.specs.Prelude.{Some, Ok}
use Rattle.record.specs.Record.{target_limit}
use Rattle.text.specs.Steps.{number_in, kind_in, event_in}
use Rattle.text.proofs.Lines.{line-empty}
use Rattle.text.proofs.Scans.{number-given, number-none}
use Rattle.text.proofs.Readings.{left, last-feed, last-other, begun, next-word, next-none, thread-bad, thread-good, kind-missing, kind-bad, kind-good, target-missing, target-bad, value-missing, value-bad, too-many, fields-read, Field, field-taken, field-none, more-words, no-words}
use Rattle.text.proofs.reading.event.Goals.{then-kind-lt10+in_ok-next-3+in_ok-number, else-kind-lt10, then-kind-lt3+in_ok-next-4+in_ok-value, else-kind-lt3}
use Rattle.text.proofs.reading.event.Goals as goal

pub returns-in_err-last : goal.returns-in_err-last
returns-in_err-last c = ap event_in c.from_residual.ensures ∙ sym (line-empty c.args.line.now c.in_err-last.ensures.cases)

pub returns-then-last-ne10 : goal.returns-then-last-ne10
returns-then-last-ne10 c = sym (last-other c.args.line.now c.in_ok-last.body.now c.in_ok-last.last.now c.in_ok-last.ensures.cases.0 c.if-last-ne10.true)

pub returns-in_err-thread : goal.returns-in_err-thread
returns-in_err-thread c =
    let ended = begun c.args.line.now c.in_ok-last.body.now c.split-words.result (last-feed c.args.line.now c.in_ok-last.body.now c.in_ok-last.last.now c.in_ok-last.ensures.cases.0 c.if-last-ne10.false) c.split-words.ensures.rest c.split-words.ensures.done in
    let first = next-word c.split-words.result c.next.new.self c.in_ok-next.field-0 (answers_always _ _ _ (λ f a r f' h. search rules)) c.in_ok-next.ensures.steps in
    let none = number-none 15 c.in_ok-next.field-0.now (sym c.in_err-thread.was ∙ c.number.ensures) in
    ap event_in c.from_residual-in_err-thread.ensures ∙ sym (ended ∙ thread-bad (left c.split-words.result) (left c.next.new.self) c.in_ok-next.field-0.now first.0 none)

pub overflow_cast-thread : goal.overflow_cast-thread
overflow_cast-thread c =
    let number = number-given 15 c.in_ok-next.field-0.now c.in_ok-thread.field-0 (sym c.in_ok-thread.was ∙ c.number.ensures) in
    omega (arith, number.within)

pub returns-in_err-next-2 : goal.returns-in_err-next-2
returns-in_err-next-2 c =
    let ended = begun c.args.line.now c.in_ok-last.body.now c.split-words.result (last-feed c.args.line.now c.in_ok-last.body.now c.in_ok-last.last.now c.in_ok-last.ensures.cases.0 c.if-last-ne10.false) c.split-words.ensures.rest c.split-words.ensures.done in
    let first = next-word c.split-words.result c.next.new.self c.in_ok-next.field-0 (answers_always _ _ _ (λ f a r f' h. search rules)) c.in_ok-next.ensures.steps in
    let t = c.in_ok-thread.field-0 in
    let number = number-given 15 c.in_ok-next.field-0.now t (sym c.in_ok-thread.was ∙ c.number.ensures) in
    let threaded = ended ∙ thread-good (left c.split-words.result) (left c.next.new.self) c.in_ok-next.field-0.now t first.0 number in
    ap event_in c.from_residual-in_err-next-2.ensures ∙ sym (threaded ∙ kind-missing t (left c.next.new.self) (next-none c.next.new.self c.in_err-next-2.ensures.steps.0))

pub returns-in_err-kind : goal.returns-in_err-kind
returns-in_err-kind c =
    let ended = begun c.args.line.now c.in_ok-last.body.now c.split-words.result (last-feed c.args.line.now c.in_ok-last.body.now c.in_ok-last.last.now c.in_ok-last.ensures.cases.0 c.if-last-ne10.false) c.split-words.ensures.rest c.split-words.ensures.done in
    let first = next-word c.split-words.result c.next.new.self c.in_ok-next.field-0 (answers_always _ _ _ (λ f a r f' h. search rules)) c.in_ok-next.ensures.steps in
    let t = c.in_ok-thread.field-0 in
    let number = number-given 15 c.in_ok-next.field-0.now t (sym c.in_ok-thread.was ∙ c.number.ensures) in
    let threaded = ended ∙ thread-good (left c.split-words.result) (left c.next.new.self) c.in_ok-next.field-0.now t first.0 number in
    let second = next-word c.next.new.self c.next-2.new.self c.in_ok-next-2.field-0 first.1 c.in_ok-next-2.ensures.steps in
    let none = sym c.kind_named.ensures.named ∙ ap kind_in c.in_err-kind.was in
    ap event_in c.from_residual-in_err-kind.ensures ∙ sym (threaded ∙ kind-bad t (left c.next.new.self) (left c.next-2.new.self) c.in_ok-next-2.field-0.now second.0 none)

pub returns-in_err-next-3 : goal.returns-in_err-next-3
returns-in_err-next-3 c =
    let ended = begun c.args.line.now c.in_ok-last.body.now c.split-words.result (last-feed c.args.line.now c.in_ok-last.body.now c.in_ok-last.last.now c.in_ok-last.ensures.cases.0 c.if-last-ne10.false) c.split-words.ensures.rest c.split-words.ensures.done in
    let first = next-word c.split-words.result c.next.new.self c.in_ok-next.field-0 (answers_always _ _ _ (λ f a r f' h. search rules)) c.in_ok-next.ensures.steps in
    let t = c.in_ok-thread.field-0 in
    let number = number-given 15 c.in_ok-next.field-0.now t (sym c.in_ok-thread.was ∙ c.number.ensures) in
    let threaded = ended ∙ thread-good (left c.split-words.result) (left c.next.new.self) c.in_ok-next.field-0.now t first.0 number in
    let second = next-word c.next.new.self c.next-2.new.self c.in_ok-next-2.field-0 first.1 c.in_ok-next-2.ensures.steps in
    let k = c.in_ok-kind.kind in
    let kind = sym (ap kind_in c.in_ok-kind.was) ∙ c.kind_named.ensures.named in
    let known = threaded ∙ kind-good t k (left c.next.new.self) (left c.next-2.new.self) c.in_ok-next-2.field-0.now second.0 kind c.in_ok-kind.ensures.within.0 in
    ap event_in c.from_residual-in_err-next-3.ensures ∙ sym (known ∙ target-missing t k (left c.next-2.new.self) (next-none c.next-2.new.self c.in_err-next-3.ensures.steps.0) c.if-kind-lt10.true)

pub returns-in_err-number : goal.returns-in_err-number
returns-in_err-number c =
    let ended = begun c.args.line.now c.in_ok-last.body.now c.split-words.result (last-feed c.args.line.now c.in_ok-last.body.now c.in_ok-last.last.now c.in_ok-last.ensures.cases.0 c.if-last-ne10.false) c.split-words.ensures.rest c.split-words.ensures.done in
    let first = next-word c.split-words.result c.next.new.self c.in_ok-next.field-0 (answers_always _ _ _ (λ f a r f' h. search rules)) c.in_ok-next.ensures.steps in
    let t = c.in_ok-thread.field-0 in
    let number = number-given 15 c.in_ok-next.field-0.now t (sym c.in_ok-thread.was ∙ c.number.ensures) in
    let threaded = ended ∙ thread-good (left c.split-words.result) (left c.next.new.self) c.in_ok-next.field-0.now t first.0 number in
    let second = next-word c.next.new.self c.next-2.new.self c.in_ok-next-2.field-0 first.1 c.in_ok-next-2.ensures.steps in
    let k = c.in_ok-kind.kind in
    let kind = sym (ap kind_in c.in_ok-kind.was) ∙ c.kind_named.ensures.named in
    let known = threaded ∙ kind-good t k (left c.next.new.self) (left c.next-2.new.self) c.in_ok-next-2.field-0.now second.0 kind c.in_ok-kind.ensures.within.0 in
    let third = next-word c.next-2.new.self c.next-then-kind-lt10.new.self c.in_ok-next-3.field-0 second.1 c.in_ok-next-3.ensures.steps in
    let none = number-none (target_limit k) c.in_ok-next-3.field-0.now (sym c.in_err-number.was ∙ c.number-then-kind-lt10.ensures ∙ ap (λ m. number_in m c.in_ok-next-3.field-0.now) c.target_limit.ensures) in
    ap event_in c.from_residual-in_err-number.ensures ∙ sym (known ∙ target-bad t k (left c.next-2.new.self) c.in_ok-next-3.field-0.now (left c.next-then-kind-lt10.new.self) third.0 none c.if-kind-lt10.true)

pub overflow_cast-target : goal.overflow_cast-target
overflow_cast-target c =
    let number = number-given c.target_limit.result c.in_ok-next-3.field-0.now c.in_ok-number.field-0 (sym c.in_ok-number.was ∙ c.number-then-kind-lt10.ensures) in
    omega (arith, number.within)

pub returns-in_err-next-4 : goal.returns-in_err-next-4
returns-in_err-next-4 c =
    let ended = begun c.args.line.now c.in_ok-last.body.now c.split-words.result (last-feed c.args.line.now c.in_ok-last.body.now c.in_ok-last.last.now c.in_ok-last.ensures.cases.0 c.if-last-ne10.false) c.split-words.ensures.rest c.split-words.ensures.done in
    let first = next-word c.split-words.result c.next.new.self c.in_ok-next.field-0 (answers_always _ _ _ (λ f a r f' h. search rules)) c.in_ok-next.ensures.steps in
    let t = c.in_ok-thread.field-0 in
    let number = number-given 15 c.in_ok-next.field-0.now t (sym c.in_ok-thread.was ∙ c.number.ensures) in
    let threaded = ended ∙ thread-good (left c.split-words.result) (left c.next.new.self) c.in_ok-next.field-0.now t first.0 number in
    let second = next-word c.next.new.self c.next-2.new.self c.in_ok-next-2.field-0 first.1 c.in_ok-next-2.ensures.steps in
    let k = c.in_ok-kind.kind in
    let kind = sym (ap kind_in c.in_ok-kind.was) ∙ c.kind_named.ensures.named in
    let known = threaded ∙ kind-good t k (left c.next.new.self) (left c.next-2.new.self) c.in_ok-next-2.field-0.now second.0 kind c.in_ok-kind.ensures.within.0 in
    let target : Field k 10 (target_limit k) (left c.next-2.new.self) (left c.if-kind-lt10.words) c.if-kind-lt10.target = elim c.if-kind-lt10.branch [
      | then-kind-lt10+in_ok-next-3+in_ok-number w ↦
          let third = next-word c.next-2.new.self w.next-then-kind-lt10.new.self w.in_ok-next-3.field-0 second.1 w.in_ok-next-3.ensures.steps in
          field-taken k 10 (target_limit k) _ _ w.in_ok-next-3.field-0.now _ w.if-kind-lt10.true (third.0 ∙ ap (λ r. w.in_ok-next-3.field-0.now ∷ left r) (sym w.words-is)) (number-given (target_limit k) w.in_ok-next-3.field-0.now c.if-kind-lt10.target (ap Some w.target-is ∙ sym w.in_ok-number.was ∙ w.number-then-kind-lt10.ensures ∙ ap (λ m. number_in m w.in_ok-next-3.field-0.now) w.target_limit.ensures))
      | else-kind-lt10 w ↦ field-none k 10 (target_limit k) _ _ _ w.if-kind-lt10.false (ap left (sym w.words-is)) w.target-is
    ] in
    ap event_in c.from_residual-in_err-next-4.ensures ∙ sym (known ∙ value-missing t k (left c.next-2.new.self) (left c.if-kind-lt10.words) c.if-kind-lt10.target target (next-none c.if-kind-lt10.words c.in_err-next-4.ensures.steps.0) c.if-kind-lt3.true)

pub returns-in_err-value : goal.returns-in_err-value
returns-in_err-value c =
    let ended = begun c.args.line.now c.in_ok-last.body.now c.split-words.result (last-feed c.args.line.now c.in_ok-last.body.now c.in_ok-last.last.now c.in_ok-last.ensures.cases.0 c.if-last-ne10.false) c.split-words.ensures.rest c.split-words.ensures.done in
    let first = next-word c.split-words.result c.next.new.self c.in_ok-next.field-0 (answers_always _ _ _ (λ f a r f' h. search rules)) c.in_ok-next.ensures.steps in
    let t = c.in_ok-thread.field-0 in
    let number = number-given 15 c.in_ok-next.field-0.now t (sym c.in_ok-thread.was ∙ c.number.ensures) in
    let threaded = ended ∙ thread-good (left c.split-words.result) (left c.next.new.self) c.in_ok-next.field-0.now t first.0 number in
    let second = next-word c.next.new.self c.next-2.new.self c.in_ok-next-2.field-0 first.1 c.in_ok-next-2.ensures.steps in
    let k = c.in_ok-kind.kind in
    let kind = sym (ap kind_in c.in_ok-kind.was) ∙ c.kind_named.ensures.named in
    let known = threaded ∙ kind-good t k (left c.next.new.self) (left c.next-2.new.self) c.in_ok-next-2.field-0.now second.0 kind c.in_ok-kind.ensures.within.0 in
    let target : Field k 10 (target_limit k) (left c.next-2.new.self) (left c.if-kind-lt10.words) c.if-kind-lt10.target = elim c.if-kind-lt10.branch [
      | then-kind-lt10+in_ok-next-3+in_ok-number w ↦
          let third = next-word c.next-2.new.self w.next-then-kind-lt10.new.self w.in_ok-next-3.field-0 second.1 w.in_ok-next-3.ensures.steps in
          field-taken k 10 (target_limit k) _ _ w.in_ok-next-3.field-0.now _ w.if-kind-lt10.true (third.0 ∙ ap (λ r. w.in_ok-next-3.field-0.now ∷ left r) (sym w.words-is)) (number-given (target_limit k) w.in_ok-next-3.field-0.now c.if-kind-lt10.target (ap Some w.target-is ∙ sym w.in_ok-number.was ∙ w.number-then-kind-lt10.ensures ∙ ap (λ m. number_in m w.in_ok-next-3.field-0.now) w.target_limit.ensures))
      | else-kind-lt10 w ↦ field-none k 10 (target_limit k) _ _ _ w.if-kind-lt10.false (ap left (sym w.words-is)) w.target-is
    ] in
    let fourth = next-word c.if-kind-lt10.words c.next-then-kind-lt3.new.self c.in_ok-next-4.field-0 first.1 c.in_ok-next-4.ensures.steps in
    let none = number-none 65535 c.in_ok-next-4.field-0.now (sym c.in_err-value.was ∙ c.number-then-kind-lt3.ensures) in
    ap event_in c.from_residual-in_err-value.ensures ∙ sym (known ∙ value-bad t k (left c.next-2.new.self) (left c.if-kind-lt10.words) c.if-kind-lt10.target target c.in_ok-next-4.field-0.now (left c.next-then-kind-lt3.new.self) fourth.0 none c.if-kind-lt3.true)

pub returns-then-is_some : goal.returns-then-is_some
returns-then-is_some c =
    let ended = begun c.args.line.now c.in_ok-last.body.now c.split-words.result (last-feed c.args.line.now c.in_ok-last.body.now c.in_ok-last.last.now c.in_ok-last.ensures.cases.0 c.if-last-ne10.false) c.split-words.ensures.rest c.split-words.ensures.done in
    let first = next-word c.split-words.result c.next.new.self c.in_ok-next.field-0 (answers_always _ _ _ (λ f a r f' h. search rules)) c.in_ok-next.ensures.steps in
    let t = c.in_ok-thread.field-0 in
    let number = number-given 15 c.in_ok-next.field-0.now t (sym c.in_ok-thread.was ∙ c.number.ensures) in
    let threaded = ended ∙ thread-good (left c.split-words.result) (left c.next.new.self) c.in_ok-next.field-0.now t first.0 number in
    let second = next-word c.next.new.self c.next-2.new.self c.in_ok-next-2.field-0 first.1 c.in_ok-next-2.ensures.steps in
    let k = c.in_ok-kind.kind in
    let kind = sym (ap kind_in c.in_ok-kind.was) ∙ c.kind_named.ensures.named in
    let known = threaded ∙ kind-good t k (left c.next.new.self) (left c.next-2.new.self) c.in_ok-next-2.field-0.now second.0 kind c.in_ok-kind.ensures.within.0 in
    let target : Field k 10 (target_limit k) (left c.next-2.new.self) (left c.if-kind-lt10.words) c.if-kind-lt10.target = elim c.if-kind-lt10.branch [
      | then-kind-lt10+in_ok-next-3+in_ok-number w ↦
          let third = next-word c.next-2.new.self w.next-then-kind-lt10.new.self w.in_ok-next-3.field-0 second.1 w.in_ok-next-3.ensures.steps in
          field-taken k 10 (target_limit k) _ _ w.in_ok-next-3.field-0.now _ w.if-kind-lt10.true (third.0 ∙ ap (λ r. w.in_ok-next-3.field-0.now ∷ left r) (sym w.words-is)) (number-given (target_limit k) w.in_ok-next-3.field-0.now c.if-kind-lt10.target (ap Some w.target-is ∙ sym w.in_ok-number.was ∙ w.number-then-kind-lt10.ensures ∙ ap (λ m. number_in m w.in_ok-next-3.field-0.now) w.target_limit.ensures))
      | else-kind-lt10 w ↦ field-none k 10 (target_limit k) _ _ _ w.if-kind-lt10.false (ap left (sym w.words-is)) w.target-is
    ] in
    let value : Field k 3 65535 (left c.if-kind-lt10.words) (left c.if-kind-lt3.words) c.if-kind-lt3.value = elim c.if-kind-lt3.branch [
      | then-kind-lt3+in_ok-next-4+in_ok-value w ↦
          let fourth = next-word c.if-kind-lt10.words w.next-then-kind-lt3.new.self w.in_ok-next-4.field-0 first.1 w.in_ok-next-4.ensures.steps in
          field-taken k 3 65535 _ _ w.in_ok-next-4.field-0.now _ w.if-kind-lt3.true (fourth.0 ∙ ap (λ r. w.in_ok-next-4.field-0.now ∷ left r) (sym w.words-is)) (number-given 65535 w.in_ok-next-4.field-0.now c.if-kind-lt3.value (ap Some w.value-is ∙ sym w.in_ok-value.was ∙ w.number-then-kind-lt3.ensures))
      | else-kind-lt3 w ↦ field-none k 3 65535 _ _ _ w.if-kind-lt3.false (ap left (sym w.words-is)) w.value-is
    ] in
    let more = more-words c.if-kind-lt3.words c.next-3.new.self c.next-3.result first.1 c.next-3.ensures.steps (sym c.is_some.ensures ∙ c.if-is_some.true) in
    sym (known ∙ too-many t k (left c.next-2.new.self) (left c.if-kind-lt10.words) c.if-kind-lt10.target target (left c.if-kind-lt3.words) c.if-kind-lt3.value value more.0 (left c.next-3.new.self) more.1)

pub returns : goal.returns
returns c =
    let ended = begun c.args.line.now c.in_ok-last.body.now c.split-words.result (last-feed c.args.line.now c.in_ok-last.body.now c.in_ok-last.last.now c.in_ok-last.ensures.cases.0 c.if-last-ne10.false) c.split-words.ensures.rest c.split-words.ensures.done in
    let first = next-word c.split-words.result c.next.new.self c.in_ok-next.field-0 (answers_always _ _ _ (λ f a r f' h. search rules)) c.in_ok-next.ensures.steps in
    let t = c.in_ok-thread.field-0 in
    let number = number-given 15 c.in_ok-next.field-0.now t (sym c.in_ok-thread.was ∙ c.number.ensures) in
    let threaded = ended ∙ thread-good (left c.split-words.result) (left c.next.new.self) c.in_ok-next.field-0.now t first.0 number in
    let second = next-word c.next.new.self c.next-2.new.self c.in_ok-next-2.field-0 first.1 c.in_ok-next-2.ensures.steps in
    let k = c.in_ok-kind.kind in
    let kind = sym (ap kind_in c.in_ok-kind.was) ∙ c.kind_named.ensures.named in
    let known = threaded ∙ kind-good t k (left c.next.new.self) (left c.next-2.new.self) c.in_ok-next-2.field-0.now second.0 kind c.in_ok-kind.ensures.within.0 in
    let target : Field k 10 (target_limit k) (left c.next-2.new.self) (left c.if-kind-lt10.words) c.if-kind-lt10.target = elim c.if-kind-lt10.branch [
      | then-kind-lt10+in_ok-next-3+in_ok-number w ↦
          let third = next-word c.next-2.new.self w.next-then-kind-lt10.new.self w.in_ok-next-3.field-0 second.1 w.in_ok-next-3.ensures.steps in
          field-taken k 10 (target_limit k) _ _ w.in_ok-next-3.field-0.now _ w.if-kind-lt10.true (third.0 ∙ ap (λ r. w.in_ok-next-3.field-0.now ∷ left r) (sym w.words-is)) (number-given (target_limit k) w.in_ok-next-3.field-0.now c.if-kind-lt10.target (ap Some w.target-is ∙ sym w.in_ok-number.was ∙ w.number-then-kind-lt10.ensures ∙ ap (λ m. number_in m w.in_ok-next-3.field-0.now) w.target_limit.ensures))
      | else-kind-lt10 w ↦ field-none k 10 (target_limit k) _ _ _ w.if-kind-lt10.false (ap left (sym w.words-is)) w.target-is
    ] in
    let value : Field k 3 65535 (left c.if-kind-lt10.words) (left c.if-kind-lt3.words) c.if-kind-lt3.value = elim c.if-kind-lt3.branch [
      | then-kind-lt3+in_ok-next-4+in_ok-value w ↦
          let fourth = next-word c.if-kind-lt10.words w.next-then-kind-lt3.new.self w.in_ok-next-4.field-0 first.1 w.in_ok-next-4.ensures.steps in
          field-taken k 3 65535 _ _ w.in_ok-next-4.field-0.now _ w.if-kind-lt3.true (fourth.0 ∙ ap (λ r. w.in_ok-next-4.field-0.now ∷ left r) (sym w.words-is)) (number-given 65535 w.in_ok-next-4.field-0.now c.if-kind-lt3.value (ap Some w.value-is ∙ sym w.in_ok-value.was ∙ w.number-then-kind-lt3.ensures))
      | else-kind-lt3 w ↦ field-none k 3 65535 _ _ _ w.if-kind-lt3.false (ap left (sym w.words-is)) w.value-is
    ] in
    let ends = no-words _ c.if-kind-lt3.words c.next-3.new.self c.next-3.result c.next-3.ensures.steps (sym c.is_some.ensures ∙ c.if-is_some.false) in
    ap (λ o. Ok (record { thread = t; op = o })) c.operation_of-op.ensures
    ∙ sym (known ∙ fields-read t k (left c.next-2.new.self) (left c.if-kind-lt10.words) c.if-kind-lt10.target target (left c.if-kind-lt3.words) c.if-kind-lt3.value value ends)
