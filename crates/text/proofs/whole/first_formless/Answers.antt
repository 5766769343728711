-- `whole::first_formless`: the first line that is refused, with its place.
use Prim.Native.Nat.{ℕ}
use mathlib.Core.Path.{sym, ap, ◌∙◌}
use Rattle.std.proofs.Common.{rules}
use Rattle.std.proofs.lemmas.List.Sorted.{answers_always}
use Rattle.std.specs.Iterator.Adapters.{enumerate_source, enumerate_count}
use Rattle.std.specs.Slice.Iter.{split_inclusive_rest}
use Rattle.record.specs.Answers.{refusal_of}
use Rattle.text.specs.Line.{line_read}
use Rattle.text.specs.File.{first_refused, lines}
use Rattle.text.proofs.Wholes.{line-next, lines-none, refusal-on, refusal-here, refusal-end}
use Rattle.text.proofs.whole.first_formless.Goals as goal

pub returns-in-Err : goal.returns-in-Err
returns-in-Err c =
    let s = c.loop-place.place-iterator in
    let t = c.next.new.self in
    let more = line-next (enumerate_source s) (enumerate_source t) c.in-Some.line (answers_always _ _ _ (λ f a r f' h. search rules)) c.in-Some.ensures.steps.0 in
    ap (λ (p : ℕ). refusal_of (record { fault = c.in-Err.no.fault; place = p })) c.in-Some.ensures.steps.1
    ∙ sym (c.loop-place.invariant.same ∙ refusal-here line_read (enumerate_count s) c.in-Some.line.now (lines (split_inclusive_rest (enumerate_source t))) (lines (split_inclusive_rest (enumerate_source s))) more c.read_line.result c.in-Err.no c.read_line.ensures c.in-Err.is)

pub loop-place-preserved : goal.loop-place-preserved
loop-place-preserved c =
    let s = c.loop-place.place-iterator in
    let t = c.next.new.self in
    let more = line-next (enumerate_source s) (enumerate_source t) c.in-Some.line (answers_always _ _ _ (λ f a r f' h. search rules)) c.in-Some.ensures.steps.0 in
    record {
      can = search rules;
      ends = search rules;
      same =
          c.loop-place.invariant.same
          ∙ refusal-on line_read (enumerate_count s) c.in-Some.line.now (lines (split_inclusive_rest (enumerate_source t))) (lines (split_inclusive_rest (enumerate_source s))) more c.read_line.result c.in_default.field-0 c.read_line.ensures c.in_default.is
          ∙ ap (λ n. first_refused line_read n (lines (split_inclusive_rest (enumerate_source t)))) (sym c.in-Some.ensures.steps.2);
    }

pub returns : goal.returns
returns c =
    let s = c.loop-place.place-iterator in
    sym (c.loop-place.invariant.same ∙ refusal-end line_read (enumerate_count s) (lines (split_inclusive_rest (enumerate_source s))) (lines-none (split_inclusive_rest (enumerate_source s)) c.in-None.ensures.steps.0.0))
