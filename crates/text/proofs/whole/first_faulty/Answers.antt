-- `whole::first_faulty`: the first record that is refused, with its place.
use Prim.Native.Nat.{ℕ, ◌<◌}
use native.Mathlib.Omega.{arith}
use mathlib.Core.Path.{sym, ap, ◌∙◌}
use lib.ListN.{length}
use Rattle.std.proofs.Common.{rules}
use Rattle.std.specs.Iterator.Adapters.{enumerate_source, enumerate_count}
use Rattle.std.specs.Slice.Iter.{chunks_exact_rest}
use Rattle.record.specs.Answers.{refusal_of}
use Rattle.record.specs.Record.{decoded, records_of}
use Rattle.text.specs.File.{first_refused}
use Rattle.text.proofs.Wholes.{records-next, records-none, refusal-on, refusal-here, refusal-end}
use Rattle.text.proofs.whole.first_faulty.Goals as goal

pub returns-in-Err : goal.returns-in-Err
returns-in-Err c =
    let s = c.loop-place.place-iterator in
    let t = c.next.new.self in
    let more = records-next (chunks_exact_rest (enumerate_source s)) c.in-Some.bytes.now (chunks_exact_rest (enumerate_source t)) c.in-Some.ensures.steps.0.1.0 (c.in-Some.ensures.steps.0.1.1 ∙ c.loop-place.invariant.size) in
    ap (λ (p : ℕ). refusal_of (record { fault = c.in-Err.no.fault; place = p })) c.in-Some.ensures.steps.1
    ∙ sym (c.loop-place.invariant.same ∙ refusal-here decoded (enumerate_count s) c.in-Some.bytes.now (records_of (chunks_exact_rest (enumerate_source t))) (records_of (chunks_exact_rest (enumerate_source s))) more c.decode.result c.in-Err.no c.decode.ensures c.in-Err.is)

pub loop-place-preserved : goal.loop-place-preserved
loop-place-preserved c =
    let s = c.loop-place.place-iterator in
    let t = c.next.new.self in
    let more = records-next (chunks_exact_rest (enumerate_source s)) c.in-Some.bytes.now (chunks_exact_rest (enumerate_source t)) c.in-Some.ensures.steps.0.1.0 (c.in-Some.ensures.steps.0.1.1 ∙ c.loop-place.invariant.size) in
    record {
      can = search rules;
      ends = search rules;
      size = c.in-Some.ensures.steps.0.0 ∙ c.loop-place.invariant.size;
      same =
          c.loop-place.invariant.same
          ∙ refusal-on decoded (enumerate_count s) c.in-Some.bytes.now (records_of (chunks_exact_rest (enumerate_source t))) (records_of (chunks_exact_rest (enumerate_source s))) more c.decode.result c.in_default.field-0 c.decode.ensures c.in_default.is
          ∙ ap (λ n. first_refused decoded n (records_of (chunks_exact_rest (enumerate_source t)))) (sym c.in-Some.ensures.steps.2);
    }

pub returns : goal.returns
returns c =
    let s = c.loop-place.place-iterator in
    let few : length (chunks_exact_rest (enumerate_source s)) < 8 = omega (arith, c.in-None.ensures.steps.0.1.0, c.loop-place.invariant.size) in
    sym (c.loop-place.invariant.same ∙ refusal-end decoded (enumerate_count s) (records_of (chunks_exact_rest (enumerate_source s))) (records-none (chunks_exact_rest (enumerate_source s)) few))
