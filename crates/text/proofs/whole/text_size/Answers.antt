-- `whole::text_size`: the sizes of the lines, added up.
use native.Mathlib.Omega.{arith}
use mathlib.Core.Path.{ap, ◌∙◌}
use lib.ListN.{length, length-append}
use Rattle.std.proofs.Common.{rules}
use Rattle.std.specs.Slice.Iter.{chunks_exact_rest}
use Rattle.record.specs.Record.{decoded, records_of}
use Rattle.text.specs.Line.{line_of}
use Rattle.text.specs.Steps.{part_bytes, all_bytes}
use Rattle.text.proofs.Wholes.{records-next, records-none, bytes_on, bytes-end}
use Rattle.text.proofs.whole.text_size.Goals as goal

pub loop-bytes-preserved : goal.loop-bytes-preserved
loop-bytes-preserved c =
    let s = c.loop-bytes.bytes-iterator in
    let t = c.next.new.self in
    let eight = c.in-Some.ensures.steps.1.1 ∙ c.loop-bytes.invariant.eight in
    let parts = records-next (chunks_exact_rest s) c.in-Some.bytes.now (chunks_exact_rest t) c.in-Some.ensures.steps.1.0 eight in
    let more = bytes_on line_of decoded c.in-Some.bytes.now (records_of (chunks_exact_rest t)) (records_of (chunks_exact_rest s)) parts in
    record {
      can = search rules;
      ends = search rules;
      eight = c.in-Some.ensures.steps.0 ∙ c.loop-bytes.invariant.eight;
      few = omega (arith, c.loop-bytes.invariant.few, c.line_size-size.ensures.1, eight, ap length c.in-Some.ensures.steps.1.0, length-append c.in-Some.bytes.now (chunks_exact_rest t));
      sizes = omega (arith, c.loop-bytes.invariant.sizes, c.line_size-size.ensures.0, ap length more, length-append (part_bytes line_of (decoded c.in-Some.bytes.now)) (all_bytes line_of decoded (records_of (chunks_exact_rest t))));
    }

pub returns : goal.returns
returns c =
    let s = c.loop-bytes.bytes-iterator in
    let none = records-none (chunks_exact_rest s) (omega (arith, c.in-None.ensures.steps.1.0, c.loop-bytes.invariant.eight)) in
    omega (arith, c.loop-bytes.invariant.sizes, ap length (bytes-end line_of decoded (records_of (chunks_exact_rest s)) none))
