-- `whole::put_lines`: the lines of the records, one after the other.
use native.Mathlib.Omega.{arith}
use mathlib.Core.Path.{◌∙◌}
use mathlib.Core.List.{[]}
use Rattle.std.proofs.Common.{rules}
use Rattle.std.specs.Slice.Iter.{chunks_exact_rest}
use Rattle.record.specs.Record.{decoded, records_of}
use Rattle.text.specs.Line.{line_of}
use Rattle.text.specs.Steps.{part_bytes, all_bytes}
use Rattle.text.proofs.Wholes.{records-next, records-none, bytes_on, bytes-end, put_all, put-room, put-sum, put-next}
use Rattle.text.proofs.whole.put_lines.Goals as goal

pub put_line-n-requires : goal.put_line-n-requires
put_line-n-requires c =
    let s = c.loop-bytes.bytes-iterator in
    let t = c.next.new.self in
    let b = part_bytes line_of (decoded c.in-Some.bytes.now) in
    let total = all_bytes line_of decoded (records_of c.args.input.now) in
    let rest = all_bytes line_of decoded (records_of (chunks_exact_rest s)) in
    let rest' = all_bytes line_of decoded (records_of (chunks_exact_rest t)) in
    let more = bytes_on line_of decoded c.in-Some.bytes.now (records_of (chunks_exact_rest t)) (records_of (chunks_exact_rest s)) (records-next (chunks_exact_rest s) c.in-Some.bytes.now (chunks_exact_rest t) c.in-Some.ensures.steps.1.0 (c.in-Some.ensures.steps.1.1 ∙ c.loop-bytes.invariant.size)) in
    put-room total c.args.out.now c.loop-bytes.out [] b rest rest' c.loop-bytes.n 0 c.requires.input_in_bounds c.loop-bytes.invariant.put more

pub overflow_add-n : goal.overflow_add-n
overflow_add-n c =
    let s = c.loop-bytes.bytes-iterator in
    let t = c.next.new.self in
    let b = part_bytes line_of (decoded c.in-Some.bytes.now) in
    let total = all_bytes line_of decoded (records_of c.args.input.now) in
    let rest = all_bytes line_of decoded (records_of (chunks_exact_rest s)) in
    let rest' = all_bytes line_of decoded (records_of (chunks_exact_rest t)) in
    let more = bytes_on line_of decoded c.in-Some.bytes.now (records_of (chunks_exact_rest t)) (records_of (chunks_exact_rest s)) (records-next (chunks_exact_rest s) c.in-Some.bytes.now (chunks_exact_rest t) c.in-Some.ensures.steps.1.0 (c.in-Some.ensures.steps.1.1 ∙ c.loop-bytes.invariant.size)) in
    omega (arith, c.requires.input_in_bounds, put-sum total c.args.out.now c.loop-bytes.out [] b rest rest' c.loop-bytes.n c.put_line-n.result c.requires.input_in_bounds c.loop-bytes.invariant.put more c.put_line-n.ensures.0)

pub loop-bytes-preserved : goal.loop-bytes-preserved
loop-bytes-preserved c =
    let s = c.loop-bytes.bytes-iterator in
    let t = c.next.new.self in
    let b = part_bytes line_of (decoded c.in-Some.bytes.now) in
    let total = all_bytes line_of decoded (records_of c.args.input.now) in
    let rest = all_bytes line_of decoded (records_of (chunks_exact_rest s)) in
    let rest' = all_bytes line_of decoded (records_of (chunks_exact_rest t)) in
    let more = bytes_on line_of decoded c.in-Some.bytes.now (records_of (chunks_exact_rest t)) (records_of (chunks_exact_rest s)) (records-next (chunks_exact_rest s) c.in-Some.bytes.now (chunks_exact_rest t) c.in-Some.ensures.steps.1.0 (c.in-Some.ensures.steps.1.1 ∙ c.loop-bytes.invariant.size)) in
    record {
      can = search rules;
      ends = search rules;
      size = c.in-Some.ensures.steps.0 ∙ c.loop-bytes.invariant.size;
      put = put-next total c.args.out.now c.loop-bytes.out c.put_line-n.new.out b rest rest' c.loop-bytes.n c.put_line-n.result c.requires.input_in_bounds c.loop-bytes.invariant.put more c.put_line-n.ensures.0 c.put_line-n.ensures.1;
    }

pub returns : goal.returns
returns c =
    let s = c.loop-bytes.bytes-iterator in
    put_all (all_bytes line_of decoded (records_of c.args.input.now)) c.args.out.now c.loop-bytes.out c.loop-bytes.n (all_bytes line_of decoded (records_of (chunks_exact_rest s))) c.loop-bytes.invariant.put (bytes-end line_of decoded (records_of (chunks_exact_rest s)) (records-none (chunks_exact_rest s) (omega (arith, c.in-None.ensures.steps.1.0, c.loop-bytes.invariant.size))))
