-- `whole::put_records`: the records of the lines, one after the other.
use native.Mathlib.Omega.{arith}
use mathlib.Core.List.{[]}
use Rattle.std.proofs.Common.{rules}
use Rattle.std.proofs.lemmas.List.Sorted.{answers_always}
use Rattle.std.specs.Slice.Iter.{split_inclusive_rest}
use Rattle.record.specs.Record.{encoded}
use Rattle.text.specs.Line.{line_read}
use Rattle.text.specs.File.{lines}
use Rattle.text.specs.Steps.{part_bytes, all_bytes}
use Rattle.text.proofs.Wholes.{line-next, lines-none, bytes_on, bytes-end, put_all, put-room, put-sum, put-next}
use Rattle.text.proofs.whole.put_records.Goals as goal

pub put_record-n-requires : goal.put_record-n-requires
put_record-n-requires c =
    let s = c.loop-line.line-iterator in
    let t = c.next.new.self in
    let b = part_bytes encoded (line_read c.in-Some.line.now) in
    let total = all_bytes encoded line_read (lines c.args.text.now) in
    let rest = all_bytes encoded line_read (lines (split_inclusive_rest s)) in
    let rest' = all_bytes encoded line_read (lines (split_inclusive_rest t)) in
    let more = bytes_on encoded line_read c.in-Some.line.now (lines (split_inclusive_rest t)) (lines (split_inclusive_rest s)) (line-next s t c.in-Some.line (answers_always _ _ _ (λ f a r f' h. search rules)) c.in-Some.ensures.steps) in
    put-room total c.args.out.now c.loop-line.out [] b rest rest' c.loop-line.n 0 c.requires c.loop-line.invariant.put more

pub overflow_add-n : goal.overflow_add-n
overflow_add-n c =
    let s = c.loop-line.line-iterator in
    let t = c.next.new.self in
    let b = part_bytes encoded (line_read c.in-Some.line.now) in
    let total = all_bytes encoded line_read (lines c.args.text.now) in
    let rest = all_bytes encoded line_read (lines (split_inclusive_rest s)) in
    let rest' = all_bytes encoded line_read (lines (split_inclusive_rest t)) in
    let more = bytes_on encoded line_read c.in-Some.line.now (lines (split_inclusive_rest t)) (lines (split_inclusive_rest s)) (line-next s t c.in-Some.line (answers_always _ _ _ (λ f a r f' h. search rules)) c.in-Some.ensures.steps) in
    omega (arith, c.requires, put-sum total c.args.out.now c.loop-line.out [] b rest rest' c.loop-line.n c.put_record-n.result c.requires c.loop-line.invariant.put more c.put_record-n.ensures.0)

pub loop-line-preserved : goal.loop-line-preserved
loop-line-preserved c =
    let s = c.loop-line.line-iterator in
    let t = c.next.new.self in
    let b = part_bytes encoded (line_read c.in-Some.line.now) in
    let total = all_bytes encoded line_read (lines c.args.text.now) in
    let rest = all_bytes encoded line_read (lines (split_inclusive_rest s)) in
    let rest' = all_bytes encoded line_read (lines (split_inclusive_rest t)) in
    let more = bytes_on encoded line_read c.in-Some.line.now (lines (split_inclusive_rest t)) (lines (split_inclusive_rest s)) (line-next s t c.in-Some.line (answers_always _ _ _ (λ f a r f' h. search rules)) c.in-Some.ensures.steps) in
    record {
      can = search rules;
      ends = search rules;
      put = put-next total c.args.out.now c.loop-line.out c.put_record-n.new.out b rest rest' c.loop-line.n c.put_record-n.result c.requires c.loop-line.invariant.put more c.put_record-n.ensures.0 c.put_record-n.ensures.1;
    }

pub returns : goal.returns
returns c =
    let s = c.loop-line.line-iterator in
    put_all (all_bytes encoded line_read (lines c.args.text.now)) c.args.out.now c.loop-line.out c.loop-line.n (all_bytes encoded line_read (lines (split_inclusive_rest s))) c.loop-line.invariant.put (bytes-end encoded line_read (lines (split_inclusive_rest s)) (lines-none (split_inclusive_rest s) c.in-None.ensures.steps.0))
