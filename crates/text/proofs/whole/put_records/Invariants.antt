-- `whole::put_records`: the records of the lines that came are written.
use Rattle.std.specs.Slice.Iter.{split_inclusive_rest}
use Rattle.record.specs.Record.{encoded}
use Rattle.text.specs.Line.{line_read}
use Rattle.text.specs.File.{lines}
use Rattle.text.specs.Steps.{all_bytes}
use Rattle.text.proofs.Wholes.{Put}
use Rattle.text.proofs.whole.put_records.Given as goal

abbrev pub invariant-loop-line : goal.invariant-loop-line
invariant-loop-line l = record {
  can : (goal.iterator-loop-line).can_next l.line-iterator;
  ends : (goal.iterator-loop-line).is_finite l.line-iterator;
  put : Put (all_bytes encoded line_read (lines l.text)) l.initial.out l.out l.n (all_bytes encoded line_read (lines (split_inclusive_rest l.line-iterator)));
}
