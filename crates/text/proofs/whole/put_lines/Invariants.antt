-- `whole::put_lines`: the lines of the records that came are written.
use mathlib.Core.Path.{◌≡◌}
use Rattle.std.specs.Slice.Iter.{chunks_exact_rest, chunks_exact_size}
use Rattle.record.specs.Record.{decoded, records_of}
use Rattle.text.specs.Line.{line_of}
use Rattle.text.specs.Steps.{all_bytes}
use Rattle.text.proofs.Wholes.{Put}
use Rattle.text.proofs.whole.put_lines.Given as goal

abbrev pub invariant-loop-bytes : goal.invariant-loop-bytes
invariant-loop-bytes l = record {
  can : (goal.iterator-loop-bytes).can_next l.bytes-iterator;
  ends : (goal.iterator-loop-bytes).is_finite l.bytes-iterator;
  size : chunks_exact_size l.bytes-iterator ≡ 8;
  put : Put (all_bytes line_of decoded (records_of l.input)) l.initial.out l.out l.n (all_bytes line_of decoded (records_of (chunks_exact_rest l.bytes-iterator)));
}
