-- `whole::text_size`: the lines of the records that came have `size` bytes.
use Prim.Native.Nat.{◌+◌, ◌*◌, ◌≤◌}
use mathlib.Core.Path.{◌≡◌}
use lib.ListN.{length}
use Rattle.std.specs.Slice.Iter.{chunks_exact_rest, chunks_exact_size}
use Rattle.record.specs.Record.{decoded, records_of}
use Rattle.text.specs.Line.{line_of}
use Rattle.text.specs.Steps.{all_bytes}
use Rattle.text.proofs.whole.text_size.Given as goal

abbrev pub invariant-loop-bytes : goal.invariant-loop-bytes
invariant-loop-bytes l = record {
  can : (goal.iterator-loop-bytes).can_next l.bytes-iterator;
  ends : (goal.iterator-loop-bytes).is_finite l.bytes-iterator;
  eight : chunks_exact_size l.bytes-iterator ≡ 8;
  few : l.size + 3 * length (chunks_exact_rest l.bytes-iterator) ≤ 3 * length l.input;
  sizes : l.size + length (all_bytes line_of decoded (records_of (chunks_exact_rest l.bytes-iterator))) ≡ length (all_bytes line_of decoded (records_of l.input));
}
