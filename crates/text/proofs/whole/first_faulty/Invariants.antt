-- `whole::first_faulty`: the records that came have no fault, and the others are counted on.
use mathlib.Core.Path.{◌≡◌}
use Rattle.std.specs.Iterator.Adapters.{enumerate_source, enumerate_count}
use Rattle.std.specs.Slice.Iter.{chunks_exact_rest, chunks_exact_size}
use Rattle.record.specs.Record.{decoded, records_of}
use Rattle.text.specs.File.{first_refused}
use Rattle.text.proofs.whole.first_faulty.Given as goal

abbrev pub invariant-loop-place : goal.invariant-loop-place
invariant-loop-place l = record {
  can : (goal.iterator-loop-place).can_next l.place-iterator;
  ends : (goal.iterator-loop-place).is_finite l.place-iterator;
  size : chunks_exact_size (enumerate_source l.place-iterator) ≡ 8;
  same : first_refused decoded 0 (records_of l.input) ≡ first_refused decoded (enumerate_count l.place-iterator) (records_of (chunks_exact_rest (enumerate_source l.place-iterator)));
}
