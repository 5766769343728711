-- `whole::first_formless`: the lines that came all read, and the others are counted on.
use mathlib.Core.Path.{◌≡◌}
use Rattle.std.specs.Iterator.Adapters.{enumerate_source, enumerate_count}
use Rattle.std.specs.Slice.Iter.{split_inclusive_rest}
use Rattle.text.specs.Line.{line_read}
use Rattle.text.specs.File.{first_refused, lines}
use Rattle.text.proofs.whole.first_formless.Given as goal

abbrev pub invariant-loop-place : goal.invariant-loop-place
invariant-loop-place l = record {
  can : (goal.iterator-loop-place).can_next l.place-iterator;
  ends : (goal.iterator-loop-place).is_finite l.place-iterator;
  same : first_refused line_read 0 (lines l.text) ≡ first_refused line_read (enumerate_count l.place-iterator) (lines (split_inclusive_rest (enumerate_source l.place-iterator)));
}
