use mathlib.Core.Path.{◌≡◌}
use Rattle.std.specs.Iterator.Adapters.{enumerate_source, enumerate_count}
use Rattle.std.specs.Slice.Iter.{chunks_rest, chunks_size}
use Rattle.lines.proofs.Passing.{Passed}
use Rattle.lines.proofs.decode.Given as goal

abbrev pub invariant-loop-number : goal.invariant-loop-number
invariant-loop-number l =
    Passed l.line l.values (enumerate_count l.number-iterator) (chunks_rest (enumerate_source l.number-iterator))
    × (chunks_size (enumerate_source l.number-iterator) ≡ 3)
