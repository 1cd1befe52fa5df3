-- The measure is how many starts there are.
use Rattle.std.proofs.Common.{length}
use Rattle.sorting.proofs.merging.+sort_halves.Given as goal

abbrev pub decreases-sort_halves : goal.decreases-sort_halves
decreases-sort_halves l = length l.starts.now
