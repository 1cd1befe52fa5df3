-- `typed_places::sorted_places` meets its contract. The loop's invariant is `SortedFrom`: from a place on the places are sorted.
-- Assumes nothing.
use Rattle.std.proofs.Common.{arith}
use Rattle.typed_places.proofs.Passing.{sorted_none, sorted_more}
use Rattle.typed_places.proofs.sorted_places.Goals as goal

pub loop-at-init : goal.loop-at-init
loop-at-init c = sorted_none c.args.word.now c.requires

pub loop-at-preserved : goal.loop-at-preserved
loop-at-preserved c = sorted_more _ _ _ _ c.requires c.loop-at.invariant (omega arith) c.insert_place.ensures
