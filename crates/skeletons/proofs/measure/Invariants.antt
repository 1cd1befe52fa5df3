use Rattle.std.proofs.Common.{◌≡◌, length, take}
use Rattle.skeletons.specs.Skeleton.{skeleton_of}
use Rattle.skeletons.proofs.measure.Given as goal

abbrev pub invariant-loop-x : goal.invariant-loop-x
invariant-loop-x l = l.size ≡ length (skeleton_of (take l.x-index l.word))
