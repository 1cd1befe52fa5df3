-- `skeletons::measure` meets its contract. The loop's invariant: the size is that of what the values so far become.
-- Assumes nothing.
use Rattle.std.proofs.Common.{arith, ap, length, take, get_or, length-append}
use Rattle.skeletons.specs.Skeleton.{replaced, skeleton_of}
use Rattle.skeletons.specs.Parts.{size_of}
use Rattle.skeletons.proofs.Filling.{skeleton_next, next_within, at_most_two}
use Rattle.skeletons.proofs.measure.Goals as goal

pub overflow_add-size : goal.overflow_add-size
unfolding size_of
overflow_add-size c =
    let word = c.args.word.now in
    omega (arith, c.loop-x.invariant, c.size_of-size.ensures, next_within word c.loop-x.x-index c.loop-x-test.true, at_most_two word)

pub loop-x-preserved : goal.loop-x-preserved
unfolding size_of
loop-x-preserved c =
    let word = c.args.word.now in
    let at = c.loop-x.x-index in
    omega (arith, c.loop-x.invariant, c.size_of-size.ensures, ap length (skeleton_next word at c.loop-x-test.true), length-append (skeleton_of (take at word)) (replaced (get_or word at 0)))
