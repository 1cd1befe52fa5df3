-- `skeletons::put` meets its contract. The loop's invariant is `Filled`: what the values so far become stands at the front.
-- Assumes nothing.
use Rattle.skeletons.proofs.Filling.{filled_room, filled_on, filled_whole}
use Rattle.skeletons.proofs.put.Goals as goal

pub put_replaced-next-requires : goal.put_replaced-next-requires
put_replaced-next-requires c = filled_room c.loop-x.invariant c.loop-x-test.true c.requires

pub loop-x-preserved : goal.loop-x-preserved
loop-x-preserved c = filled_on c.loop-x.invariant c.loop-x-test.true _ _ c.put_replaced-next.ensures

pub returns : goal.returns
returns c = filled_whole c.loop-x.invariant c.loop-x-test.false c.requires
