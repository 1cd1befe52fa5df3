-- `line_splitting::hold` meets its contract: what there is room for is copied behind the bytes that are held.
-- Assumes nothing.
use native.Mathlib.Omega.{arith}
use Rattle.line_splitting.proofs.Holding.{Fills, fills_all, fills_room, held_more}
use Rattle.line_splitting.proofs.hold.Goals.{then-part-room, else-part-room}
use Rattle.line_splitting.proofs.hold.Goals as goal

pub returns : goal.returns
returns c =
    let filled : Fills c.args.part.now c.args.held c.if-part-room.count =
    elim c.if-part-room.branch [
      | then-part-room w ↦ rw w.count-is (fills_all _ _ c.requires.0 w.if-part-room.true)
      | else-part-room w ↦ rw w.count-is (fills_room _ _ c.requires.0 (omega arith))
    ] in
    held_more _ _ _ _ _ c.requires.1 filled c.put_all.ensures
