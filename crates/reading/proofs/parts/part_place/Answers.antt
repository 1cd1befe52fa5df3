-- `reading::parts::part_place` meets its contract: the part lies between the places where its syllable and the next one begin.
-- Assumes nothing.
use Rattle.reading.proofs.Parted.{from_to, part_placed}
use Rattle.reading.proofs.parts.part_place.Goals as goal

pub overflow_sub-size : goal.overflow_sub-size
overflow_sub-size c =
    let p = c.in_ok-scan.ensures in
    from_to _ _ _ _ p.scanned.stopped _ p.scanned.starts_of _ p.reads c.args.number c.if-scan-number.false _ _ c.from-place.ensures c.end_of-end.ensures

pub returns : goal.returns
returns c =
    let p = c.in_ok-scan.ensures in
    part_placed _ _ _ _ p.scanned.stopped _ p.scanned.starts_of _ p.reads c.args.number c.if-scan-number.false _ _ c.from-place.ensures c.end_of-end.ensures
