-- `spelling::put_syllable` meets its contract: the start is one store, and the part of the plain record is the spelled syllable.
-- Assumes nothing.
use Rattle.spelling.proofs.Fronts.{part_room, part_put}
use borrow.Author.Rules.{rules}
use Rattle.spelling.proofs.put_syllable.Goals as goal

pub put_part-requires : goal.put_part-requires
put_part-requires c = search (rules, part_room) depth 14

pub returns : goal.returns
returns c = search (rules, part_put) depth 14
