-- `spelling::spelled_size` meets its contract: the part of the plain record is the spelled syllable.
-- Assumes nothing.
use Rattle.spelling.proofs.Fronts.{record_size_is}
use Rattle.spelling.proofs.spelled_size.Goals as goal

pub returns-clause-is : goal.returns-clause-is
returns-clause-is c = record_size_is _ _ c.plain_record.ensures _ c.part_size.ensures
