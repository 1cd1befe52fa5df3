-- `storage::part` meets its contract: the part is copied to the front of zeros.
-- Assumes nothing.
use Rattle.storage.proofs.Passing.{part_held}
use Rattle.storage.proofs.part.Goals as goal

pub returns : goal.returns
returns c = part_held _ _ _ _ c.requires c.put_all.ensures
