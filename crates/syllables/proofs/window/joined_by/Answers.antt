-- `syllables::window::joined_by` meets its contract: the shift loses nothing.
-- Assumes nothing.
use Rattle.syllables.proofs.Moved.{whole}
use Rattle.syllables.proofs.window.joined_by.Goals as goal

pub returns : goal.returns
returns c = (whole c.args.last c.args.head c.requires.1).joins
