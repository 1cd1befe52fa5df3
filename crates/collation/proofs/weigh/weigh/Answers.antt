-- `collation::weigh::weigh` meets its contract: a row of syllables is weighed as it is.
-- Assumes nothing.
use Rattle.std.proofs.Common.{rules}
use Rattle.collation.proofs.Weighing.{row_weighed}
use Rattle.collation.proofs.weigh.weigh.Goals as goal

pub returns-in-Ok : goal.returns-in-Ok
returns-in-Ok c = row_weighed _ _ c.fill.result _ (search rules) (search rules)
