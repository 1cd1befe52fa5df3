-- `storage::rank` meets its contract: the table has the ranks of 1000 to 103F, and no mark stands outside.
-- Assumes nothing.
use mathlib.Core.Path.{sym}
use Rattle.storage.proofs.Ranks.{rank_entry, rank_outside}
use Rattle.storage.proofs.rank.Goals as goal

pub returns-then-x-eq64 : goal.returns-then-x-eq64
returns-then-x-eq64 c = rw (c.requires, c.from.ensures) (rank_entry c.args.x c.if-x-eq64.true)

pub returns-else-x-eq64 : goal.returns-else-x-eq64
returns-else-x-eq64 c = sym (rank_outside c.args.x c.if-x-eq64.false)
