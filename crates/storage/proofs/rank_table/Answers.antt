-- `storage::rank_table` meets its contract: antt computes the table and the ranks.
-- Assumes nothing.
use mathlib.Core.Path.{refl}
use lib.Dec.{lit<}
use Rattle.letters.specs.Choice.{pick}
use Rattle.storage.specs.Stored.{rank}
use Rattle.storage.proofs.rank_table.Goals as goal

pub bounds-ranks-59 : goal.bounds-ranks-59
bounds-ranks-59 c = lit< tt

pub bounds-ranks-60 : goal.bounds-ranks-60
bounds-ranks-60 c = lit< tt

pub bounds-ranks-61 : goal.bounds-ranks-61
bounds-ranks-61 c = lit< tt

pub bounds-ranks-62 : goal.bounds-ranks-62
bounds-ranks-62 c = lit< tt

pub bounds-ranks-49 : goal.bounds-ranks-49
bounds-ranks-49 c = lit< tt

pub bounds-ranks-45 : goal.bounds-ranks-45
bounds-ranks-45 c = lit< tt

pub bounds-ranks-46 : goal.bounds-ranks-46
bounds-ranks-46 c = lit< tt

pub bounds-ranks-50 : goal.bounds-ranks-50
bounds-ranks-50 c = lit< tt

pub bounds-ranks-47 : goal.bounds-ranks-47
bounds-ranks-47 c = lit< tt

pub bounds-ranks-48 : goal.bounds-ranks-48
bounds-ranks-48 c = lit< tt

pub bounds-ranks-43 : goal.bounds-ranks-43
bounds-ranks-43 c = lit< tt

pub bounds-ranks-44 : goal.bounds-ranks-44
bounds-ranks-44 c = lit< tt

pub bounds-ranks-54 : goal.bounds-ranks-54
bounds-ranks-54 c = lit< tt

pub bounds-ranks-58 : goal.bounds-ranks-58
bounds-ranks-58 c = lit< tt

pub bounds-ranks-55 : goal.bounds-ranks-55
bounds-ranks-55 c = lit< tt

pub bounds-ranks-56 : goal.bounds-ranks-56
bounds-ranks-56 c = lit< tt

pub returns : goal.returns
unfolding rank pick
returns c = refl
