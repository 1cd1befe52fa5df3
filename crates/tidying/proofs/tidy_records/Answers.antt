-- `tidying::tidy_records` meets its contract: the gaps are closed, and what is left up to the free bytes is cleared.
-- Assumes nothing.
use native.Mathlib.Omega.{arith}
use Rattle.tidying.proofs.Cleared.{clear_fits, cleared_right}
use Rattle.tidying.proofs.tidy_records.Goals as goal

pub clear-requires : goal.clear-requires
clear-requires c = omega (arith, clear_fits c.args.book.now _ c.args.free _ c.requires c.close_gaps-kept.ensures)

pub returns : goal.returns
returns c = cleared_right c.args.book.now _ c.args.free _ c.requires c.close_gaps-kept.ensures _ c.clear.ensures
