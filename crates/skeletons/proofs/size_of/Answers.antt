-- `skeletons::size_of` meets its contract: 1029 alone becomes two values.
-- Assumes nothing.
use mathlib.Core.Path.{sym, ap}
use lib.ListN.{length}
use Rattle.skeletons.specs.Parts.{size_of}
use Rattle.skeletons.proofs.Replacing.{two_values, one_value}
use Rattle.skeletons.proofs.size_of.Goals as goal

pub returns-then-x-eq-LETTER_O : goal.returns-then-x-eq-LETTER_O
unfolding size_of
returns-then-x-eq-LETTER_O c = sym (ap length (two_values c.args.x c.if-x-eq-LETTER_O.true))

pub returns-else-x-eq-LETTER_O : goal.returns-else-x-eq-LETTER_O
unfolding size_of
returns-else-x-eq-LETTER_O c = sym (ap length (one_value c.args.x c.if-x-eq-LETTER_O.false))
