-- `letters::weight::medial_weights` meets its contract: antt computes the sixteen entries.
-- Assumes nothing.
use mathlib.Core.Path.{refl}
use Rattle.letters.specs.Choice.{pick}
use Rattle.letters.proofs.weight.medial_weights.Goals as goal

pub returns : goal.returns
unfolding pick
returns c = refl
