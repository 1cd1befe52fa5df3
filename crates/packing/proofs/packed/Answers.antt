-- `packing::packed` meets its contract: its sum is the definition, and each term stays within its bits.
-- Assumes nothing.
use mathlib.Core.Path.{refl}
use Rattle.packing.specs.Packing.{pack}
use Rattle.packing.proofs.packed.Goals as goal

pub returns : goal.returns
unfolding pack
returns c = refl
