-- `skeletons::letter_first` meets its contract: two values below 1040 are replaced, and any other stays.
-- Assumes nothing.
use mathlib.Core.Path.{◌≡◌, refl}
use native.Mathlib.Omega.{arith}
use Rattle.letters.specs.Choice.{pick}
use Rattle.skeletons.specs.Skeleton.{replaced}
use Rattle.skeletons.specs.Parts.{first_of}
use Rattle.skeletons.proofs.Replacing.{four_apart}
use Rattle.skeletons.proofs.letter_first.Goals as goal

pub returns-in-4133 : goal.returns-in-4133
unfolding first_of replaced pick
returns-in-4133 c = rw c.in-4133.is refl

pub returns-in-4137 : goal.returns-in-4137
unfolding first_of replaced pick
returns-in-4137 c = rw c.in-4137.is refl

pub returns-in_default : goal.returns-in_default
returns-in_default c =
    let x = c.args.x in
    let h = c.requires in
    four_apart x (λ (e : x ≡ 0x1040). omega arith) (λ (e : x ≡ 0x1047). omega arith) (λ (e : x ≡ 0x1025). omega arith) (λ (e : x ≡ 0x1029). omega arith)
