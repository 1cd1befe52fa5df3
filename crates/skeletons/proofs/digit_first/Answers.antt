-- `skeletons::digit_first` meets its contract: two values from 1040 on are replaced, and any other stays.
-- Assumes nothing.
use mathlib.Core.Path.{◌≡◌, refl}
use native.Mathlib.Omega.{arith}
use Rattle.letters.specs.Choice.{pick}
use Rattle.skeletons.specs.Skeleton.{replaced}
use Rattle.skeletons.specs.Parts.{first_of}
use Rattle.skeletons.proofs.Replacing.{four_apart}
use Rattle.skeletons.proofs.digit_first.Goals as goal

pub returns-in-4160 : goal.returns-in-4160
unfolding first_of replaced pick
returns-in-4160 c = rw c.in-4160.is refl

pub returns-in-4167 : goal.returns-in-4167
unfolding first_of replaced pick
returns-in-4167 c = rw c.in-4167.is refl

pub returns-in_default : goal.returns-in_default
returns-in_default c =
    let x = c.args.x in
    let h = c.requires in
    four_apart x (λ (e : x ≡ 0x1040). omega arith) (λ (e : x ≡ 0x1047). omega arith) (λ (e : x ≡ 0x1025). omega arith) (λ (e : x ≡ 0x1029). omega arith)
