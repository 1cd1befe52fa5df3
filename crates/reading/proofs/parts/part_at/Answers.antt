-- `reading::parts::part_at` meets its contract: the part stands where `part_place` says.
-- Assumes nothing.
use mathlib.Core.Path.{◌≡◌, sym, ◌∙◌}
use Prim.Native.Nat.{◌+◌, ◌-◌}
use native.Mathlib.Omega.{arith}
use Rattle.reading.proofs.Parted.{part_right, part_there, part_none}
use Rattle.reading.proofs.parts.part_at.Goals as goal

pub returns-in_default : goal.returns-in_default
returns-in_default c = part_none _ _ c.part_place.result c.part_place.ensures (sym c.unwrap_or.ensures ∙ c.in_default.is)

pub returns : goal.returns
returns c =
    let part = c.in-Some.part in
    let same : part.place + part.size - part.place ≡ part.size = omega arith in
    rw same
    (part_right _ _ _ _ (part_there _ _ c.part_place.result c.part_place.ensures part (sym c.unwrap_or.ensures ∙ c.in-Some.is)))
