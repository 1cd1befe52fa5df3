-- `memory::copies::move_down` meets its contract: what is copied within the slice is stored where it is moved to.
-- Assumes nothing.
use Rattle.std.proofs.Common.{arith, sym, ◌∙◌, ap, ◌+◌, ◌-◌, ◌≡◌, drop, length-drop}
use lib.Seq.{paste}
use Rattle.memory.proofs.Stores.{sets_paste}
use Rattle.memory.proofs.copies.move_down.Goals as goal

pub returns : goal.returns
returns c =
    let a = c.args in
    let b = a.bytes.now in
    let part : a.from + a.count - a.from ≡ a.count = omega arith in
    c.copy_within.ensures.after ∙ ap (paste b a.to (drop a.from b)) part
    ∙ sym (sets_paste (drop a.from b) b a.to a.count (omega (arith, length-drop a.from b)) (omega arith))
