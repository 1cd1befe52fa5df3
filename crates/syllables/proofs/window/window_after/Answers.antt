-- `syllables::window::window_after` meets its contract: each branch is the case that its test chooses.
-- Assumes nothing.
use mathlib.Core.Path.{ap}
use Prim.Native.Nat.{◌+◌, ◌-◌}
use Rattle.syllables.proofs.Moved.{after_gain, after_head, one_more, none_more}
use Rattle.syllables.proofs.window.window_after.Goals as goal

pub returns-then-begins : goal.returns-then-begins
returns-then-begins c =
    let a = c.args in
    after_head a.window a.change a.gain a.x _ _ (one_more c.requires _ c.begins.ensures c.if-begins.true) c.begun-head.ensures.0 c.joined_by.ensures

pub returns : goal.returns
returns c =
    let a = c.args in
    after_gain a.window a.change a.gain a.x _ _ (none_more c.requires _ c.begins.ensures c.if-begins.false) c.last_kept.ensures
    (ap (λ n. a.window.count + n - 1) c.from.ensures)
