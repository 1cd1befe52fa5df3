-- `keying::fill::advance` meets its contract: one test.
-- Assumes nothing.
use mathlib.Core.Path.{ap, ◌∙◌}
use Prim.Native.Nat.{ℕ}
use Rattle.syllables.specs.Window.{closed_by}
use Rattle.syllables.proofs.Moved.{one_more, none_more}
use Rattle.keying.specs.Filling.{put_last}
use Rattle.keying.proofs.Placed.{not_begun, is_begun}
use Rattle.keying.proofs.fill.advance.Goals as goal

pub closed_by-requires : goal.closed_by-requires
closed_by-requires c = c.requires.0.last

pub put_last-requires : goal.put_last-requires
put_last-requires c = (c.requires.0.room, c.requires.1)

pub returns-then-begins : goal.returns-then-begins
returns-then-begins c =
    let a = c.args in
    record {
      moved = c.window_after-after.ensures;
      put =
          c.put_last.ensures ∙ ap (λ (n : ℕ). put_last a.window.count n a.bytes.now) c.closed_by.ensures
          ∙ is_begun a.change a.window.count (closed_by a.x a.window.last) a.bytes.now
          (one_more c.requires.0 _ c.begins.ensures c.if-begins.true);
    }

pub returns : goal.returns
returns c =
    let a = c.args in
    record {
      moved = c.window_after-after.ensures;
      put =
          not_begun a.change a.window.count (closed_by a.x a.window.last) a.bytes.now
          (none_more c.requires.0 _ c.begins.ensures c.if-begins.false);
    }
