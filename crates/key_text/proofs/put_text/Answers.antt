-- `key_text::put_text` meets its contract: the part of the output that is written over is as long as the text.
-- Assumes nothing.
use mathlib.Core.Path.{refl, sym, ap, ◌∙◌}
use Prim.Native.Nat.{◌+◌, ◌-◌}
use native.Mathlib.Omega.{arith}
use lib.ListN.{length}
use lib.Seq.{sets, take_all}
use Rattle.std.proofs.lemmas.Slice.{put_mid-paste}
use Rattle.memory.proofs.Stores.{sets_paste}
use Rattle.key_text.proofs.put_text.Goals as goal

pub returns : goal.returns
returns c =
    let a = c.args in
    let text = a.text.now in
    let out = a.out.now in
    record {
      written =
          put_mid-paste a.at (a.at + length text - a.at) out _ text (length text) c.copy_from_slice.ensures.after (omega arith) refl
          ∙ sym (sets_paste text out a.at (length text) (omega arith) (omega arith)) ∙ ap (sets out a.at) (take_all (length text) text (omega arith));
      next = refl;
    }
