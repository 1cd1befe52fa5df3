-- `label_printing::put_word_label` meets its contract: there is room for every skeleton, so that a word is a label with its skeleton at the front, or is refused as none.
-- Assumes nothing.
use mathlib.Core.Path.{refl, sym, ap, ◌∙◌}
use native.Mathlib.Omega.{arith}
use lib.ListN.{length}
use Rattle.labelling.proofs.Given.{told_given, told_refused}
use Rattle.labelling.proofs.Stored.{skeleton_short}
use Rattle.label_printing.specs.Output.{skeleton_text, is_label, no_label}
use Rattle.label_printing.proofs.put_word_label.Goals as goal

pub slice_bounds-values-end : goal.slice_bounds-values-end
slice_bounds-values-end c = (told_given c.skeleton.result c.skeleton.ensures _ c.in-Ok.is).fits

pub slice_bounds-put_skeleton-end : goal.slice_bounds-put_skeleton-end
slice_bounds-put_skeleton-end c =
    let given = told_given c.skeleton.result c.skeleton.ensures _ c.in-Ok.is in
    given.long ∙ sym (ap length given.front)

pub put_skeleton-requires : goal.put_skeleton-requires
put_skeleton-requires c =
    let given = told_given c.skeleton.result c.skeleton.ensures _ c.in-Ok.is in
    (omega arith, rw given.front (skeleton_short c.args.word.now given.count given.label))

pub returns-in-Err : goal.returns-in-Err
returns-in-Err c =
    record {
      text = _;
      right = no_label (told_refused c.skeleton.result c.skeleton.ensures (omega arith) _ c.in-Err.is) refl;
      put = c.put_refused.ensures;
    }

pub returns-in-Ok : goal.returns-in-Ok
returns-in-Ok c =
    let given = told_given c.skeleton.result c.skeleton.ensures _ c.in-Ok.is in
    record { text = _; right = is_label given.label (ap skeleton_text given.front); put = c.put_skeleton.ensures }
