-- The text of a skeleton is short, and the first bytes of a line that is too long are answered as the line.
-- Assumes nothing.
use mathlib.Core.List.{List}
use Prim.Native.Nat.{ℕ, ◌≤◌, ◌<◌}
use native.Mathlib.Omega.{arith}
use lib.ListN.{length, take}
use Rattle.formula.specs.Limits.{line_limit}
use Rattle.lines.proofs.Kept.{decodes_kept, refused_kept}
use Rattle.skeletons.specs.Skeleton.{skeleton_limit}
use Rattle.key_text.proofs.Values.{values_short}
use Rattle.answer_text.specs.Answer.{answer_text_limit}
use Rattle.label_printing.specs.Output.{skeleton_text, LabelText, of_word, line_refused}

pub skeleton_text_short : (values : List ℕ) → length values ≤ skeleton_limit → length (skeleton_text values) ≤ answer_text_limit
unfolding skeleton_text
skeleton_text_short values h = omega (arith, values_short values skeleton_limit (omega arith) h)

-- the first bytes of a line, more than a line may have, are answered as the line
pub label_kept : (most : ℕ) → line_limit < most → (line : List ℕ) {text : List ℕ} → LabelText (take most line) text → LabelText line text
label_kept most over line {text} (of_word d w) = of_word (decodes_kept most over line d) w
label_kept most over line {text} (line_refused r e) = line_refused (refused_kept most over line r) e
