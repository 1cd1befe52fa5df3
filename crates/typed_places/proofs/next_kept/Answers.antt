-- `typed_places::next_kept` meets its contract: both values are tested as rule 2 does.
-- Assumes nothing.
use mathlib.Core.Path.{sym, ◌∙◌}
use Rattle.typed_places.proofs.Seeking.{next_other, next_taken, next_plain}
use Rattle.typed_places.proofs.next_kept.Goals as goal

pub returns-then-sorted_value-ne-VOWEL_U : goal.returns-then-sorted_value-ne-VOWEL_U
returns-then-sorted_value-ne-VOWEL_U c =
    next_other c.args.word.now c.args.places.now c.args.at (rw c.sorted_value.ensures at c.if-sorted_value-ne-VOWEL_U.true)

pub returns-then-sorted_value-eq-MARK_II : goal.returns-then-sorted_value-eq-MARK_II
returns-then-sorted_value-eq-MARK_II c =
    next_taken c.args.word.now c.args.places.now c.args.at
    (sym c.sorted_value.ensures ∙ c.if-sorted_value-ne-VOWEL_U.false) (sym c.sorted_value-2.ensures ∙ c.if-sorted_value-eq-MARK_II.true)

pub returns : goal.returns
returns c =
    next_plain c.args.word.now c.args.places.now c.args.at (rw c.sorted_value-2.ensures at c.if-sorted_value-eq-MARK_II.false)
