-- `storage::put_vowel` meets its contract: the value at the place says what the 1025 becomes.
-- Assumes nothing.
use mathlib.Core.Path.{sym, ◌∙◌}
use Rattle.storage.proofs.Holding.{vowel_room, vowel_put, letter_put}
use Rattle.storage.proofs.put_vowel.Goals as goal

pub bounds-values-place : goal.bounds-values-place
bounds-values-place c = vowel_room c.args.values.now c.args.place c.requires (sym c.value_at-next.ensures ∙ c.if-next-eq-MARK_II.true)

pub returns-then-next-eq-MARK_II : goal.returns-then-next-eq-MARK_II
returns-then-next-eq-MARK_II c = vowel_put _ _ c.requires (sym c.value_at-next.ensures ∙ c.if-next-eq-MARK_II.true)

pub returns : goal.returns
returns c =
    rw (c.vowel_before.ensures, c.value_at-next.ensures)
    (letter_put _ _ c.requires (rw c.value_at-next.ensures at c.if-next-eq-MARK_II.false))
