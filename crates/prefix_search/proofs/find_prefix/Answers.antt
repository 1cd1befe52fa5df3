-- `prefix_search::find_prefix` meets its contract: the used bytes of a readable word's key are the weights of its row.
-- Assumes nothing.
use mathlib.Core.Path.{sym, ap, subst, ◌∙◌}
use mathlib.Core.Bool.{Bool}
use native.Mathlib.Omega.{arith}
use lib.Seq.{length-take-le}
use Rattle.refusals.specs.Outcome.{outcome_of}
use Rattle.entries.specs.Entries.{Entry}
use Rattle.book_keys.specs.Filing.{row_of}
use Rattle.book_keys.proofs.Words.{not_refused, filled_few, filled_room, filled_weights}
use Rattle.book_fitting.specs.Fitting.{fits_key}
use Rattle.book_fitting.proofs.Fits.{fits_row}
use Rattle.prefix_search.specs.Prefix.{ListsPassing}
use Rattle.prefix_search.proofs.find_prefix.Goals as goal

pub overflow_mul-used : goal.overflow_mul-used
overflow_mul-used c =
    let few = filled_few _ c.requires c.fill.result _ c.fill.ensures _ c.in_ok-syllables.was in
    omega arith

pub slice_bounds-key-end : goal.slice_bounds-key-end
slice_bounds-key-end c = filled_room _ c.requires c.fill.result _ c.fill.ensures _ c.in_ok-syllables.was

pub slice_bounds-find_key-end : goal.slice_bounds-find_key-end
slice_bounds-find_key-end c = sym (length-take-le _ _ (filled_room _ c.requires c.fill.result _ c.fill.ensures _ c.in_ok-syllables.was))

pub returns-in_err-syllables : goal.returns-in_err-syllables
returns-in_err-syllables c = absurd (not_refused _ c.requires c.fill.result _ c.fill.ensures _ c.in_err-syllables.was)

pub returns : goal.returns
returns c =
    let s = c.args in
    let row = row_of s.word.now in
    let weights = filled_weights _ c.requires c.fill.result _ c.fill.ensures _ c.in_ok-syllables.was in
    subst (λ (test : Entry → Bool). ListsPassing s.book.now test s.starts.now c.find_key.new.starts (outcome_of c.find_key.result))
    (ap fits_key weights ∙ fits_row row) c.find_key.ensures
