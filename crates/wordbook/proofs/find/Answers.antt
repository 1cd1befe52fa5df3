-- `wordbook::find` meets its contract: the word's refusal, or what the book answers to its stored form.
-- Assumes nothing.
use Rattle.std.proofs.lemmas.Result.{err_from_is_err_and}
use mathlib.Core.Path.{sym, ap, subst, ◌∙◌}
use lib.Seq.{length-take-le}
use Rattle.storage.specs.Stored.{stored_form}
use Rattle.entries.specs.Entries.{entries}
use Rattle.entries.specs.Outcome.{find_of}
use Rattle.wordbook.specs.Calls.{CallAnswers, word_refused, word_stored}
use Rattle.wordbook.proofs.Stored.{form_fits, form_front}
use Rattle.wordbook.proofs.find.Goals as goal

pub slice_bounds-values-end : goal.slice_bounds-values-end
slice_bounds-values-end c =
    form_fits c.in_ok-count.ensures

pub slice_bounds-find-end : goal.slice_bounds-find-end
slice_bounds-find-end c =
    sym (length-take-le _ _ (form_fits c.in_ok-count.ensures))

pub returns-in_err-count : goal.returns-in_err-count
returns-in_err-count c =
    let p = err_from_is_err_and c.from_residual.result c.from_residual.ensures.1 in rw (p.1, p.2) (word_refused c.in_err-count.ensures.refused)

pub returns : goal.returns
returns c =
    let s = c.args in
    let h = c.in_ok-count.ensures in
    subst (CallAnswers s.word.now (find_of (entries s.book.now) (stored_form s.word.now)))
    (sym (c.find.ensures.answer ∙ ap (find_of (entries s.book.now)) (form_front h))) (word_stored h.stored)
