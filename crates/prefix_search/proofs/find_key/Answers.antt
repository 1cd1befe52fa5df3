-- `prefix_search::find_key` meets its contract: a buffer that is no book is refused, and of a book the starts that fit are put.
-- Assumes nothing.
use Rattle.std.proofs.lemmas.Result.{err_from_is_err_and}
use Rattle.refusals.specs.Outcome.{outcome_of}
use Rattle.book_fitting.specs.Fitting.{fits_key}
use Rattle.prefix_search.proofs.Answers.{no_book, listed}
use Rattle.prefix_search.proofs.find_key.Goals as goal

pub returns-in_err-opening : goal.returns-in_err-opening
returns-in_err-opening c =
    let s = c.args in
    let p = err_from_is_err_and c.from_residual.result c.from_residual.ensures.1 in
    rw (p.1, p.2) (no_book (fits_key s.prefix.now) s.starts.now c.in_err-opening.ensures.opened)

pub returns : goal.returns
returns c =
    let s = c.args in
    listed c.in_ok-opening.ensures.opened (fits_key s.prefix.now) s.starts.now _ (outcome_of c.sort_records.result) c.sort_records.ensures
