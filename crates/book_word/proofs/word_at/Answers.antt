-- `book_word::word_at` meets its contract: what is told of the record that starts there, or that none does, or why the buffer is no book.
-- Assumes nothing.
use Rattle.std.proofs.Common.{subst}
use Rattle.std.proofs.lemmas.Result.{err_from_is_err_and}
use Rattle.book_word.specs.WordAt.{StartRight}
use Rattle.book_word.proofs.Telling.{word_told, word_missing}
use Rattle.book_word.proofs.word_at.Goals as goal

pub returns-then-not-is_start-clause-right : goal.returns-then-not-is_start-clause-right
returns-then-not-is_start-clause-right c =
    let s = c.args in
    word_missing s.book.now _ c.in_ok-opening.ensures.opened s.start s.output.now (subst (StartRight s.book.now s.start) c.if-not-is_start.true c.is_start.ensures)

pub returns-in_err-told-clause-right : goal.returns-in_err-told-clause-right
returns-in_err-told-clause-right c =
    let s = c.args in
    let p = err_from_is_err_and c.from_residual-in_err-told.result c.from_residual-in_err-told.ensures.1 in
    rw (p.1, p.2)
    (word_told s.book.now _ c.in_ok-opening.ensures.opened s.start s.output.now _ _
    (subst (StartRight s.book.now s.start) c.if-not-is_start.false c.is_start.ensures) c.in_err-told.ensures.right)

pub returns-clause-right : goal.returns-clause-right
returns-clause-right c =
    let s = c.args in
    word_told s.book.now _ c.in_ok-opening.ensures.opened s.start s.output.now _ _
    (subst (StartRight s.book.now s.start) c.if-not-is_start.false c.is_start.ensures) c.in_ok-told.ensures.right
