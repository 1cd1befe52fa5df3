-- `book_check::record::word_of` meets its contract: the frame says that the word stands within the buffer.
-- Assumes nothing.
use Rattle.std.proofs.Common.{arith}
use Rattle.entries.proofs.Records.{framed_true}
use Rattle.book_check.proofs.record.word_of.Goals as goal

pub overflow_add-from : goal.overflow_add-from
overflow_add-from c = let f = framed_true _ _ c.requires.1 in omega (arith, f.room, c.requires.0)

pub overflow_add-at : goal.overflow_add-at
overflow_add-at c = let f = framed_true _ _ c.requires.1 in omega (arith, f.room, c.requires.0)

pub bounds-book-at : goal.bounds-book-at
bounds-book-at c = let f = framed_true _ _ c.requires.1 in omega (arith, f.room)

pub overflow_add-result : goal.overflow_add-result
overflow_add-result c = let f = framed_true _ _ c.requires.1 in omega (arith, f.room, c.requires.0, c.from.ensures)

pub slice_bounds-result-end : goal.slice_bounds-result-end
slice_bounds-result-end c = let f = framed_true _ _ c.requires.1 in omega (arith, f.room, c.from.ensures)
