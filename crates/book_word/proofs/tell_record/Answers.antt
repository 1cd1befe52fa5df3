-- `book_word::tell_record` meets its contract: the frame gives the count, and what is told and copied is that of the entry that is read there.
-- Assumes nothing.
use Rattle.std.proofs.Common.{sym, arith}
use Rattle.refusals.specs.Outcome.{accepts_both}
use Rattle.entries.proofs.Records.{framed_true}
use Rattle.book_word.specs.WordAt.{marked_count}
use Rattle.book_word.proofs.Telling.{told_short, told_whole}
use Rattle.book_word.proofs.tell_record.Goals as goal

pub overflow_add-count : goal.overflow_add-count
overflow_add-count c = let f = framed_true _ _ c.requires.1 in omega (arith, f.room, c.requires.0)

pub bounds-book-at : goal.bounds-book-at
bounds-book-at c = let f = framed_true _ _ c.requires.1 in omega (arith, f.room)

pub returns-then-output-size-clause-right : goal.returns-then-output-size-clause-right
returns-then-output-size-clause-right c =
    told_short c.args.book.now c.args.at (framed_true _ _ c.requires.1) c.from-size.result c.from-size.ensures c.args.output.now c.if-output-size.true

pub overflow_add-at : goal.overflow_add-at
overflow_add-at c = let f = framed_true _ _ c.requires.1 in omega (arith, f.room, c.requires.0)

pub copy_values-requires : goal.copy_values-requires
copy_values-requires c = let f = framed_true _ _ c.requires.1 in (omega (arith, f.room, c.from-size.ensures), c.if-output-size.false)

pub stock_at-stock-requires : goal.stock_at-stock-requires
stock_at-stock-requires c = let f = framed_true _ _ c.requires.1 in (c.requires.0, omega (arith, f.room))

pub at-live-requires : goal.at-live-requires
at-live-requires c = let f = framed_true _ _ c.requires.1 in (c.requires.0, omega (arith, f.room))

pub returns-clause-few : goal.returns-clause-few
returns-clause-few c = let f = framed_true _ _ c.requires.1 in omega (arith, f.short, c.from-size.ensures)

pub returns-clause-right : goal.returns-clause-right
returns-clause-right c =
    told_whole c.args.book.now c.args.at (framed_true _ _ c.requires.1) c.from-size.result c.from-size.ensures c.args.output.now _ _ c.if-output-size.false
    c.copy_values.ensures
    (λ i. accepts_both (c.stock_at-stock.ensures i) (marked_count (c.at-live.ensures.live i) (sym c.from-size.ensures i)))
