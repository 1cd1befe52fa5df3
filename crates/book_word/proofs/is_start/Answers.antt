-- `book_word::is_start` meets its contract. The invariant: no record that is passed starts at the place. The measure is what is left before the
-- free bytes. Assumes nothing.
use Rattle.std.proofs.Common.{ap, ◌+◌, ℕ, arith}
use borrow.Author.Tests.{ne_eqb}
use Rattle.lookup.proofs.Walk.{ahead_start, at_record, miss_to}
use Rattle.book_word.proofs.Walk.{starting_searches, start_met, start_missed}
use Rattle.book_word.proofs.is_start.Goals as goal

pub loop-at-init : goal.loop-at-init
loop-at-init c = ahead_start _ _ _ c.requires

pub returns-then-at-start : goal.returns-then-at-start
returns-then-at-start c =
    let a = c.loop-at.invariant in
    start_met _ _ _ _ a (at_record _ _ _ _ a c.loop-at-test.true) c.if-at-start.true

pub at-at-requires : goal.at-at-requires
at-at-requires c =
    let a = c.loop-at.invariant in
    let t = at_record _ _ _ _ a c.loop-at-test.true in
    (a.walk.is_book.short, omega (arith, t.stands.frame.room))

pub overflow_add-at : goal.overflow_add-at
overflow_add-at c =
    let a = c.loop-at.invariant in
    let t = at_record _ _ _ _ a c.loop-at-test.true in
    omega (arith, c.at-at.ensures.size, t.stands.frame.room, a.walk.is_book.short)

pub loop-at-preserved : goal.loop-at-preserved
loop-at-preserved c =
    let a = c.loop-at.invariant in
    let t = at_record _ _ _ _ a c.loop-at-test.true in
    miss_to (starting_searches c.args.start) _ _ _ a t (ap (λ (n : ℕ). c.loop-at.at + n) c.at-at.ensures.size) (ne_eqb c.loop-at.at c.args.start c.if-at-start.false)

pub returns : goal.returns
returns c = start_missed _ _ _ _ c.loop-at.invariant c.loop-at-test.false
