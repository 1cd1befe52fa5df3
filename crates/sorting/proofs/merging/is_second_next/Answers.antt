-- `sorting::merging::is_second_next` meets its contract: which part is at its end, and else the comparison, decide which one is next.
-- Assumes nothing.
use mathlib.Core.Path.{sym, ◌∙◌}
use native.Mathlib.Omega.{arith}
use Rattle.sorting.specs.Sorting.{goes_before}
use Rattle.book_keys.proofs.Live.{keyed_at}
use Rattle.sorting.proofs.Turns.{next_second, next_first, next_less}
use borrow.Author.Rules.{rules}
use Rattle.sorting.proofs.merging.is_second_next.Goals as goal

pub returns-then-first-middle : goal.returns-then-first-middle
returns-then-first-middle c =
    let s = c.args in
    next_second (goes_before s.book.now) s.starts.now s.first s.middle s.second c.if-first-middle.true

pub returns-then-second-starts : goal.returns-then-second-starts
returns-then-second-starts c =
    let a = c.args in
    let less = goes_before a.book.now in
    next_first less a.starts.now a.first a.middle a.second (omega arith) c.requires.mergeable.parted c.if-second-starts.true

pub goes_before-requires : goal.goes_before-requires
goes_before-requires c =
    let keyed = c.requires.mergeable.sortable.keyed in
    let starts = c.args.starts.now in
    (c.requires.mergeable.sortable.short, keyed_at _ _ starts c.args.second keyed (search rules), keyed_at _ _ starts c.args.first keyed (search rules))

pub returns : goal.returns
returns c =
    let a = c.args in
    let less = goes_before a.book.now in
    c.goes_before.ensures ∙ sym (next_less less a.starts.now a.first a.middle a.second (omega arith) c.requires.mergeable.parted (omega arith))
