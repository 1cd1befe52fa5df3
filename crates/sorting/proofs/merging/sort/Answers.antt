-- `sorting::merging::sort` meets its contract: starts that fall are turned round. Assumes nothing.
use mathlib.Core.Path.{sym, ◌∙◌}
use Rattle.sorting.specs.Sorting.{goes_before}
use Rattle.sorting.proofs.Rising.{reverse_in_order}
use Rattle.sorting.proofs.merging.sort.Goals as goal

pub returns-then-falls : goal.returns-then-falls
returns-then-falls c =
    c.reverse.ensures.after ∙ reverse_in_order (goes_before c.args.book.now) c.args.starts.now (sym c.falls.ensures ∙ c.if-falls.true)
