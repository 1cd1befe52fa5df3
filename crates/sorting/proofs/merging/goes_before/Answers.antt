-- `sorting::merging::goes_before` meets its contract: it is the comparison of the records. Assumes nothing.
use mathlib.Core.Path.{◌∙◌}
use Rattle.sorting.specs.Sorting.{goes_before}
use Rattle.sorting.proofs.merging.goes_before.Goals as goal

pub returns : goal.returns
unfolding goes_before
returns c = c.is_before.ensures ∙ (λ i. goes_before c.args.book.now (c.from.ensures i) (c.from-2.ensures i))
