-- `book_fitting::has_prefix` meets its contract: the library's test is that of the definition.
-- Assumes nothing.
use borrow.Author.Rules.{rules}
use mathlib.Core.Path.{ap, ◌∙◌}
use Rattle.formula.specs.Lists.{is_prefix}
use Rattle.book_fitting.proofs.Fits.{prefix_told}
use Rattle.book_fitting.proofs.has_prefix.Goals as goal

pub returns : goal.returns
returns c = c.starts_with.ensures.value ∙ prefix_told c.args.prefix.now _ ∙ ap (is_prefix c.args.prefix.now) (search rules)
