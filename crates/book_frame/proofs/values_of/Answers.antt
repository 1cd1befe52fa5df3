-- `book_frame::values_of` meets its contract: the values are copied to the front of an array.
-- Assumes nothing.
use borrow.Author.Rules.{rules}
use mathlib.Core.Path.{ap, ◌∙◌}
use lib.ListN.{take}
use lib.Seq.{take_at}
use Rattle.book_frame.proofs.Parts.{length_values}
use Rattle.book_frame.proofs.values_of.Goals as goal

pub returns : goal.returns
returns c =
    let long = length_values c.args.book.now c.args.from c.args.count c.requires.1 in
    (ap (take c.args.count) c.copy_values.ensures ∙ take_at _ _ c.args.count long, search rules)
