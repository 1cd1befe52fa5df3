-- `spelling::measure` meets its contract: the sizes are summed.
-- Assumes nothing.
use mathlib.Core.Path.{◌≡◌, sym, ◌∙◌}
use borrow.Author.Rules.{rules}
use lib.ListN.{length}
use Rattle.std.specs.List.{sum_by}
use Rattle.spelling.specs.Plain.{spelled_by}
use Rattle.spelling.proofs.Fronts.{size_sum}
use Rattle.spelling.proofs.measure.Goals as goal

pub returns : goal.returns
returns c =
    let summed : c.sum.result ≡ sum_by (λ packed. length (spelled_by packed)) c.args.syllables.now = search rules in
    summed ∙ sym (size_sum c.args.syllables.now)
