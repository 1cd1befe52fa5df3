-- `wordbook::enter::enter` meets its contract: an empty word is refused, and any other is what the normaliser says of it.
-- Assumes nothing.
use mathlib.Core.Path.{refl}
use native.Mathlib.Omega.{arith}
use Rattle.refusals.specs.Outcome.{outcome_of}
use Rattle.wordbook.specs.Calls.{empty}
use Rattle.wordbook.proofs.Stored.{entered_right}
use Rattle.wordbook.proofs.enter.enter.Goals as goal

pub returns-then-word-eq0 : goal.returns-then-word-eq0
returns-then-word-eq0 c = record { refused = empty c.if-word-eq0.true; values = refl }

pub returns : goal.returns
returns c =
    let some = c.if-word-eq0.false in
    entered_right _ _ _ (outcome_of c.normalise.result) (omega arith) c.requires c.normalise.ensures
