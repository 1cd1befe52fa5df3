-- `letters::weight::independent_vowel_weight` meets its contract: at each end of its comparisons the value's bounds decide both ranges of the definition.
-- Assumes nothing.
use borrow.Author.Rules.{rules}
use Rattle.letters.proofs.Picks.{ranges}
use Rattle.letters.proofs.weight.independent_vowel_weight.Goals as goal

pub returns-in-4131-to-4135 : goal.returns-in-4131-to-4135
returns-in-4131-to-4135 c = search (rules, ranges, tt) depth 16

pub returns-in-4137-to-4138 : goal.returns-in-4137-to-4138
returns-in-4137-to-4138 c = search (rules, ranges, tt) depth 16

pub returns-in_default : goal.returns-in_default
returns-in_default c = search (rules, ranges, tt) depth 16

pub returns-in_default-2 : goal.returns-in_default-2
returns-in_default-2 c = search (rules, ranges, tt) depth 16

pub returns-in_default-3 : goal.returns-in_default-3
returns-in_default-3 c = search (rules, ranges, tt) depth 16
