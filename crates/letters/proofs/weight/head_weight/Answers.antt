-- `letters::weight::head_weight` meets its contract: at each end of its comparisons the value's bounds decide every range of the definition.
-- Assumes nothing.
use borrow.Author.Rules.{rules}
use Rattle.letters.proofs.Picks.{ranges}
use Rattle.letters.proofs.weight.head_weight.Goals as goal

pub returns-in-4096-to-4129 : goal.returns-in-4096-to-4129
returns-in-4096-to-4129 c = search (rules, ranges, tt) depth 20 fits 20000

pub returns-in-4160-to-4169 : goal.returns-in-4160-to-4169
returns-in-4160-to-4169 c = search (rules, ranges, tt) depth 20 fits 20000

pub returns-in-4170-to-4171 : goal.returns-in-4170-to-4171
returns-in-4170-to-4171 c = search (rules, ranges, tt) depth 20 fits 20000

pub returns-in-4172-to-4175 : goal.returns-in-4172-to-4175
returns-in-4172-to-4175 c = search (rules, ranges, tt) depth 20 fits 20000

pub returns-in-4131-to-4135 : goal.returns-in-4131-to-4135
returns-in-4131-to-4135 c = search (rules, ranges, tt) depth 20 fits 20000

pub returns-in-4131-to-4135-2 : goal.returns-in-4131-to-4135-2
returns-in-4131-to-4135-2 c = search (rules, ranges, tt) depth 20 fits 20000

pub returns-in_default : goal.returns-in_default
returns-in_default c = search (rules, ranges, tt) depth 20 fits 20000

pub returns-in_default-2 : goal.returns-in_default-2
returns-in_default-2 c = search (rules, ranges, tt) depth 20 fits 20000

pub returns-in_default-3 : goal.returns-in_default-3
returns-in_default-3 c = search (rules, ranges, tt) depth 20 fits 20000

pub returns-in_default-4 : goal.returns-in_default-4
returns-in_default-4 c = search (rules, ranges, tt) depth 20 fits 20000

pub returns-in_default-5 : goal.returns-in_default-5
returns-in_default-5 c = search (rules, ranges, tt) depth 20 fits 20000
