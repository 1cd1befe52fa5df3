-- `spelling::put` meets its contract. The loop's invariant is `Filled`: both lists have the fronts of the syllables so far.
-- Assumes nothing.
use borrow.Author.Rules.{rules}
use Rattle.spelling.proofs.Fronts.{filled_none, filled_all, filled_room, filled_more}
use Rattle.spelling.proofs.put.Goals as goal

pub loop-number-init : goal.loop-number-init
loop-number-init c = filled_none c.args.syllables.now _ _

pub put_syllable-at-requires : goal.put_syllable-at-requires
put_syllable-at-requires c = search (rules, filled_room) depth 14

pub loop-number-preserved : goal.loop-number-preserved
loop-number-preserved c = search (rules, filled_more) depth 14

pub returns : goal.returns
returns c = search (rules, filled_all) depth 14
