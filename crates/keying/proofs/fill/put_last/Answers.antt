-- `keying::fill::put_last` meets its contract: one test.
-- Assumes nothing.
use borrow.Author.Rules.{rules}
use Rattle.letters.proofs.Branches.{branches}
use Rattle.keying.specs.Filling.{put_last}
use Rattle.keying.proofs.fill.put_last.Goals as goal

pub returns-then-count-eq0 : goal.returns-then-count-eq0
unfolding put_last
returns-then-count-eq0 c = search (rules, branches) depth 14

pub returns : goal.returns
unfolding put_last
returns c = search (rules, branches) depth 14
