-- `collation::weigh::weigh_stored` meets its contract: the stored form is read and weighed as any word.
-- Assumes nothing.
use Rattle.std.proofs.Common.{rules, arith}
use Rattle.collation.proofs.Weighing.{held_weighed}
use Rattle.collation.proofs.weigh.weigh_stored.Goals as goal

pub returns : goal.returns
returns c = held_weighed _ (omega arith) _ c.stored-form.result (search rules) c.fill.result (search rules) _ (search rules)
