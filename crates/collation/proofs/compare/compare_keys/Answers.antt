-- `collation::compare::compare_keys` meets its contract: the weights decide before the values.
-- Assumes nothing.
use Rattle.std.proofs.Common.{rules}
use Rattle.collation.proofs.Weighing.{weighed_key}
use Rattle.collation.proofs.Comparing.{keys_told}
use Rattle.collation.proofs.compare.compare_keys.Goals as goal

pub returns : goal.returns
returns c =
    keys_told c.args.first.now c.args.second.now _ _
    (weighed_key _ _ _ c.weigh.ensures c.in_ok-one_count.one_count (search rules))
    (weighed_key _ _ _ c.weigh-2.ensures c.in_ok-other_count.other_count (search rules))
    c.cmp-order.result (search rules) _ (search rules)
