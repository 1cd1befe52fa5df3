-- `likeness::look_alike` meets its contract: labels are told alike where their skeletons are the same.
-- Assumes nothing.
use Rattle.std.proofs.Common.{rules}
use Rattle.likeness.proofs.Alike.{label_given, first_refused, second_refused, likened}
use Rattle.likeness.proofs.look_alike.Goals as goal

pub returns : goal.returns
returns c =
    likened (label_given _ _ c.skeleton.result c.skeleton.ensures c.in_ok-one_count.one_count (search rules))
    (label_given _ _ c.skeleton-2.result c.skeleton-2.ensures c.in_ok-other_count.other_count (search rules)) _ (search rules)

pub returns-in_err-one_count : goal.returns-in_err-one_count
returns-in_err-one_count c =
    first_refused _ _ c.from_residual.result _ c.skeleton.result c.skeleton.ensures (search rules)

pub returns-in_err-other_count : goal.returns-in_err-other_count
returns-in_err-other_count c =
    second_refused _ _ c.from_residual-in_err-other_count.result _ _ _ c.skeleton-2.result
    (label_given _ _ c.skeleton.result c.skeleton.ensures c.in_ok-one_count.one_count (search rules)) c.skeleton-2.ensures (search rules)
