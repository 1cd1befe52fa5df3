-- `ranking::order_records` meets its contract: the live count is known before any sorting, and what is sorted is the definition's list.
-- Assumes nothing.
use Rattle.std.proofs.lemmas.Result.{err_from_is_err_and}
use Rattle.refusals.specs.Outcome.{outcome_of}
use Rattle.ranking.proofs.Answers.{no_book, order_too_short, order_put}
use Rattle.ranking.proofs.order_records.Goals as goal

pub returns-in_err-opening : goal.returns-in_err-opening
returns-in_err-opening c =
    let p = err_from_is_err_and c.from_residual.result c.from_residual.ensures.1 in rw (p.1, p.2) (no_book c.args.starts.now c.in_err-opening.ensures.opened)

pub returns-then-starts-opening : goal.returns-then-starts-opening
returns-then-starts-opening c = let r = c.in_ok-opening.ensures in order_too_short r.opened r.answer _ c.if-starts-opening.true

pub returns : goal.returns
returns c =
    let r = c.in_ok-opening.ensures in
    order_put r.opened r.answer c.args.starts.now _ (outcome_of c.sort_records.result) c.sort_records.ensures
