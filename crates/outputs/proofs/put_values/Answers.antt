-- `outputs::put_values` meets its contract: the decoded word is written out where there is room for it.
-- Assumes nothing.
use mathlib.Core.Path.{refl}
use Rattle.refusals.specs.Outcome.{outcome_of}
use Rattle.std.proofs.lemmas.Result.{err_from_is_err_and}
use Rattle.outputs.proofs.Decoding.{refused_right, written_right}
use Rattle.outputs.proofs.put_values.Goals as goal

pub returns-in_err-word : goal.returns-in_err-word
returns-in_err-word c =
    let refused = err_from_is_err_and c.from_residual.result c.from_residual.ensures.1 in
    rw (refused.1, refused.2) (refused_right _ c.decode.result c.decode.ensures c.in_err-word.field-0.0 c.in_err-word.was _ _ refl)

pub returns : goal.returns
returns c = written_right _ c.decode.result c.decode.ensures _ c.in_ok-word.was _ _ (outcome_of c.put_out.result) c.put_out.ensures
