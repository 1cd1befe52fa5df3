-- `printing::answer_line` meets its contract: it answers the refusal of the decoding, or the key of its values.
-- Assumes nothing.
use mathlib.Core.Path.{ap, ◌∙◌}
use Rattle.std.proofs.Common.{rules}
use Rattle.std.specs.declared.result.Result.TheVariants.{Err}
use Rattle.std.proofs.lemmas.Result.{err_from_is_err_and}
use Rattle.lines.proofs.Told.{told_word}
use Rattle.printing.proofs.Answers.{refused_right, values_right}
use Rattle.printing.proofs.answer_line.Goals as goal

pub returns-in_err-word : goal.returns-in_err-word
returns-in_err-word c =
    let refused = err_from_is_err_and c.from_residual.result c.from_residual.ensures.1 in
    refused_right c.decode.ensures c.in_err-word.field-0.0 (search rules) c.from_residual.result (refused.1 ∙ ap Err refused.2)

pub returns : goal.returns
returns c = values_right (told_word _ _ c.decode.ensures _ (search rules)) c.key_of.ensures
