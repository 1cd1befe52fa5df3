-- `normaliser::normal_form` meets its contract: a stored form that is not refused is a row, so the word is stored.
-- Assumes nothing.
use Rattle.std.proofs.Common.{rules, arith}
use Rattle.normaliser.proofs.Storing.{normal_right}
use Rattle.normaliser.proofs.normal_form.Goals as goal

pub returns : goal.returns
returns c = normal_right _ (omega arith) _ (search rules) c.answer_of.result (search rules) (search rules)
