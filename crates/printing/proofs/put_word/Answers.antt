-- `printing::put_word` meets its contract: what is put is what the answer of the line says.
-- Assumes nothing.
use mathlib.Core.Path.{refl}
use Rattle.printing.proofs.Answers.{word_put}
use Rattle.printing.proofs.put_word.Goals as goal

pub returns-in_default : goal.returns-in_default
returns-in_default c = word_put c.answer_line-answer.ensures (rw (c.refusal_in.ensures, c.in_default.is) refl) c.put_refused.ensures

pub returns : goal.returns
returns c = word_put c.answer_line-answer.ensures (rw c.in-Ok.is refl) c.put_accepted.ensures
