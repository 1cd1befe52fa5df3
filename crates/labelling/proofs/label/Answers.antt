-- `labelling::label` meets its contract: a row is tested as it is handed in, and any other word is normalised first.
-- Assumes nothing.
use Rattle.labelling.proofs.Stored.{row_answers, formed, formed_readable, form_answers}
use Rattle.labelling.proofs.label.Goals as goal

pub returns-in-Ok : goal.returns-in-Ok
returns-in-Ok c = row_answers _ _ c.in-Ok.ensures _ c.answer_by_rules.ensures

pub count_syllables-requires : goal.count_syllables-requires
count_syllables-requires c = formed_readable _ _ _ (formed _ _ _ _ c.in_ok-count.ensures)

pub returns : goal.returns
returns c = form_answers _ _ _ (formed _ _ _ _ c.in_ok-count.ensures) _ c.count_syllables.ensures _ c.answer_by_rules-2.ensures
