-- `labelling::put_skeleton` meets its contract: what the rules refuse is not put, and what they accept is put where there is room.
-- Assumes nothing.
use mathlib.Core.Path.{sym, ◌∙◌}
use borrow.Author.Tests.{leb-true, leb-false}
use Rattle.labelling.proofs.Stored.{rules_short, form_written, form_unwritten}
use Rattle.labelling.proofs.put_skeleton.Goals as goal

pub has_room-requires : goal.has_room-requires
has_room-requires c = rules_short _ _ c.args.output.now c.requires _ c.in_ok-answer_by_rules.ensures

pub put-requires : goal.put-requires
put-requires c = leb-true _ _ (sym c.has_room.ensures ∙ c.if-has_room.true)

pub returns-then-has_room : goal.returns-then-has_room
returns-then-has_room c =
    form_written _ _ _ c.requires _ c.in_ok-answer_by_rules.ensures (leb-true _ _ (sym c.has_room.ensures ∙ c.if-has_room.true)) _ _ c.put.ensures

pub returns : goal.returns
returns c =
    form_unwritten _ _ _ c.requires _ c.in_ok-answer_by_rules.ensures _ c.measure.ensures (leb-false _ _ (sym c.has_room.ensures ∙ c.if-has_room.false))
