-- `transitions::tables::rules_of` meets its contract: the rules are those of the value's class.
-- Assumes nothing.
use Rattle.transitions.proofs.tables.rules_of.Goals as goal

pub returns : goal.returns
returns c = rw (c.rules_in.ensures, c.class_of.ensures)
