-- `transitions::classes::begins` meets its contract: one test after the other.
-- Assumes nothing.
use borrow.Author.Tests.{lt-ltb, le-ltb}
use Rattle.transitions.specs.Tables.{begins_by}
use Rattle.transitions.proofs.classes.begins.Goals as goal

pub returns-then-x-lt4139 : goal.returns-then-x-lt4139
unfolding begins_by
returns-then-x-lt4139 c = rw (lt-ltb _ _ c.if-x-lt4139.true)

pub returns-else-x-lt4139 : goal.returns-else-x-lt4139
unfolding begins_by
returns-else-x-lt4139 c = rw (le-ltb _ _ c.if-x-lt4139.false)
