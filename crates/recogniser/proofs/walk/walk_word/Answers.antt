-- `recogniser::walk::walk_word` meets its contract: before each turn the state and the count are those of what the machine has kept of the
-- values read. Assumes nothing.
use mathlib.Core.Path.{ap, ◌∙◌}
use native.Mathlib.Omega.{arith}
use Rattle.transitions.specs.Tables.{next_by}
use Rattle.recogniser.proofs.Walking.{count_within, turn_stopped, turn_left}
use Rattle.recogniser.proofs.walk.walk_word.Goals as goal

pub returns-then-entry-eq-REFUSED : goal.returns-then-entry-eq-REFUSED
returns-then-entry-eq-REFUSED c =
    turn_stopped _ _ _ _ c.loop-at.invariant c.loop-at-test.true c.next-entry.result (c.next-entry.ensures ∙ ap (next_by c.loop-at.state) c.rules_of.ensures)
    c.requires c.if-entry-eq-REFUSED.true

pub overflow_add-count : goal.overflow_add-count
overflow_add-count c = omega (arith, count_within _ _ _ _ c.loop-at.invariant)

pub overflow_sub-count : goal.overflow_sub-count
overflow_sub-count c =
    let left =
    turn_left _ _ _ _ c.loop-at.invariant c.loop-at-test.true c.next-entry.result (c.next-entry.ensures ∙ ap (next_by c.loop-at.state) c.rules_of.ensures)
    c.if-entry-eq-REFUSED.false in
    omega arith
