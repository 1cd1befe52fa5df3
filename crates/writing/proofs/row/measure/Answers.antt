-- `writing::row::measure` meets its contract. The loop's invariant is `Measured`: the tests of what is left decide, and the values so far are counted.
-- Assumes nothing.
use mathlib.Core.Path.{ap, sym, ◌∙◌}
use native.Mathlib.Omega.{arith}
use Rattle.std.proofs.lemmas.Bool.Decides.{nat_tests}
use Rattle.syllable_record.specs.Record.{may_follow}
use Rattle.writing.specs.Records.{records_of}
use Rattle.writing.proofs.Measuring.{measured_none, measured_wrong, measured_long, measured_more, measured_open, measured_all}
use Rattle.writing.proofs.row.measure.Goals as goal

pub loop-next-init : goal.loop-next-init
loop-next-init c = measured_none _

pub returns-then-not-may_follow : goal.returns-then-not-may_follow
unfolding records_of
returns-then-not-may_follow c =
    measured_wrong c.args.records.now _ c.as_chunks.ensures.front (grind (arith, nat_tests)) _ _ _ c.loop-next.invariant c.loop-next-test.true (ap (may_follow c.loop-next.link) (sym c.from.ensures) ∙ sym c.may_follow.ensures ∙ c.if-not-may_follow.true)

pub returns-then-count-gt-LIMIT : goal.returns-then-count-gt-LIMIT
unfolding records_of
returns-then-count-gt-LIMIT c =
    measured_long c.args.records.now _ c.as_chunks.ensures.front (grind (arith, nat_tests)) _ _ _ c.loop-next.invariant c.loop-next-test.true _ c.part_size-count.ensures (omega arith)

pub loop-next-preserved : goal.loop-next-preserved
unfolding records_of
loop-next-preserved c =
    measured_more c.args.records.now _ c.as_chunks.ensures.front (grind (arith, nat_tests)) _ _ _ c.loop-next.invariant c.loop-next-test.true _ c.part_size-count.ensures
    (ap (may_follow c.loop-next.link) (sym c.from.ensures) ∙ sym c.may_follow.ensures ∙ c.if-not-may_follow.false) (omega arith)

pub returns-then-link-gt1 : goal.returns-then-link-gt1
unfolding records_of
returns-then-link-gt1 c = measured_open c.args.records.now _ c.as_chunks.ensures.front (grind (arith, nat_tests)) _ _ _ c.loop-next.invariant c.loop-next-test.false (omega arith)

pub returns : goal.returns
unfolding records_of
returns c = measured_all c.args.records.now _ c.as_chunks.ensures.front (grind (arith, nat_tests)) _ _ _ c.loop-next.invariant c.loop-next-test.false (omega arith)
