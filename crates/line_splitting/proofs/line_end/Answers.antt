-- `line_splitting::line_end` meets its contract. The loop's invariant: of the bytes passed none ends a line. The measure is what is left of the chunk.
-- Assumes nothing.
use native.Mathlib.Omega.{arith}
use Rattle.line_splitting.proofs.Cutting.{plain_start, plain_further}
use Rattle.line_splitting.proofs.line_end.Goals as goal

pub loop-at-init : goal.loop-at-init
loop-at-init c = (omega arith, omega arith, plain_start c.args.chunk.now c.args.from)

pub bounds-chunk-at : goal.bounds-chunk-at
bounds-chunk-at c = omega arith

pub returns-then-chunk-at-eq10 : goal.returns-then-chunk-at-eq10
returns-then-chunk-at-eq10 c =
    record { forward = c.loop-at.invariant.0; within = c.loop-at.invariant.1; none = c.loop-at.invariant.2; there = λ h. c.if-chunk-at-eq10.true }

pub overflow_add-at : goal.overflow_add-at
overflow_add-at c = omega arith

pub loop-at-smaller : goal.loop-at-smaller
loop-at-smaller c = omega arith

pub loop-at-preserved : goal.loop-at-preserved
loop-at-preserved c = (
  omega arith,
  omega arith,
  plain_further c.args.chunk.now c.args.from c.loop-at.at c.loop-at.invariant.0 c.loop-at-test.true c.loop-at.invariant.2 c.if-chunk-at-eq10.false,
)

pub returns : goal.returns
returns c =
    record { forward = c.loop-at.invariant.0; within = c.loop-at.invariant.1; none = c.loop-at.invariant.2; there = λ h. let z : ⊥ = omega arith in absurd z }
