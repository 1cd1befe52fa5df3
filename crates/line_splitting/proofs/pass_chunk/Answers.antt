-- `line_splitting::pass_chunk` meets its contract. The loop's invariant is `Along`: what was printed so far follows the bytes passed. The measure is what is left of the chunk.
-- Assumes nothing.
use native.Mathlib.Omega.{arith}
use Rattle.line_splitting.proofs.Following.{taken_passes}
use Rattle.line_splitting.proofs.Taking.{along_none, along_ready, along_more, along_taken}
use Rattle.line_splitting.proofs.pass_chunk.Goals as goal

pub loop-reached-init : goal.loop-reached-init
loop-reached-init g c = along_none _ _ _ _ _ c.requires

pub overflow_add-reached : goal.overflow_add-reached
overflow_add-reached g c = omega (arith, c.loop-reached.invariant.room)

pub take_line-reached-requires : goal.take_line-reached-requires
take_line-reached-requires g c = along_ready c.requires c.loop-reached.invariant c.if-reached-out.true

pub loop-reached-smaller : goal.loop-reached-smaller
loop-reached-smaller g c =
    let further = c.take_line-reached.ensures.further c.loop-reached-test.true in
    omega (arith, c.take_line-reached.ensures.within)

pub loop-reached-preserved : goal.loop-reached-preserved
loop-reached-preserved g c =
    along_more c.requires c.loop-reached.invariant c.loop-reached-test.true c.take_line-reached.ensures c.take_line-reached.auto.pending c.take_line-reached.auto.out

pub shape_of-pending-else-reached-out : goal.shape_of-pending-else-reached-out
shape_of-pending-else-reached-out g c = c.loop-reached.invariant.same_pending

pub shape_of-out-else-reached-out : goal.shape_of-out-else-reached-out
shape_of-out-else-reached-out g c = c.loop-reached.invariant.same_out

pub returns-else-reached-out : goal.returns-else-reached-out
returns-else-reached-out g c = taken_passes (along_taken c.requires c.loop-reached.invariant (λ h. c.if-reached-out.false))

pub shape_of-pending-after-loop-reached : goal.shape_of-pending-after-loop-reached
shape_of-pending-after-loop-reached g c = c.loop-reached.invariant.same_pending

pub shape_of-out-after-loop-reached : goal.shape_of-out-after-loop-reached
shape_of-out-after-loop-reached g c = c.loop-reached.invariant.same_out

pub returns-after-loop-reached : goal.returns-after-loop-reached
returns-after-loop-reached g c = taken_passes (along_taken c.requires c.loop-reached.invariant (λ h. let z : ⊥ = omega arith in absurd z))
