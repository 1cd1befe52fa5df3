-- `listing::running::answer_chunk` meets its contract: what the writes took is counted beside the lines that are passed. The loop's invariant is `Passing`. The measure is what is left of the chunk.
-- Assumes nothing.
use mathlib.Core.Path.{◌∙◌}
use Prim.Native.Nat.{◌≤◌}
use native.Mathlib.Omega.{arith}
use lib.ListN.{length-take}
use Rattle.listing.proofs.Passing.{passing_none, passing_ready, passing_fits, passing_more, passing_short, passing_whole}
use Rattle.listing.proofs.running.answer_chunk.Goals as goal

pub loop-reached-init : goal.loop-reached-init
loop-reached-init g c = passing_none c.requires

pub pass_chunk-reached-requires : goal.pass_chunk-reached-requires
pass_chunk-reached-requires g c = passing_ready c.requires c.loop-reached.invariant

pub slice_bounds-write_whole-end : goal.slice_bounds-write_whole-end
slice_bounds-write_whole-end g c = omega (arith, c.pass_chunk-reached.ensures.room, c.pass_chunk-reached.auto.out)

pub slice_bounds-write_whole-end-in-loop-reached : goal.slice_bounds-write_whole-end-in-loop-reached
slice_bounds-write_whole-end-in-loop-reached g c = simp length-take (omega (arith, c.pass_chunk-reached.ensures.room, c.pass_chunk-reached.auto.out))

pub write_whole-written-requires : goal.write_whole-written-requires
write_whole-written-requires g c = tt

pub overflow_sub-missing : goal.overflow_sub-missing
overflow_sub-missing g c =
    let no_more : c.write_whole-written.result ≤ c.pass_chunk-reached.result.used =
    omega (arith, c.write_whole-written.ensures, length-take c.pass_chunk-reached.result.used c.pass_chunk-reached.new.out) in
    omega (arith, no_more)

pub overflow_add-taken : goal.overflow_add-taken
overflow_add-taken g c =
    let no_more : c.write_whole-written.result ≤ c.pass_chunk-reached.result.used =
    omega (arith, c.write_whole-written.ensures, length-take c.pass_chunk-reached.result.used c.pass_chunk-reached.new.out) in
    record {
      fits =
          passing_fits c.requires c.loop-reached.invariant c.pass_chunk-reached.ensures c.loop-reached-test.true
          _ (omega (arith, no_more));
    }

pub shape_of-pending-then-missing-gt0 : goal.shape_of-pending-then-missing-gt0
shape_of-pending-then-missing-gt0 g c = c.pass_chunk-reached.auto.pending ∙ c.loop-reached.invariant.same_pending

pub shape_of-out-then-missing-gt0 : goal.shape_of-out-then-missing-gt0
shape_of-out-then-missing-gt0 g c = c.pass_chunk-reached.auto.out ∙ c.loop-reached.invariant.same_out

pub returns-then-missing-gt0 : goal.returns-then-missing-gt0
returns-then-missing-gt0 g c =
    let no_more : c.write_whole-written.result ≤ c.pass_chunk-reached.result.used =
    omega (arith, c.write_whole-written.ensures, length-take c.pass_chunk-reached.result.used c.pass_chunk-reached.new.out) in
    passing_short c.requires c.loop-reached.invariant c.pass_chunk-reached.ensures c.loop-reached-test.true
    _ _ (omega arith) (omega (arith, no_more))

pub loop-reached-smaller : goal.loop-reached-smaller
loop-reached-smaller g c =
    let further = c.pass_chunk-reached.ensures.further c.loop-reached-test.true in
    omega (arith, c.pass_chunk-reached.ensures.within)

pub loop-reached-preserved : goal.loop-reached-preserved
loop-reached-preserved g c =
    let no_more : c.write_whole-written.result ≤ c.pass_chunk-reached.result.used =
    omega (arith, c.write_whole-written.ensures, length-take c.pass_chunk-reached.result.used c.pass_chunk-reached.new.out) in
    passing_more c.requires c.loop-reached.invariant c.pass_chunk-reached.ensures c.loop-reached-test.true
    _ _ (omega (arith, no_more)) c.pass_chunk-reached.auto.pending c.pass_chunk-reached.auto.out (omega arith)

pub shape_of-pending : goal.shape_of-pending
shape_of-pending g c = c.loop-reached.invariant.same_pending

pub shape_of-out : goal.shape_of-out
shape_of-out g c = c.loop-reached.invariant.same_out

pub returns : goal.returns
returns g c = passing_whole c.requires c.loop-reached.invariant c.loop-reached-test.false
