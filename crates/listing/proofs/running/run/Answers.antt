-- `listing::running::run` is safe and ends. The loop's invariant is `Going`: what was printed follows the bytes that were read, and the line numbers do not run out before the calls do.
-- Assumes nothing.
use mathlib.Core.Path.{refl}
use mathlib.Core.List.{[]}
use native.Mathlib.Omega.{arith}
use Rattle.line_splitting.proofs.Following.{follows_none}
use Rattle.listing.proofs.running.run.Goals as goal

pub loop-init : goal.loop-init
loop-init g c =
    record {
      chunk_size = refl;
      pending_size = refl;
      out_size = refl;
      held = omega arith;
      numbers = omega arith;
      bytes = [];
      text = [];
      follows = follows_none _ _;
    }
