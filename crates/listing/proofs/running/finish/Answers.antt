-- `listing::running::finish` meets its contract: at the end of the input a line is open with a byte exactly where a byte is held.
-- Assumes nothing.
use native.Mathlib.Omega.{arith}
use Rattle.listing.proofs.Ending.{written_within, comes_none, comes_line}
use Rattle.listing.proofs.running.finish.Goals as goal

pub returns-then-held-eq0 : goal.returns-then-held-eq0
returns-then-held-eq0 g c = rw c.in_default.is (record { within = omega arith; right = λ bytes text f. comes_none f _ (omega arith) })

pub returns : goal.returns
returns g c =
    rw c.in_default.is
    (record {
      within = written_within c.put_line.auto.out c.put_line.ensures.written;
      right = λ bytes text f. comes_line f _ g.met.T.Task.kept (λ e. omega arith) c.put_line.auto.out c.put_line.ensures;
    })
