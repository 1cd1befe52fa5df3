-- `transitions::tables::next` meets its contract: the byte is that of the outcome which the state picks.
-- Assumes nothing.
use mathlib.Core.Path.{ap}
use Prim.Native.Nat.{ℕ, ◌/◌, ◌%◌, ◌^◌, ◌*◌}
use Rattle.transitions.proofs.tables.next.Goals as goal

pub returns : goal.returns
returns c = ap (λ (k : ℕ). c.args.rules.outcomes / 2 ^ (8 * k) % 256) c.chosen-outcome.ensures.0
