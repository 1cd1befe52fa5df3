-- `transitions::tables::gain` meets its contract: what is added is that of the outcome which the state picks.
-- Assumes nothing.
use mathlib.Core.Path.{ap}
use Prim.Native.Nat.{ℕ, ◌/◌, ◌%◌, ◌^◌, ◌*◌}
use Rattle.transitions.proofs.tables.gain.Goals as goal

pub returns : goal.returns
returns c =
    let rules = c.args.rules in
    ap (λ (k : ℕ). (rules.amounts / 2 ^ (8 * k) % 256) * 2 ^ (rules.amounts % 64) % 0x10000000000000000) c.chosen-outcome.ensures.0
