use Rattle.std.proofs.Common.{◌≡◌, ℕ, ◌<◌, ◌-◌, nat_lt}
use Rattle.formula.specs.Limits.{limit}
use Rattle.storage.specs.Stored.{goes_behind}
use Rattle.storage.proofs.Holding.{SameFrom}
use Rattle.storage.proofs.insert_ranked.Given as goal

abbrev pub invariant-loop-place : goal.invariant-loop-place
invariant-loop-place g l =
    (l.place < limit)
    × ((value : _ → ℕ) → ((y : _) (r : ℕ) → goal.F-post g l.rank y r → goes_behind (value l.x) (value y) ≡ nat_lt r l.own)
    → SameFrom value l.initial.sorted l.sorted l.at l.place l.x)

abbrev pub decreases-loop-place : goal.decreases-loop-place
decreases-loop-place g l = limit - l.place
