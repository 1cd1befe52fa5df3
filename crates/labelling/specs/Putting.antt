-- The skeleton of a stored form, put where the rules accept it and there is room. Inner contracts cite it.
-- Assumes nothing.
use Rattle.std.specs.Prelude.{◌≡◌, List, ℕ}
use Rattle.refusals.specs.Outcome.{Outcome, accepts, refuses}
use Rattle.refusals.specs.Output.{Puts}
use Rattle.label_rules.specs.Rules.{label_of}
use Rattle.skeletons.specs.Skeleton.{skeleton_of}

pub data FormPut (form : List ℕ) (n : ℕ) (before after : List ℕ) : Outcome → Type 0 where
  breaks : {number place : ℕ} → label_of form n ≡ refuses number place → after ≡ before → FormPut form n before after (refuses number place)
  meets : {outcome : Outcome} → label_of form n ≡ accepts n → Puts (skeleton_of form) before after outcome → FormPut form n before after outcome
