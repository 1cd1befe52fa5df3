-- Document 01's "Success" and "A refusal": what a call answers.
-- Assumes nothing.
use Rattle.std.specs.Prelude.{ℕ}
use Rattle.std.specs.declared.result.Result.{Result}
use Rattle.refusals.specs.declared.Refusal.{Refusal}
use Rattle.std.specs.declared.result.Result.TheVariants.{Ok, Err}
use Rattle.std.specs.declared.option.Option.{Option}
use Rattle.std.specs.declared.option.Option.TheVariants.{Some, None}
use Rattle.refusals.specs.Refusal.{number_of, place_of}

-- an answer in document 01's terms
pub data Outcome : Type 0 where
  -- "Success .. tells how many": one number
  accepts : ℕ → Outcome
  -- success that tells two numbers
  accepts_both : ℕ → ℕ → Outcome
  -- there is nothing of that number, which is no refusal
  absent : Outcome
  -- "A refusal gives number and place"
  refuses : ℕ → ℕ → Outcome

-- what an answer comes to, by what it tells where it is not refused
abbrev pub outcome_by : {A : Type 0} → (A → Outcome) → Result A Refusal → Outcome
outcome_by tells (Ok told) = tells told
-- a refusal: its number and its place
outcome_by tells (Err refusal) = refuses (number_of refusal) (place_of refusal)

-- what an answer of one number comes to
abbrev pub outcome_of : Result ℕ Refusal → Outcome
outcome_of (Ok n) = accepts n
outcome_of (Err refusal) = refuses (number_of refusal) (place_of refusal)

-- what there may be nothing of tells, by what it tells where it is there
abbrev pub tells_if_there : {A : Type 0} → (A → Outcome) → Option A → Outcome
tells_if_there tells (Some told) = tells told
-- nothing of the number asked for: no refusal
tells_if_there tells None = absent
