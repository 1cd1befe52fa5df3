-- Document 01: "of two words, the first is tested whole, and the answer says which": what a call on two words answers.
-- Assumes nothing.
use Rattle.std.specs.Prelude.{List, ℕ}
use Rattle.std.specs.declared.result.Result.{Result}
use Rattle.refusals.specs.declared.PairRefusal.{PairRefusal}
use Rattle.std.specs.declared.result.Result.TheVariants.{Ok, Err}
use Rattle.refusals.specs.declared.PairRefusal.TheVariants.{First, Second}
use Rattle.refusals.specs.Refusal.{number_of, place_of}

-- what is told of both words, or a refusal's number and place with the word that it is of
pub data PairOutcome : Type 0 where
  tells : ℕ → PairOutcome
  first_refuses : ℕ → ℕ → PairOutcome
  second_refuses : ℕ → ℕ → PairOutcome

-- what an answer on two words comes to, by the number that stands for what is told of both
abbrev pub pair_outcome_by : {A : Type 0} → (A → ℕ) → Result A PairRefusal → PairOutcome
pair_outcome_by number (Ok told) = tells (number told)
pair_outcome_by number (Err (First refusal)) = first_refuses (number_of refusal) (place_of refusal)
pair_outcome_by number (Err (Second refusal)) = second_refuses (number_of refusal) (place_of refusal)

-- by the tests that a word passes with so many syllables, or is refused by, and by what is told of two words that pass them
module _ (Passes : List ℕ → ℕ → Type 0) (Refuses : List ℕ → ℕ → ℕ → Type 0) (Tells : List ℕ → List ℕ → ℕ → Type 0) where
  -- the first word passes each test, and the second is refused
  pub record OnlyFirst (first second : List ℕ) (number place : ℕ) : Type 0 where
    pub first_count : ℕ
    pub first_passes : Passes first first_count
    pub second_refused : Refuses second number place

  abbrev pub PairAnswers : List ℕ → List ℕ → PairOutcome → Type 0
  PairAnswers first second (tells n) = Tells first second n
  PairAnswers first second (first_refuses number place) = Refuses first number place
  PairAnswers first second (second_refuses number place) = OnlyFirst first second number place
