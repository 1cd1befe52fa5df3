-- Document 02, labels: whether two of them look alike.
-- Assumes nothing.
use Rattle.std.specs.Prelude.{◌≡◌, Bool, List, ℕ}
use Rattle.letters.specs.Weights.{bit_if}
use Rattle.formula.specs.Lists.{same_list}
use Rattle.refusals.specs.Pair.{PairOutcome, PairAnswers}
use Rattle.labelling.specs.Labelling.{IsLabel, LabelRefusedWith, skeleton}

-- "Two labels look alike exactly when their skeletons are identical"
pub record LookAlike (first second : List ℕ) : Type 0 where
  pub first_count : ℕ
  pub first_label : IsLabel first first_count
  pub second_count : ℕ
  pub second_label : IsLabel second second_count
  pub same : skeleton first ≡ skeleton second

-- that two labels look alike, as the number that is told: 1, and 0 that they do not
abbrev pub alike_number : Bool → ℕ
alike_number alike = bit_if alike 1

-- what is told of two labels: 1 where their skeletons are the same, and 0 where they are not
pub record Likened (first second : List ℕ) (number : ℕ) : Type 0 where
  pub first_count : ℕ
  pub first_label : IsLabel first first_count
  pub second_count : ℕ
  pub second_label : IsLabel second second_count
  pub told : number ≡ bit_if (same_list (skeleton first) (skeleton second)) 1

-- the promise of the test for two labels that look alike
abbrev pub LookAlikeAnswers : List ℕ → List ℕ → PairOutcome → Type 0
LookAlikeAnswers first second outcome = PairAnswers IsLabel LabelRefusedWith Likened first second outcome
