-- Document 01, "Weights": the comparison of two words; "of two words, the first is tested whole, and the answer says which".
-- Assumes nothing.
use Rattle.std.specs.Prelude.{◌≡◌, List, [], ◌∷◌, ℕ}
use Rattle.letters.specs.Weights.{head_weight}
use Rattle.formula.specs.Row.{Row, Gives}
use Rattle.refusals.specs.Pair.{PairOutcome, pair_outcome_by, PairAnswers}
use Rattle.std.specs.declared.result.Result.{Result}
use Rattle.refusals.specs.declared.PairRefusal.{PairRefusal}
use Rattle.std.specs.declared.option.Option.{Option}
use Rattle.std.specs.declared.option.Option.TheVariants.{Some, None}
use Rattle.storage.specs.Stored.{stored_form}
use Rattle.normaliser.specs.Normal.{StoreRefusedWith, Stores}
use Rattle.weighing.specs.Order.{filed, order}
use Rattle.std.specs.declared.cmp.Ordering.{Ordering}
use Rattle.std.specs.declared.cmp.Ordering.TheVariants.{Less as Before, Equal as Alike, Greater as Behind}

-- an order as the number that is told: 0 for before, 1 for equal, 2 for behind
abbrev pub order_number : Ordering → ℕ
order_number Before = 0
order_number Alike = 1
order_number Behind = 2

-- both stored forms are rows of syllables, and they are in this order
pub record Ordered (first second : List ℕ) (is : Ordering) : Type 0 where
  pub first_count : ℕ
  pub first_stores : Stores first first_count
  pub second_count : ℕ
  pub second_stores : Stores second second_count
  pub by_weights : (row other : Row) → Gives row (stored_form first) → Gives other (stored_form second)
      → is ≡ order (filed row (stored_form first)) (filed other (stored_form second))

-- they are in the order that is told
pub record Compares (first second : List ℕ) (number : ℕ) : Type 0 where
  pub is : Ordering
  pub ordered : Ordered first second is
  pub numbered : number ≡ order_number is

abbrev pub CompareAnswers : List ℕ → List ℕ → PairOutcome → Type 0
CompareAnswers first second outcome = PairAnswers Stores StoreRefusedWith Compares first second outcome

-- the promise of a comparison
abbrev pub CompareRight : List ℕ → List ℕ → Result Ordering PairRefusal → Type 0
CompareRight first second answer = CompareAnswers first second (pair_outcome_by order_number answer)

-- inner contracts cite what follows: the weight of the first value as a head; 0 where it is none, and for no values,
abbrev pub first_head : List ℕ → ℕ
first_head [] = 0
first_head (x ∷ word) = head_weight x

-- and the order that the first heads tell, where they tell one
abbrev pub HeadsTell : List ℕ → List ℕ → Option Ordering → Type 0
HeadsTell first second (Some is) = Ordered first second is
HeadsTell first second None = Unit {0}
