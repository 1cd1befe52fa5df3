-- The promise on two labels determines its answer: of each word there is one, and what is told of two is an equation.
-- Assumes nothing.
use mathlib.Core.Path.{◌≡◌, refl, sym, ◌∙◌}
use mathlib.Core.List.{List}
use mathlib.Core.Bool.{Bool, true, false}
use Prim.Native.Nat.{ℕ}
use native.Mathlib.Omega.{arith}
use Rattle.refusals.specs.Pair.{PairOutcome, pair_outcome_by}
use Rattle.std.specs.declared.result.Result.{Result}
use Rattle.refusals.specs.declared.PairRefusal.{PairRefusal}
use Rattle.refusals.proofs.Laws.{paired_once}
use Rattle.refusals.proofs.Pairs.{BothPass, pair_once}
use Rattle.labelling.specs.Labelling.{IsLabel, LabelRefusedWith}
use Rattle.labelling.proofs.Determined.{label_refused_alike, label_not_refused}
use Rattle.likeness.specs.Likeness.{alike_number, Likened, LookAlikeAnswers}

module _ (first second : List ℕ) where
  both_labels : (k : ℕ) → Likened first second k → BothPass IsLabel first second
  both_labels k l =
      record {
        first_passes = record { count = l.first_count; passes = l.first_label };
        second_passes = record { count = l.second_count; passes = l.second_label };
      }

  likened_once : (k l : ℕ) → Likened first second k → Likened first second l → k ≡ l
  likened_once k l s t = s.told ∙ sym t.told

-- the outcome of looking at two words is determined, and so is the answer
pub look_alike_once : (first second : List ℕ) (a b : PairOutcome) → LookAlikeAnswers first second a → LookAlikeAnswers first second b → a ≡ b
look_alike_once = pair_once IsLabel LabelRefusedWith Likened label_refused_alike label_not_refused both_labels likened_once

alike_numbered : (a b : Bool) → alike_number a ≡ alike_number b → a ≡ b
alike_numbered true true e = refl
alike_numbered true false e = let z : ⊥ = omega arith in absurd z
alike_numbered false true e = let z : ⊥ = omega arith in absurd z
alike_numbered false false e = refl

pub look_alike_determined : (first second : List ℕ) (a b : Result Bool PairRefusal) → LookAlikeAnswers first second (pair_outcome_by alike_number a)
    → LookAlikeAnswers first second (pair_outcome_by alike_number b) → a ≡ b
look_alike_determined first second a b r s =
    paired_once alike_number alike_numbered a b
    (look_alike_once first second (pair_outcome_by alike_number a) (pair_outcome_by alike_number b) r s)
