-- Two skeletons are told alike where they are the same, value by value.
-- Assumes nothing.
use mathlib.Core.Path.{◌≡◌, refl, ap, sym, ◌∙◌}
use mathlib.Core.Bool.{Bool, ◌&&◌}
use mathlib.Core.List.{List, [], ◌∷◌}
use Prim.Native.Nat.{ℕ, ◌≤◌}
use native.Mathlib.Omega.{arith}
use lib.Dec.{eqb}
use Rattle.refusals.specs.Refusal.{number_of, place_of}
use lib.ListN.{length, take}
use lib.Seq.{length-take-le}
use Rattle.std.specs.Cmp.Lexicographic.{pointwise}
use Rattle.formula.specs.Lists.{same_list}
use Rattle.refusals.specs.Outcome.{outcome_of}
use Rattle.refusals.specs.declared.Refusal.{Refusal}
use Rattle.std.specs.declared.result.Result.{Result}
use Rattle.std.specs.declared.result.Result.TheVariants.{Ok, Err}
use Rattle.std.specs.Result.{MatchResult}
use Rattle.refusals.specs.Pair.{pair_outcome_by}
use Rattle.refusals.specs.declared.PairRefusal.{PairRefusal}
use Rattle.refusals.specs.declared.PairRefusal.TheVariants.{First, Second}
use Rattle.labelling.specs.Labelling.{LabelRefusedWith, SkeletonRight, skeleton}
use Rattle.labelling.proofs.Given.{unwritten, Given, told_given, told_refused}
use Rattle.likeness.specs.Likeness.{alike_number, Likened, LookAlikeAnswers}

-- the library's equality of two lists is ours
lists_same : (xs ys : List ℕ) → pointwise eqb xs ys ≡ same_list xs ys
lists_same [] [] = refl
lists_same [] (y ∷ ys) = refl
lists_same (x ∷ xs) [] = refl
lists_same (x ∷ xs) (y ∷ ys) = ap (λ (b : Bool). eqb x y && b) (lists_same xs ys)

module _ {word before after : List ℕ} (answer : Result ℕ Refusal) (right : SkeletonRight word before after (outcome_of answer)) (n : ℕ) (e : answer ≡ Ok n) where
  pub given_fits : n ≤ length after
  given_fits = (told_given answer right n e).fits

  pub given_taken : n ≡ length (take n after)
  given_taken = sym (length-take-le n after given_fits)

-- the list that is lent has room for every skeleton
module _ (word after : List ℕ) (answer : Result ℕ Refusal) (right : SkeletonRight word unwritten after (outcome_of answer)) where
  label_refused : (refusal : Refusal) → answer ≡ Err refusal → LabelRefusedWith word (number_of refusal) (place_of refusal)
  label_refused refusal e = told_refused answer right (omega arith) refusal e

  pub label_given : (n : ℕ) → answer ≡ Ok n → Given word unwritten after n
  label_given n e = told_given answer right n e

-- what is told of a word that is refused
module _ (first second : List ℕ) (told : Result Bool PairRefusal) where
  pub first_refused : (after : List ℕ) (answer : Result ℕ Refusal) → SkeletonRight first unwritten after (outcome_of answer)
      → MatchResult answer (λ _. ⊥) (λ refusal. told ≡ Err (First refusal)) → LookAlikeAnswers first second (pair_outcome_by alike_number told)
  first_refused after (Ok n) right h = absurd h
  first_refused after (Err refusal) right h = rw h (label_refused first after (Err refusal) right refusal refl)

  pub second_refused : (after final : List ℕ) (n : ℕ) (answer : Result ℕ Refusal) → Given first unwritten after n
      → SkeletonRight second unwritten final (outcome_of answer)
      → MatchResult answer (λ _. ⊥) (λ refusal. told ≡ Err (Second refusal)) → LookAlikeAnswers first second (pair_outcome_by alike_number told)
  second_refused after final n (Ok k) g right h = absurd h
  second_refused after final n (Err refusal) g right h =
      rw h
      (record {
        first_count = g.count;
        first_passes = g.label;
        second_refused = label_refused second final (Err refusal) right refusal refl;
      })

module _ {first second start begin one other : List ℕ} {m n : ℕ} (f : Given first start one m) (g : Given second begin other n) where
  pub likened : (alike : Bool) → alike ≡ pointwise eqb (take m one) (take n other) → Likened first second (alike_number alike)
  likened alike e =
      record {
        first_count = f.count;
        first_label = f.label;
        second_count = g.count;
        second_label = g.label;
        told =
            ap alike_number
            (e ∙ ap (λ (l : List ℕ). pointwise eqb l (take n other)) f.front ∙ ap (pointwise eqb (skeleton first)) g.front
            ∙ lists_same (skeleton first) (skeleton second));
      }
