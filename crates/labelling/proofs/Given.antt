-- What a skeleton's call tells where the output has room for every skeleton: the label and its skeleton at the front, or why the word is no label.
-- Assumes nothing.
use mathlib.Core.Path.{◌≡◌, subst}
use mathlib.Core.List.{List, ◌++◌}
use Prim.Native.Nat.{ℕ, ◌≤◌}
use native.Mathlib.Omega.{arith}
use lib.ListN.{length, take, drop, replicate}
use Rattle.refusals.specs.Refusal.{number_of, place_of}
use Rattle.refusals.specs.Outcome.{accepts, outcome_of}
use Rattle.refusals.specs.declared.Refusal.{Refusal}
use Rattle.std.specs.declared.result.Result.{Result}
use Rattle.std.specs.declared.result.Result.TheVariants.{Ok, Err}
use Rattle.skeletons.specs.Skeleton.{skeleton_limit}
use Rattle.labelling.specs.Labelling.{IsLabel, LabelRefusedWith, skeleton, SkeletonRight}
use Rattle.labelling.proofs.Fronts.{fronted, only_refused}
use Rattle.labelling.proofs.Stored.{skeleton_short}

-- a list as long as the longest skeleton, as it is lent
abbrev pub unwritten : List ℕ
unwritten = replicate skeleton_limit 0

-- a label, with its skeleton at the front of a list
pub record Given (word before after : List ℕ) (size : ℕ) : Type 0 where
  pub count : ℕ
  pub label : IsLabel word count
  pub long : size ≡ length (skeleton word)
  pub written : after ≡ skeleton word ++ drop (length (skeleton word)) before
  pub front : take size after ≡ skeleton word
  pub fits : size ≤ length after

pub given : (word before after : List ℕ) (size : ℕ) → SkeletonRight word before after (accepts size) → Given word before after size
given word before after size right =
    let f = fronted (LabelRefusedWith word) (IsLabel word) (skeleton word) before after size right in
    record { count = f.thing; label = f.stands; long = f.long; written = f.written; front = f.front; fits = f.fits }

-- the same of the answer that is told
module _ {word before after : List ℕ} (answer : Result ℕ Refusal) (right : SkeletonRight word before after (outcome_of answer)) where
  pub told_given : (n : ℕ) → answer ≡ Ok n → Given word before after n
  told_given n e = given word before after n (subst (λ (w : Result ℕ Refusal). SkeletonRight word before after (outcome_of w)) e right)

  pub told_refused : skeleton_limit ≤ length before → (refusal : Refusal) → answer ≡ Err refusal
      → LabelRefusedWith word (number_of refusal) (place_of refusal)
  told_refused room refusal e =
      only_refused (LabelRefusedWith word) (IsLabel word) (skeleton word) before after (λ n l. let short = skeleton_short word n l in omega arith)
      (number_of refusal) (place_of refusal)
      (subst (λ (w : Result ℕ Refusal). SkeletonRight word before after (outcome_of w)) e right)
