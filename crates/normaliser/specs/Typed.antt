-- Document 01, "Storage order": a word is "refused, with a place in that outcome". Where the value at such a place was typed: its place in the
-- word as handed in. Assumes nothing.
use Rattle.std.specs.Prelude.{◌≡◌, List, ℕ}
use Rattle.std.proofs.Math.Option.{none, some}
use Rattle.std.proofs.Math.ListN.{get_elem?}
use Rattle.refusals.specs.Outcome.{Outcome, accepts, accepts_both, absent, refuses}
use Rattle.recogniser.specs.Answer.{Admissible}
use Rattle.typed_places.specs.Typed.{typed_places}
use Rattle.normaliser.specs.Admission.{Unadmitted}

-- the value at a place of the stored form was typed at p
pub record HasPlace (word : List ℕ) (place p : ℕ) : Type 0 where
  pub admissible : Admissible word
  pub typed : get_elem? (typed_places word) place ≡ some p

-- no value stands at that place of the stored form
pub record HasNoPlace (word : List ℕ) (place : ℕ) : Type 0 where
  pub admissible : Admissible word
  pub nothing : get_elem? (typed_places word) place ≡ none

-- the promise of a typed place: a place, none, or a refusal
abbrev pub TypedAnswers : List ℕ → ℕ → Outcome → Type 0
TypedAnswers word place (accepts p) = HasPlace word place p
TypedAnswers word place (accepts_both n m) = ⊥
TypedAnswers word place absent = HasNoPlace word place
TypedAnswers word place (refuses number p) = Unadmitted word number p
