-- Document 01, "Storage order", rules 1 and 2: the outcome for any word, whether or not it is a row of syllables.
-- Assumes nothing.
use Rattle.std.specs.Prelude.{List, ℕ, length}
use Rattle.refusals.specs.Outcome.{Outcome}
use Rattle.refusals.specs.Output.{Writes}
use Rattle.recogniser.specs.Answer.{Admissible}
use Rattle.storage.specs.Stored.{stored_form}
use Rattle.normaliser.specs.Admission.{Unadmitted}

-- the promise for the stored form of any word, with the output as it was and as it is: its values, and how many they are
abbrev pub FormRight : List ℕ → List ℕ → List ℕ → Outcome → Type 0
FormRight word = Writes {A = Unit {0}} (Unadmitted word) (λ _. Admissible word) (λ _. stored_form word) (λ _. length (stored_form word))
