-- The record of a syllable by number (document 01, "Syllable records", and document 02, E5), by the formula alone.
-- Assumes nothing.
use Rattle.std.specs.Prelude.{◌≡◌, List, [], ◌∷◌, ℕ, ◌≤◌, ◌<◌, length, get_or, replicate, Result, Ok, Err, Option, Some, None, unwrap_or}
use Rattle.formula.specs.Limits.{record_size}
use Rattle.letters.specs.Weights.{medial_set_weight}
use Rattle.formula.specs.Syllable.{bare}
use Rattle.formula.specs.Row.{Row, Gives}
use Rattle.formula.specs.Record.{record_of}
use Rattle.refusals.specs.declared.Refusal.{Refusal}
use Rattle.refusals.specs.Outcome.{Outcome, accepts, accepts_both, absent, refuses, outcome_by, tells_if_there}
use Rattle.syllables.specs.Parts.{head_part, medial_part, final_part, link_part, vowel_part, tall_part, tone_part, second_final_part}
use Rattle.recogniser.specs.Answer.{Admissible, RefusedWith}

-- a record that is found tells how many bytes it has, "eight bytes in all", by value
abbrev pub record_told : List ℕ → Outcome
record_told bytes = accepts record_size

abbrev pub record_outcome_of : Result (Option (List ℕ)) Refusal → Outcome
record_outcome_of given = outcome_by (tells_if_there record_told) given

abbrev pub no_bytes : List ℕ
no_bytes = replicate record_size 0

-- the bytes that come with an answer: zeros where there is no record
abbrev pub bytes_in : Result (Option (List ℕ)) Refusal → List ℕ
bytes_in (Ok (Some bytes)) = bytes
bytes_in (Ok None) = no_bytes
bytes_in (Err refusal) = no_bytes

-- "Where the word is a row of syllables, number and records are those of that row, in its order"
pub record HasRecord (word : List ℕ) (number : ℕ) (bytes : List ℕ) : Type 0 where
  pub admissible : Admissible word
  pub row : Row
  pub gives : Gives row word
  pub below : number < length row
  pub is : bytes ≡ record_of (get_or row number (bare 0x1000))

-- "the answer tells whether there is such a syllable, and if not," the bytes "are 0"
pub record NoRecord (word : List ℕ) (number : ℕ) (bytes : List ℕ) : Type 0 where
  pub admissible : Admissible word
  pub row : Row
  pub gives : Gives row word
  pub beyond : length row ≤ number
  pub is : bytes ≡ no_bytes

-- with a refusal "a record handed back with it is all zeros"
pub record NoReading (word : List ℕ) (number place : ℕ) (bytes : List ℕ) : Type 0 where
  pub refused : RefusedWith word number place
  pub is : bytes ≡ no_bytes

abbrev pub RecordAnswers : List ℕ → ℕ → Outcome → List ℕ → Type 0
RecordAnswers word number (accepts size) bytes = (size ≡ record_size) × HasRecord word number bytes
RecordAnswers word number (accepts_both size other) bytes = ⊥
RecordAnswers word number absent bytes = NoRecord word number bytes
RecordAnswers word number (refuses refusal place) bytes = NoReading word refusal place bytes

-- the promise of a record by number
abbrev pub RecordRight : List ℕ → ℕ → Result (Option (List ℕ)) Refusal → Type 0
RecordRight word number given = RecordAnswers word number (record_outcome_of given) (bytes_in given)

-- the weight of a set of medials; inner contracts cite what follows
abbrev pub medial_weight_by : ℕ → ℕ
medial_weight_by set = unwrap_or (medial_set_weight set) 0

-- the bytes of a packed syllable
unfoldable pub bytes_by : ℕ → List ℕ
bytes_by packed =
    head_part packed
    ∷ medial_weight_by (medial_part packed)
    ∷ vowel_part packed
    ∷ tall_part packed
    ∷ final_part packed
    ∷ second_final_part packed
    ∷ link_part packed
    ∷ tone_part packed
    ∷ []
