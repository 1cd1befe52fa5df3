-- What a reading of a word is, by the formula alone (document 01, "Syllable records"): the answer with the row's syllables.
-- Assumes nothing.
use Rattle.std.specs.Prelude.{◌≡◌, List, ◌++◌, map, ℕ, ◌-◌, replicate, Result, Ok, Err}
use Rattle.formula.specs.Limits.{limit}
use Rattle.formula.specs.Row.{Row, Gives}
use Rattle.formula.specs.Packed.{packed}
use Rattle.refusals.specs.Refusal.{number_of, place_of}
use Rattle.refusals.specs.Outcome.{Outcome, accepts, accepts_both, absent, refuses, outcome_by}
use Rattle.refusals.specs.declared.Refusal.{Refusal}
use Rattle.recogniser.specs.Answer.{RefusedWith, Reads, Answers}
use Rattle.scanning.specs.declared.Scan.{Scan}
use Rattle.scanning.specs.Scanned.{Scanned}
use Rattle.reading.specs.declared.row.Reading.{Reading}

-- "Success .. tells how many": a reading tells how many syllables there are
abbrev pub reading_told : Reading → Outcome
reading_told reading = accepts reading.count

-- the syllables that come with an answer: zeros where the word is refused
abbrev pub syllables_in : Result Reading Refusal → List ℕ
syllables_in (Ok reading) = reading.syllables
syllables_in (Err refusal) = replicate limit 0

-- the syllables of a reading: those of the row, packed, and zeros behind them; zeros with a refusal
abbrev pub SyllablesFor : List ℕ → Outcome → List ℕ → Type 0
SyllablesFor word (accepts n) syllables = (row : Row) → Gives row word → syllables ≡ map packed row ++ replicate (limit - n) 0
SyllablesFor word (accepts_both n m) syllables = ⊥
SyllablesFor word absent syllables = ⊥
SyllablesFor word (refuses number place) syllables = syllables ≡ replicate limit 0

-- the promise of a reading
pub record ReadRight (word : List ℕ) (reading : Result Reading Refusal) : Type 0 where
  pub answers : Answers word (outcome_by reading_told reading)
  pub syllables : SyllablesFor word (outcome_by reading_told reading) (syllables_in reading)

-- a pass to the end of a word that is a row of syllables; inner contracts cite what follows
pub record Passed (word : List ℕ) (scan : Scan) : Type 0 where
  pub reads : Reads word scan.count
  pub scanned : Scanned word scan

-- the promise of a pass: so, or the word is refused
abbrev pub PassRight : List ℕ → Result Scan Refusal → Type 0
PassRight word (Ok scan) = Passed word scan
PassRight word (Err refusal) = RefusedWith word (number_of refusal) (place_of refusal)
