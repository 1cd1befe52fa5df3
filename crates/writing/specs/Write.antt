-- Document 01, "Syllable records" and "Refused because of what is handed in", refusals 5 and 6: what writing records comes to.
-- By the formula alone: no writer stands here. Assumes nothing.
use Rattle.std.specs.Prelude.{◌≡◌, List, ℕ, ◌≤◌, length}
use Rattle.formula.specs.Limits.{limit}
use Rattle.formula.specs.Row.{Row, IsRow, join}
use Rattle.formula.specs.Record.{record_bytes}
use Rattle.refusals.specs.Outcome.{Outcome}
use Rattle.refusals.specs.Output.{Writes}

-- "The writer accepts exactly the rows that the reader can produce": the row has these records, and its word is no longer than a word may be
pub record Recorded (bytes : List ℕ) (row : Row) : Type 0 where
  pub is_row : IsRow row
  pub records : record_bytes row ≡ bytes
  pub short : length (join row) ≤ limit

-- 6: "records no reader yields, or over 64 values when written"; place 0
pub data RecordsRefused (bytes : List ℕ) : ℕ → ℕ → Type 0 where
  no_such_row : ((row : Row) → Recorded bytes row → ⊥) → RecordsRefused bytes 6 0

-- the promise of writing, with the output as it was and as it is: the word of the row, and how many values it has
abbrev pub WriteRight : List ℕ → List ℕ → List ℕ → Outcome → Type 0
WriteRight bytes = Writes (RecordsRefused bytes) (Recorded bytes) join (λ row. length (join row))
