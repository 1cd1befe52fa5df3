-- A record, a key and a decoded line that are written to lent output, where the crates below hand them back by value: document 01's refusal 5 is
-- then given for them too, after every other test. Assumes nothing.
use Rattle.std.specs.Prelude.{◌≡◌, List, ℕ, length}
use Rattle.formula.specs.Row.{Row, Gives}
use Rattle.refusals.specs.Outcome.{Outcome, absent}
use Rattle.refusals.specs.Output.{Writes}
use Rattle.recogniser.specs.Answer.{RefusedWith}
use Rattle.reading.specs.Records.{no_bytes, HasRecord, NoRecord}
use Rattle.lines.specs.Line.{Decodes, LineRefused}
use Rattle.storage.specs.Stored.{stored_form}
use Rattle.normaliser.specs.Normal.{StoreRefusedWith, Stores}
use Rattle.weighing.specs.Keys.{key_bytes}

-- the row of syllables that a word's stored form is
pub record StoredRow (word : List ℕ) (row : Row) : Type 0 where
  pub stores : Stores word (length row)
  pub gives : Gives row (stored_form word)

-- a record by number: its bytes are written whole and counted; "the answer tells whether there is such a syllable", and if not, nothing is written
pub data RecordWritten (word : List ℕ) (number : ℕ) (before after : List ℕ) : Outcome → Type 0 where
  answered : {outcome : Outcome} → Writes (RefusedWith word) (HasRecord word number) (λ bytes. bytes) (λ bytes. length bytes) before after outcome
      → RecordWritten word number before after outcome
  no_syllable : NoRecord word number no_bytes → after ≡ before → RecordWritten word number before after absent

-- "A key then needs 384 bytes": they are written whole, and "the syllable count comes with it"
abbrev pub KeyWritten : List ℕ → List ℕ → List ℕ → Outcome → Type 0
KeyWritten word = Writes (StoreRefusedWith word) (StoredRow word) key_bytes (λ row. length row)

-- the values of a line, and how many there are
abbrev pub DecodeWritten : List ℕ → List ℕ → List ℕ → Outcome → Type 0
DecodeWritten line = Writes (LineRefused line) (Decodes line) (λ word. word) (λ word. length word)
