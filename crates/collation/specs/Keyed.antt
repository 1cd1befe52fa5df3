-- Document 01, "Weights": the key of a word, by the row that gives its stored form.
-- Assumes nothing.
use Rattle.std.specs.Prelude.{◌≡◌, List, ℕ, length}
use Rattle.formula.specs.Row.{Row, Gives}
use Rattle.refusals.specs.Outcome.{Outcome, accepts, accepts_both, absent, refuses, outcome_of}
use Rattle.std.specs.declared.result.Result.{Result}
use Rattle.std.specs.declared.result.Result.TheVariants.{Ok, Err}
use Rattle.refusals.specs.Refusal.{number_of, place_of}
use Rattle.refusals.specs.declared.Refusal.{Refusal}
use Rattle.storage.specs.Stored.{stored_form}
use Rattle.normaliser.specs.Normal.{StoreRefusedWith, Stores, StoreAnswers}
use Rattle.weighing.specs.Keys.{key_limit, zeros, key_bytes}
use Rattle.collation.specs.declared.key.Key.{Key}

-- "A key then needs 384 bytes", of which six a syllable are used, and "The rest are zero"; with a refusal "a key [..] is all zeros"
abbrev pub KeyFor : List ℕ → Outcome → List ℕ → Type 0
KeyFor word (accepts n) bytes = (row : Row) → Gives row (stored_form word) → bytes ≡ key_bytes row
KeyFor word (accepts_both n m) bytes = ⊥
KeyFor word absent bytes = ⊥
KeyFor word (refuses number place) bytes = bytes ≡ zeros key_limit

-- a word's key; "the syllable count comes with it"
pub record HasKey (word : List ℕ) (key : Key) : Type 0 where
  pub stores : Stores word key.count
  pub bytes : KeyFor word (accepts key.count) key.bytes

-- the promise of a key
abbrev pub KeyRight : List ℕ → Result Key Refusal → Type 0
KeyRight word (Ok key) = HasKey word key
KeyRight word (Err refusal) = StoreRefusedWith word (number_of refusal) (place_of refusal)

-- inner contracts cite what follows: an answer beside the bytes of a key
pub record WeighRight (word : List ℕ) (answer : Result ℕ Refusal) (bytes : List ℕ) : Type 0 where
  pub answers : StoreAnswers word (outcome_of answer)
  pub weighed : KeyFor word (outcome_of answer) bytes
  pub room : length bytes ≡ key_limit
