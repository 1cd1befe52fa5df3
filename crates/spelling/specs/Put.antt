-- Packed syllables, counted and put to two lists. Inner contracts cite it.
-- Assumes nothing.
use Rattle.std.specs.Prelude.{◌≡◌, List, ◌++◌, ℕ, ◌+◌, ◌≤◌, ◌<◌, length, drop, set}
use Rattle.formula.specs.Limits.{limit}
use Rattle.syllable_text.specs.Part.{PartPut}
use Rattle.spelling.specs.Spell.{joined, spelled_starts, Lists}
use Rattle.spelling.specs.Plain.{spelled_by, spelled_each}

-- how many values the syllables are spelled with
abbrev pub SpelledSize : List ℕ → ℕ → Type 0
SpelledSize syllables size = size ≡ length (joined (spelled_each syllables))

-- a syllable has a place of its own among the starts, and room among the values
pub record SyllableRoom (packed number at : ℕ) (values starts : List ℕ) : Type 0 where
  pub start_fits : number < length starts
  pub values_fit : at + length (spelled_by packed) ≤ length values
  pub small : at < 0x10000

-- its start and its values are put, and the place behind it is given
pub record SyllablePut (packed number at : ℕ) (before after : Lists) (behind : ℕ) : Type 0 where
  pub start : after.starts ≡ set before.starts number at
  pub values : PartPut before.values after.values at (spelled_by packed) behind

-- there are so few syllables, and both lists have room for them
pub record Room (syllables values starts : List ℕ) : Type 0 where
  pub short : length syllables ≤ limit
  pub values_fit : length (joined (spelled_each syllables)) ≤ length values
  pub starts_fit : length syllables ≤ length starts

-- both lists have their fronts written
pub record SyllablesPut (syllables : List ℕ) (before after : Lists) : Type 0 where
  pub values : after.values ≡ joined (spelled_each syllables) ++ drop (length (joined (spelled_each syllables))) before.values
  pub starts : after.starts ≡ spelled_starts (spelled_each syllables) ++ drop (length syllables) before.starts
