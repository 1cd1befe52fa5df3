-- The part of a syllable by number (document 01, "The syllable"), by the formula alone.
-- Assumes nothing.
use Rattle.std.specs.Prelude.{◌≡◌, List, [], ℕ, ◌+◌, ◌≤◌, ◌<◌, ltb, length, get_or, take, drop}
use Rattle.letters.specs.Choice.{pick}
use Rattle.formula.specs.Row.{Row, parts, join, Gives}
use Rattle.refusals.specs.Outcome.{Outcome, accepts, accepts_both, absent, refuses}
use Rattle.recogniser.specs.Answer.{Admissible, RefusedWith}
use Rattle.reading.specs.declared.parts.Part.{Part}

-- "The syllable asked for by number, from 0, comes back as a part of the caller's own word. Where the word is refused or has no such
-- syllable, that part is empty."
pub record PartRight (word : List ℕ) (number : ℕ) (part : List ℕ) : Type 0 where
  pub has : Admissible word → (row : Row) → Gives row word → part ≡ get_or (parts row) number []
  pub refused : (Admissible word → (row : Row) → Gives row word → ⊥) → part ≡ []

-- "Parts joined give the word": the part begins where those before it, joined, end
pub record HasPart (word : List ℕ) (number place size : ℕ) : Type 0 where
  pub admissible : Admissible word
  pub row : Row
  pub gives : Gives row word
  pub below : number < length row
  pub begins : place ≡ length (join (take number row))
  pub ends : size ≡ length (get_or (parts row) number [])
  pub within : place + size ≤ length word
  pub is : take size (drop place word) ≡ get_or (parts row) number []

-- the word has no such syllable
pub record NoPart (word : List ℕ) (number : ℕ) : Type 0 where
  pub admissible : Admissible word
  pub row : Row
  pub gives : Gives row word
  pub beyond : length row ≤ number

-- a part tells its place and its length
abbrev pub part_told : Part → Outcome
part_told part = accepts_both part.place part.size

-- what an outcome says of the part asked for
abbrev pub PartAnswers : List ℕ → ℕ → Outcome → Type 0
PartAnswers word number (accepts size) = ⊥
PartAnswers word number (accepts_both place size) = HasPart word number place size
PartAnswers word number absent = NoPart word number
PartAnswers word number (refuses refusal place) = RefusedWith word refusal place

-- where the syllable ends, by the places where syllables begin; an inner contract cites it
unfoldable pub end_by : List ℕ → ℕ → ℕ → ℕ → ℕ
end_by starts count number end = pick (ltb (number + 1) count) (get_or starts (number + 1) 0) end
