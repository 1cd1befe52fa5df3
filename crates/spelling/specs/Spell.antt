-- Document 01, "The syllable", a word spelled out, with "Refused because of what is handed in", refusals 1 to 5: what spelling a word out comes to.
-- By the formula alone: no code stands here. Assumes nothing.
use Rattle.std.specs.Prelude.{◌≡◌, List, [], ◌∷◌, ◌++◌, ℕ, ◌+◌, ◌*◌, ◌-◌, ◌≤◌, ◌<◌, length, drop}
use Rattle.formula.specs.Limits.{limit}
use Rattle.formula.specs.Row.{Row, Gives}
use Rattle.formula.specs.Spelled.{spelled}
use Rattle.refusals.specs.Outcome.{Outcome, accepts_both, refuses}
use Rattle.recogniser.specs.Answer.{Admissible, RefusedWith}
use Rattle.spelling.specs.declared.Spelled.{Spelled}

-- "The values go joined to one lent list"
abbrev pub joined : List (List ℕ) → List ℕ
joined [] = []
joined (syllable ∷ syllables) = syllable ++ joined syllables

-- the places where the syllables begin, the first of them at a place
abbrev pub starts_from : ℕ → List (List ℕ) → List ℕ
starts_from place [] = []
starts_from place (syllable ∷ syllables) = place ∷ starts_from (place + length syllable) syllables

-- "the place in it where each spelled syllable begins goes to a second"
abbrev pub spelled_starts : List (List ℕ) → List ℕ
spelled_starts syllables = starts_from 0 syllables

-- "The longest spelled word has 190 values": three for each value of a word of the limit, less two
abbrev pub spelled_limit : ℕ
spelled_limit = 3 * limit - 2

-- the word passes the tests 1 and 2, and the row gives it
pub record ReadAs (word : List ℕ) (row : Row) : Type 0 where
  pub admissible : Admissible word
  pub gives : Gives row word

-- the two lists as they are handed in and as they come back
pub record Lists : Type 0 where
  pub values : List ℕ
  pub starts : List ℕ

abbrev pub lists : List ℕ → List ℕ → Lists
lists values starts = record { values = values; starts = starts }

-- "Success writes what it needs at the front of an output, the rest untouched"
pub record Written (row : Row) (before after : Lists) : Type 0 where
  pub values : after.values ≡ joined (spelled row) ++ drop (length (joined (spelled row))) before.values
  pub starts : after.starts ≡ spelled_starts (spelled row) ++ drop (length (spelled row)) before.starts

-- "Success .. tells how many values or bytes it wrote to each"
abbrev pub spelled_told : Spelled → Outcome
spelled_told spelled = accepts_both spelled.values spelled.syllables

-- what the outcome says of the word, and of the lists before and after; a refusal "writes nothing"
pub data SpellRight (word : List ℕ) (before after : Lists) : Outcome → Type 0 where
  -- "Success .. tells how many values or bytes it wrote to each"
  spelled_out : {row : Row} → ReadAs word row → length (joined (spelled row)) ≤ length before.values → length (spelled row) ≤ length before.starts
      → Written row before after → SpellRight word before after (accepts_both (length (joined (spelled row))) (length (spelled row)))
  -- 1 to 4: "The reader and the spelling-out do not" normalise
  word_refused : {number place : ℕ} → RefusedWith word number place → after ≡ before → SpellRight word before after (refuses number place)
  -- 5: "lent output too short"; place: "values or bytes needed"; "the first list is tested first"
  values_too_short : {row : Row} → ReadAs word row → length before.values < length (joined (spelled row)) → after ≡ before
      → SpellRight word before after (refuses 5 (length (joined (spelled row))))
  starts_too_short : {row : Row} → ReadAs word row → length (joined (spelled row)) ≤ length before.values → length before.starts < length (spelled row)
      → after ≡ before → SpellRight word before after (refuses 5 (length (spelled row)))
