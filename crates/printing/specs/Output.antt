-- Document 01, "The program `wordlist`": what is printed for a line behind its number.
-- Assumes nothing.
use Rattle.std.specs.Prelude.{◌≡◌, List, ◌∷◌, ◌++◌, ℕ, ◌≤◌}
use Rattle.formula.specs.Limits.{limit}
use Rattle.lines.specs.Line.{Decodes, LineRefused}
use Rattle.refusals.specs.Refusal.{number_of, place_of}
use Rattle.refusals.specs.declared.Refusal.{Refusal}
use Rattle.refusals.specs.declared.Refusal.TheVariants.{NoSuchRow}
use Rattle.std.specs.declared.result.Result.{Result}
use Rattle.std.specs.declared.result.Result.TheVariants.{Ok, Err}
use Rattle.collation.specs.Keyed.{KeyRight}
use Rattle.collation.specs.declared.key.Key.{Key}
use Rattle.key_text.specs.Text.{decimal_of, key_text}
use Rattle.answer_text.specs.Answer.{refused_text}

-- the refusal of an answer; one that is none is never asked for it
abbrev pub refusal_in : Result Key Refusal → Refusal
refusal_in (Err refusal) = refusal
refusal_in (Ok key) = NoSuchRow

-- "OK, syllable count, key"
unfoldable pub accepted_text : ℕ → List ℕ → List ℕ
accepted_text count key = (0x4F ∷ 0x4B ∷ 0x20 ∷ decimal_of count) ++ (0x20 ∷ key_text count key)

-- what the answer of a line comes to
abbrev pub answer_text : Result Key Refusal → List ℕ
answer_text (Ok key) = accepted_text key.count key.bytes
answer_text (Err refusal) = refused_text (number_of refusal) (place_of refusal)

-- the answers that a line has: no word has more syllables than values
abbrev pub Printable : Result Key Refusal → Type 0
Printable (Ok key) = key.count ≤ limit
Printable (Err refusal) = Unit {0}

-- the key of a line: that of its values, or the refusal of the line
pub data KeyOfLine (line : List ℕ) (answer : Result Key Refusal) : Type 0 where
  of_values : {word : List ℕ} → Decodes line word → KeyRight word answer → KeyOfLine line answer
  line_refused : {refusal : Refusal} → LineRefused line (number_of refusal) (place_of refusal) → answer ≡ Err refusal → KeyOfLine line answer

-- the promise of an answer to a line
pub record LineRight (line : List ℕ) (answer : Result Key Refusal) : Type 0 where
  pub right : KeyOfLine line answer
  pub printable : Printable answer

-- what is printed for a line behind its number: what its answer says
pub record WordText (line : List ℕ) (text : List ℕ) : Type 0 where
  pub answer : Result Key Refusal
  pub right : LineRight line answer
  pub is : text ≡ answer_text answer
