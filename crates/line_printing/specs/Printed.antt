-- Document 01, "The program `wordlist`", and the program `labels` beside it: what is printed for a line, by what is asked of it.
-- Assumes nothing.
use Rattle.std.specs.Prelude.{◌≡◌, List, [], ◌∷◌, ◌++◌, ℕ, ◌+◌, ◌<◌, take}
use Rattle.formula.specs.Limits.{line_limit}
use Rattle.key_text.specs.Text.{decimal_of, decimal_limit}
use Rattle.answer_text.specs.Answer.{answer_text_limit}
use Rattle.memory.specs.Put.{Written}

-- the first bytes of a line that is too long are answered as the line
abbrev pub Keeps : (List ℕ → List ℕ → Type 0) → Type 0
Keeps Answers = (most : ℕ) → line_limit < most → (line text : List ℕ) → Answers (take most line) text → Answers line text

-- a line has one answer
abbrev pub Once : (List ℕ → List ℕ → Type 0) → Type 0
Once Answers = (line first second : List ℕ) → Answers line first → Answers line second → first ≡ second

-- "with one space between fields and 0A at the end: line number from 1", and then the answer
unfoldable pub printed : ℕ → List ℕ → List ℕ
printed number text = decimal_of number ++ (0x20 ∷ text) ++ (0x0A ∷ [])

-- the most bytes that are printed for a line: its number with a space, the answer, and 0A
abbrev pub printed_limit : ℕ
printed_limit = decimal_limit + 1 + answer_text_limit + 1

-- the promise of what is printed for a line, where Answers says what may follow its number
pub record LinePut (Answers : List ℕ → List ℕ → Type 0) (before : List ℕ) (number : ℕ) (line : List ℕ) (after : List ℕ) (used : ℕ) : Type 0 where
  pub text : List ℕ
  pub right : Answers line text
  pub written : Written before (printed number text) after used
