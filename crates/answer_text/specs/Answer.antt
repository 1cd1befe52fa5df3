-- Document 01, "The program `wordlist`": what is printed for a line behind its number, as far as it does not depend on what is asked of the line.
-- Assumes nothing.
use Rattle.std.specs.Prelude.{List, ◌∷◌, ◌++◌, ℕ, ◌+◌}
use Rattle.key_text.specs.Text.{decimal_of, decimal_limit, key_text_limit}
use Rattle.memory.specs.Put.{PutWithin}

-- "NO, refusal number, place"
unfoldable pub refused_text : ℕ → ℕ → List ℕ
refused_text number place = (0x4E ∷ 0x4F ∷ 0x20 ∷ decimal_of number) ++ (0x20 ∷ decimal_of place)

-- the most bytes behind the number of a line: OK or NO with a space, a number with a space, and a key or one more number; values take fewer
abbrev pub answer_text_limit : ℕ
answer_text_limit = 3 + decimal_limit + 1 + key_text_limit

-- the promise of what is put behind the number of a line: a text that is right for it
pub record AnswerPut (Right : List ℕ → Type 0) (before : List ℕ) (at : ℕ) (after : List ℕ) (end : ℕ) : Type 0 where
  pub text : List ℕ
  pub right : Right text
  pub put : PutWithin answer_text_limit before at text after end
