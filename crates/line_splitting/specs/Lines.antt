-- Document 01, "The program `wordlist`": the lines of an input.
-- Assumes nothing.
use Rattle.std.specs.Prelude.{List, [], ◌∷◌, ◌++◌, ℕ, eqb}
use Rattle.letters.specs.Choice.{pick}

-- an input as far as it is known: the lines that ended, and the bytes of the one that is open
pub record Cut : Type 0 where
  pub ended : List (List ℕ)
  pub open_line : List ℕ

-- one line that ended before all others
abbrev pub after_line : List ℕ → Cut → Cut
after_line line cut = record { ended = line ∷ cut.ended; open_line = cut.open_line }

-- "lines [..] ended by byte 0A": what bytes make of an open line
unfoldable pub cut_from : List ℕ → List ℕ → Cut
cut_from line [] = record { ended = []; open_line = line }
cut_from line (byte ∷ bytes) = pick (eqb byte 0x0A) (after_line line (cut_from [] bytes)) (cut_from (line ++ (byte ∷ [])) bytes)

-- "a last line without it counts if it has a byte"
abbrev pub last_line : List ℕ → List (List ℕ)
last_line [] = []
last_line (byte ∷ bytes) = (byte ∷ bytes) ∷ []

-- the lines of a whole input
abbrev pub lines_of : List ℕ → List (List ℕ)
lines_of bytes = (cut_from [] bytes).ended ++ last_line (cut_from [] bytes).open_line
