-- A run of the program over an input that comes in pieces: what it printed so far follows the lines of the bytes so far.
-- Assumes nothing.
use Rattle.std.specs.Prelude.{◌≡◌, List, [], ◌++◌, ℕ, ◌+◌, ◌≤◌, ◌<◌, length}
use Rattle.std.proofs.Math.Seq.{slice}
use Rattle.memory.specs.Put.{Put}
use Rattle.line_splitting.specs.Lines.{cut_from}
use Rattle.line_splitting.specs.Taken.{held_limit, Held, Prints}
use Rattle.line_splitting.specs.declared.Progress.{Progress}

-- "line number from 1": the lines that ended are printed, and what is held is that of the line that is open
pub record Follows (Answers : List ℕ → List ℕ → Type 0) (bytes : List ℕ) (pending : List ℕ) (held : ℕ) (number : ℕ) (text : List ℕ) : Type 0 where
  pub prints : Prints Answers 1 (cut_from [] bytes).ended text
  pub count : number ≡ length (cut_from [] bytes).ended
  pub open_line : Held pending held (cut_from [] bytes).open_line

-- the lines that end in a piece of the input: the first begins with what was open before it
abbrev pub ended_in : List ℕ → List ℕ → List (List ℕ)
ended_in bytes piece = (cut_from (cut_from [] bytes).open_line piece).ended

-- one more piece of the input: what is put into the output is printed for the lines that end in it, and goes on with the text
pub record Goes (Answers : List ℕ → List ℕ → Type 0) (bytes : List ℕ) (piece : List ℕ) (text : List ℕ) (out : List ℕ) (progress : Progress) (pending_after : List ℕ) (out_after : List ℕ) (after : Progress) : Type 0 where
  pub more : List ℕ
  pub prints : Prints Answers (progress.number + 1) (ended_in bytes piece) more
  pub put : Put out progress.used more out_after after.used
  pub follows : Follows Answers (bytes ++ piece) pending_after after.held after.number (text ++ more)

-- the promise of passing lines of a chunk, whatever came before it
pub record Passes (Answers : List ℕ → List ℕ → Type 0) (chunk : List ℕ) (pending : List ℕ) (out : List ℕ) (progress : Progress) (pending_after : List ℕ) (out_after : List ℕ) (after : Progress) : Type 0 where
  pub further : progress.at < length chunk → progress.at < after.at
  pub within : after.at ≤ length chunk
  pub fits : after.held ≤ held_limit
  pub room : after.used ≤ length out
  pub fewer : after.number + progress.at ≤ progress.number + after.at
  pub goes : (bytes text : List ℕ) → Follows Answers bytes pending progress.held progress.number text
      → Goes Answers bytes (slice progress.at after.at chunk) text out progress pending_after out_after after
