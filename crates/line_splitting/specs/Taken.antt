-- How the program goes through an input by chunks: what it holds of an open line, and what it printed for those that ended.
-- Assumes nothing.
use Rattle.std.specs.Prelude.{◌≡◌, List, [], ◌∷◌, ◌++◌, ℕ, suc, ◌+◌, ◌≤◌, ◌<◌, ◌^◌, length, take, get_or}
use Rattle.std.proofs.Math.Seq.{slice}
use Rattle.formula.specs.Limits.{line_limit}
use Rattle.memory.specs.Put.{Put}
use Rattle.line_printing.specs.Printed.{printed, printed_limit}
use Rattle.line_splitting.specs.Lines.{Cut, cut_from}
use Rattle.line_splitting.specs.declared.Progress.{Progress}

-- the most bytes of a line that are held: one more than the most of a line that is not refused for its length
abbrev pub held_limit : ℕ
held_limit = suc line_limit

-- the list begins with the pending bytes of an open line: its first ones
pub record Held (pending : List ℕ) (held : ℕ) (line : List ℕ) : Type 0 where
  pub count : held ≡ length (take held_limit line)
  pub bytes : take held pending ≡ take held_limit line

-- the promise of holding more bytes of a line
pub record Holds (pending : List ℕ) (before : ℕ) (part : List ℕ) (pending_after : List ℕ) (after : ℕ) : Type 0 where
  pub fits : after ≤ held_limit
  pub held : (line : List ℕ) → Held pending before line → Held pending_after after (line ++ part)

-- a line's end as it is looked for from a place on: before it no line ends, and there stands 0A, or the chunk is over
pub record EndFound (chunk : List ℕ) (from : ℕ) (end : ℕ) : Type 0 where
  pub forward : from ≤ end
  pub within : end ≤ length chunk
  pub none : (line : List ℕ) → cut_from line (slice from end chunk) ≡ record { ended = []; open_line = line ++ slice from end chunk }
  pub there : end < length chunk → get_or chunk end 0 ≡ 0x0A

-- what is printed for lines, one after the other, where the first has this number
pub data Prints (Answers : List ℕ → List ℕ → Type 0) : ℕ → List (List ℕ) → List ℕ → Type 0 where
  none : {number : ℕ} → Prints Answers number [] []
  more : {number : ℕ} {line : List ℕ} {lines : List (List ℕ)} {rest : List ℕ} (text : List ℕ) → Answers line text
      → Prints Answers (number + 1) lines rest → Prints Answers number (line ∷ lines) (printed number text ++ rest)

-- what a run needs before it takes a line: the bytes that are held fit, the output has room for a line, and the line numbers do not run out
pub record Ready (chunk : List ℕ) (pending : List ℕ) (out : List ℕ) (progress : Progress) : Type 0 where
  pub place : progress.at ≤ length chunk
  pub fits : held_limit ≤ length pending
  pub held : progress.held ≤ held_limit
  pub room : progress.used + printed_limit ≤ length out
  pub numbers : progress.number + length chunk < 2 ^ 64 + progress.at

-- the lines that ended between two places of a chunk are printed, and what is held is that of the line that is open then
pub record Printed (Answers : List ℕ → List ℕ → Type 0) (line : List ℕ) (chunk : List ℕ) (out : List ℕ) (progress : Progress) (pending_after : List ℕ) (out_after : List ℕ) (progress_after : Progress) : Type 0 where
  pub text : List ℕ
  pub cut : Cut
  pub follows : cut_from line (slice progress.at progress_after.at chunk) ≡ cut
  pub prints : Prints Answers (progress.number + 1) cut.ended text
  pub put : Put out progress.used text out_after progress_after.used
  pub number : progress_after.number ≡ progress.number + length cut.ended
  pub held : Held pending_after progress_after.held cut.open_line

-- the promise of taking lines, whatever line is open
pub record Taken (Answers : List ℕ → List ℕ → Type 0) (chunk : List ℕ) (pending : List ℕ) (out : List ℕ) (progress : Progress) (pending_after : List ℕ) (out_after : List ℕ) (progress_after : Progress) : Type 0 where
  pub forward : progress.at ≤ progress_after.at
  pub further : progress.at < length chunk → progress.at < progress_after.at
  pub within : progress_after.at ≤ length chunk
  pub fits : progress_after.held ≤ held_limit
  pub room : progress_after.used ≤ length out
  pub fewer : progress_after.number + progress.at ≤ progress.number + progress_after.at
  pub printed : (line : List ℕ) → Held pending progress.held line → Printed Answers line chunk out progress pending_after out_after progress_after
