-- The running of a list: what the answer of a read means, and the promises of a read, of a chunk and of the end of the input. What a read brings and
-- what a write takes no contract can say, so the promises are told over what is handed back: the answer of the read, and how many bytes the writes took.
-- Assumes nothing.
use Rattle.std.specs.Prelude.{◌≡◌, List, ◌++◌, ℕ, zero, suc, ◌+◌, ◌*◌, ◌≤◌, ◌<◌, ◌^◌, length, take, Result, Ok, Err, IfOk, IfErr}
use Rattle.std.specs.IoError.{error_kind}
use Rattle.std.specs.declared.io.Error.{Error}
use Rattle.std.specs.declared.io.ErrorKind.TheVariants.{Interrupted}
use Rattle.memory.specs.Put.{Put}
use Rattle.line_printing.specs.Printed.{printed_limit}
use Rattle.line_splitting.specs.Lines.{lines_of}
use Rattle.line_splitting.specs.Taken.{held_limit, Prints}
use Rattle.line_splitting.specs.Following.{ended_in, Follows}
use Rattle.listing.specs.declared.running.Input.{Input}
use Rattle.listing.specs.declared.running.OpenLine.{OpenLine}
use Rattle.listing.specs.declared.running.Passed.{Passed}
use Rattle.listing.specs.declared.running.Stopped.{Stopped}

-- what a read brought, of what it answered: a number of bytes, or how it ended the reading, at the end of the input where it brought none
abbrev pub bytes_of : Result ℕ Error → Result ℕ (Result (Unit {0}) Error)
bytes_of (Ok zero) = Err (Ok tt)
bytes_of (Ok (suc count)) = Ok (suc count)
bytes_of (Err error) = Err (Err error)

-- the promise of reading into a list of this length, which is not empty, and on while a signal interrupts: no more bytes are brought than there is room
-- for, and a read that was interrupted is handed back only where no calls are left
pub record ReadsOn (size : ℕ) (input : Input) : Type 0 where
  pub room : 0 < size
  pub moved : IfOk input.answer (λ count. count ≤ size)
  pub whole : IfErr input.answer (λ error. error_kind error ≡ Interrupted → input.calls ≡ 0)

-- what a chunk needs: it has no more lines than bytes, and the bytes that are made ready for it can be counted
pub record ChunkReady (chunk : List ℕ) (pending : List ℕ) (out : List ℕ) (current : OpenLine) : Type 0 where
  pub fits : held_limit ≤ length pending
  pub held : current.held ≤ held_limit
  pub room : printed_limit ≤ length out
  pub numbers : current.number + length chunk < 2 ^ 64
  pub countable : length chunk * length out < 2 ^ 64

-- what is printed for the lines that end in a piece of the input, of which the first has the number behind this one, is so many bytes
pub record EndedText (Answers : List ℕ → List ℕ → Type 0) (number : ℕ) (bytes : List ℕ) (piece : List ℕ) (size : ℕ) : Type 0 where
  pub text : List ℕ
  pub prints : Prints Answers (number + 1) (ended_in bytes piece) text
  pub count : size ≡ length text

-- one more piece of the input: what is printed for the lines that end in it goes on with the text
pub record Answered (Answers : List ℕ → List ℕ → Type 0) (bytes : List ℕ) (piece : List ℕ) (text : List ℕ) (current : OpenLine) (pending_after : List ℕ) (after : OpenLine) (size : ℕ) : Type 0 where
  pub ended : EndedText Answers current.number bytes piece size
  pub follows : Follows Answers (bytes ++ piece) pending_after after.held after.number (text ++ ended.text)

-- the promise of a chunk that was passed whole, whatever came before it: the writes took as many bytes as are printed for the lines that end in it
pub record Onward (Answers : List ℕ → List ℕ → Type 0) (chunk : List ℕ) (pending : List ℕ) (current : OpenLine) (pending_after : List ℕ) (after : OpenLine) (taken : ℕ) : Type 0 where
  pub held : after.held ≤ held_limit
  pub numbers : after.number ≤ current.number + length chunk
  pub answered : (bytes text : List ℕ) → Follows Answers bytes pending current.held current.number text
      → Answered Answers bytes chunk text current pending_after after taken

-- the promise of a chunk at which a write failed: of what is printed for the lines that end before some place, the writes took all but so many bytes
pub record Short (Answers : List ℕ → List ℕ → Type 0) (chunk : List ℕ) (pending : List ℕ) (current : OpenLine) (taken : ℕ) (missing : ℕ) : Type 0 where
  pub place : ℕ
  pub within : place ≤ length chunk
  pub some : 0 < missing
  pub answered : (bytes text : List ℕ) → Follows Answers bytes pending current.held current.number text
      → EndedText Answers current.number bytes (take place chunk) (taken + missing)

-- the promise of a chunk
abbrev pub ChunkAnswers : (List ℕ → List ℕ → Type 0) → List ℕ → List ℕ → OpenLine → List ℕ → Result Passed Stopped → Type 0
ChunkAnswers Answers chunk pending current pending_after (Ok passed) = Onward Answers chunk pending current pending_after passed.line passed.taken
ChunkAnswers Answers chunk pending current pending_after (Err stopped) = Short Answers chunk pending current stopped.taken stopped.missing

-- what the end of an input needs
pub record EndReady (pending : List ℕ) (out : List ℕ) (current : OpenLine) : Type 0 where
  pub fits : current.held ≤ length pending
  pub room : printed_limit ≤ length out
  pub numbers : current.number + 1 < 2 ^ 64

-- the end of the input: the text is that of all its lines
pub record Comes (Answers : List ℕ → List ℕ → Type 0) (bytes : List ℕ) (text : List ℕ) (out : List ℕ) (used : ℕ) (out_after : List ℕ) (used_after : ℕ) : Type 0 where
  pub last : List ℕ
  pub put : Put out used last out_after used_after
  pub prints : Prints Answers 1 (lines_of bytes) (text ++ last)

-- nothing is ready, and the output is as it was
pub record Silent (out : List ℕ) (out_after : List ℕ) (ready : ℕ) : Type 0 where
  pub nothing : ready ≡ 0
  pub same : out_after ≡ out

-- "a last line without it counts if it has a byte": at the end of the input what is ready completes the text of all lines, whatever came before; where a
-- read failed, nothing is ready
abbrev pub Finished : (List ℕ → List ℕ → Type 0) → Result (Unit {0}) Error → List ℕ → List ℕ → OpenLine → List ℕ → ℕ → Type 0
Finished Answers (Ok end) pending out current out_after ready =
    (bytes text : List ℕ) → Follows Answers bytes pending current.held current.number text → Comes Answers bytes text out 0 out_after ready
Finished Answers (Err error) pending out current out_after ready = Silent out out_after ready

-- the promise at the end of an input
pub record Finishes (Answers : List ℕ → List ℕ → Type 0) (end : Result (Unit {0}) Error) (pending : List ℕ) (out : List ℕ) (current : OpenLine) (out_after : List ℕ) (ready : ℕ) : Type 0 where
  pub within : ready ≤ length out
  pub right : Finished Answers end pending out current out_after ready
