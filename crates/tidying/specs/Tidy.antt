-- Document 02, "Tidying a book": what tidying answers, and what each byte of the buffer is afterwards. Assumes nothing.
use Rattle.std.specs.Prelude.{◌≡◌, List, ℕ, ◌≤◌, length, take, drop}
use Rattle.refusals.specs.Outcome.{Outcome, accepts, refuses}
use Rattle.entries.specs.Entries.{Entry, Entries, book, wrong, entries}
use Rattle.entries.specs.Book.{records, IsBook}
use Rattle.entries.specs.Map.{live_ones}
use Rattle.entries.specs.Tidy.{live_length, bytes_tidied}

-- "It gives the live length"; "tidying itself is refused with 11 alone"
abbrev pub tidy_of : Entries → Outcome
tidy_of (book list free) = accepts (live_length list)
tidy_of (wrong place) = refuses 11 place

-- the promise of tidying, with the buffer as it was and as it is
pub record TidyRight (before after : List ℕ) (outcome : Outcome) : Type 0 where
  pub answer : outcome ≡ tidy_of (entries before)
  pub bytes : after ≡ bytes_tidied before

-- the live records stand at the front, `kept` bytes, and the free bytes are as they were; an inner contract cites it
pub record Closed (before after : List ℕ) (free kept : ℕ) : Type 0 where
  pub counted : (list : List Entry) → IsBook before list → kept ≡ live_length list
  pub moved : (list : List Entry) → IsBook before list → take kept after ≡ records (live_ones list)
  pub within : kept ≤ free
  pub rest : drop free after ≡ drop free before
  pub long : length after ≡ length before
