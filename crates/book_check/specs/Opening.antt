-- What opening a buffer answers, and what it tells of the buffer. Assumes nothing.
use Rattle.std.specs.Prelude.{◌≡◌, Bool, not, List, ℕ, eqb, Result, Ok, Err}
use Rattle.refusals.specs.declared.Refusal.{Refusal}
use Rattle.refusals.specs.declared.Refusal.TheVariants.{NotABook}
use Rattle.entries.specs.Entries.{Entries, book, wrong, entries}
use Rattle.entries.specs.Book.{Opened}
use Rattle.entries.specs.Map.{live_count}
use Rattle.book_check.specs.declared.open.Opening.{Opening}

-- a byte behind the records that is not zero; an inner contract cites it
abbrev pub is_stray : ℕ → Bool
is_stray byte = not (eqb byte 0)

-- the live records counted and the first free byte, or the first wrong place
abbrev pub opening_of : Entries → Result Opening Refusal
opening_of (book list free) = Ok (record { live = live_count list; free = free })
opening_of (wrong place) = Err (NotABook place)

-- the buffer is no book, and the refusal tells the first wrong place
pub record NoBook (bytes : List ℕ) (refusal : Refusal) : Type 0 where
  pub place : ℕ
  pub is : refusal ≡ NotABook place
  pub no_book : entries bytes ≡ wrong place

abbrev pub Says : List ℕ → Result Opening Refusal → Type 0
Says bytes (Ok opening) = Opened bytes opening.free
Says bytes (Err refusal) = NoBook bytes refusal

-- the promise of `open_book`
pub record OpenRight (bytes : List ℕ) (opening : Result Opening Refusal) : Type 0 where
  pub answer : opening ≡ opening_of (entries bytes)
  pub opened : Says bytes opening
