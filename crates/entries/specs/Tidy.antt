-- Document 02, "Tidying a book": what a buffer holds after it is tidied, and where each live record then starts. Assumes nothing.
use Rattle.std.specs.Prelude.{Bool, List, [], ◌∷◌, ◌++◌, ℕ, suc, ◌+◌, ◌-◌, leb, length}
use Rattle.formula.specs.Lists.{filtered}
use Rattle.entries.specs.Entries.{Entry, Entries, book, wrong, entries}
use Rattle.entries.specs.Book.{zeros, records, size}
use Rattle.entries.specs.Map.{live_ones}

-- `live_ones` keeps "the order of their starts", which is that of a book's entries.

-- "the live length, the sum of the live records' bytes"
abbrev pub live_length : List Entry → ℕ
live_length list = length (records (live_ones list))

-- "Tidying moves the live records to the front, in the order of their starts, closes the gaps, and fills the rest with zero": `room` bytes in all
abbrev pub records_tidied : List Entry → ℕ → List ℕ
records_tidied list room = records (live_ones list) ++ zeros (room - live_length list)

-- the bytes of a buffer after it is tidied; one that is no book stays as it is
abbrev pub entries_tidied : Entries → List ℕ → List ℕ
entries_tidied (book list free) bytes = records_tidied list (length bytes)
entries_tidied (wrong place) bytes = bytes

-- the same by the buffer alone
abbrev pub bytes_tidied : List ℕ → List ℕ
bytes_tidied bytes = entries_tidied (entries bytes) bytes

-- an entry at another start
abbrev pub starting_at : ℕ → Entry → Entry
starting_at start entry = record { start = start; live = entry.live; stock = entry.stock; word = entry.word }

-- entries one behind the other, from a place on
abbrev pub closed_up : ℕ → List Entry → List Entry
closed_up at [] = []
closed_up at (entry ∷ entries) = starting_at at entry ∷ closed_up (at + size entry) entries

-- the entries after tidying: the live ones, with the starts that they then have
abbrev pub tidied : List Entry → List Entry
tidied list = closed_up 0 (live_ones list)

-- an entry starts before a place
abbrev pub starts_before : ℕ → Entry → Bool
starts_before place entry = leb (suc entry.start) place

-- where the record that starts at a place starts after tidying: behind the live records that start before it. The laws cite it
abbrev pub start_tidied : List Entry → ℕ → ℕ
start_tidied list start = live_length (filtered (starts_before start) list)

-- the same by what the buffer held; one that is no book stays as it is
abbrev pub start_after : Entries → ℕ → ℕ
start_after (book list free) start = start_tidied list start
start_after (wrong place) start = start
