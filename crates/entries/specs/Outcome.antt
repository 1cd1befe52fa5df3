-- Document 01, "The word book" and "Refused because of what the book holds", and document 02, "Tidying a book": what the calls on a book answer, for a
-- word in storage order.
-- Assumes nothing.
use Rattle.std.specs.Prelude.{List, ◌++◌, map, ℕ, ◌+◌, leb, length, take, drop}
use Rattle.std.proofs.Math.Option.{Option, none, some}
use Rattle.entries.specs.Limits.{head_size}
use Rattle.letters.specs.Choice.{pick}
use Rattle.refusals.specs.Outcome.{Outcome, accepts, accepts_both, absent, refuses}
use Rattle.entries.specs.Entries.{Entry, Entries, book, wrong}
use Rattle.entries.specs.Map.{live_count, lookup}
use Rattle.entries.specs.Tidy.{live_length}

-- a record is told by its stock number and its start
abbrev pub finds : ℕ → ℕ → Outcome
finds start stock = accepts_both stock start

-- an answer that tells a record, or its start alone, told for a record that has moved; the laws of tidying cite it
abbrev pub start_moved : (ℕ → ℕ) → Outcome → Outcome
start_moved move (accepts start) = accepts (move start)
start_moved move (accepts_both stock start) = accepts_both stock (move start)
start_moved move absent = absent
start_moved move (refuses number place) = refuses number place

-- a list of starts, of which as many as an answer tells are those of records that have moved
abbrev pub starts_moved : (ℕ → ℕ) → Outcome → List ℕ → List ℕ
starts_moved move (accepts count) starts = map move (take count starts) ++ drop count starts
starts_moved move (accepts_both first second) starts = starts
starts_moved move absent starts = starts
starts_moved move (refuses number place) starts = starts

-- check: "not a book", or the live count
abbrev pub check_of : Entries → Outcome
check_of (book list free) = accepts (live_count list)
check_of (wrong place) = refuses 11 place

-- "Find gives start and stock number"; "find, remove: not live"
abbrev pub find_of_entry : Option Entry → Outcome
find_of_entry none = refuses 13 0
find_of_entry (some entry) = finds entry.start entry.stock

abbrev pub find_of : Entries → List ℕ → Outcome
find_of (book list free) word = find_of_entry (lookup list word)
find_of (wrong place) word = refuses 11 place

-- "Remove changes the record's 57 to 2D, no other byte, and gives its start"
abbrev pub remove_of_entry : Option Entry → Outcome
remove_of_entry none = refuses 13 0
remove_of_entry (some entry) = accepts entry.start

abbrev pub remove_of : Entries → List ℕ → Outcome
remove_of (book list free) word = remove_of_entry (lookup list word)
remove_of (wrong place) word = refuses 11 place

-- "Add puts a record with the normalised word just after the last record and gives its start", and beside it whether it tidied: here not
abbrev pub puts : ℕ → Outcome
puts start = accepts_both start 0

-- the same in the tidied book, and that it tidied
abbrev pub tidies_and_puts : ℕ → Outcome
tidies_and_puts start = accepts_both start 1

-- 02: "14 is now given when the live records and the new one together pass the buffer's end and at no other time, its place is the live length";
-- "Add tidies by itself when its record doesn't fit otherwise but fits after tidying, and in no other case". The record has `size` bytes, the buffer `room`
abbrev pub placing : List Entry → ℕ → ℕ → ℕ → Outcome
placing list free room size =
    pick (leb (live_length list + size) room)
    (pick (leb (free + size) room) (puts free) (tidies_and_puts (live_length list)))
    (refuses 14 (live_length list))

-- "add: word is live already"
abbrev pub add_of_entry : Option Entry → Outcome → Outcome
add_of_entry none placed = placed
add_of_entry (some entry) placed = refuses 12 entry.start

abbrev pub add_of : Entries → ℕ → List ℕ → Outcome
add_of (book list free) room word = add_of_entry (lookup list word) (placing list free room (head_size + length word))
add_of (wrong place) room word = refuses 11 place
