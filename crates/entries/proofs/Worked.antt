-- Worked buffers: the bytes of a record, live and removed; a record of no values, which is none; and how long a buffer may be.
-- Assumes nothing.
use mathlib.Core.Path.{◌≡◌, refl}
use mathlib.Core.Bool.{Bool, true, false}
use mathlib.Core.List.{List, [], ◌∷◌}
use Prim.Native.Nat.{ℕ, ◌<◌}
use native.Mathlib.Omega.{arith}
use borrow.Author.Tests.{lt-leb}
use lib.Dec.{leb}
use lib.ListN.{length, length-replicate}
use Rattle.letters.specs.Choice.{pick}
use Rattle.letters.proofs.Tests.{pick_false}
use Rattle.entries.specs.Limits.{book_limit}
use Rattle.entries.specs.Entries.{Entry, is_framed_within, book, wrong, entries_from_within, entries_within, entries}
use Rattle.entries.specs.Book.{zeros, record_bytes}
use Rattle.entries.proofs.Agree.{complete}

abbrev entry_of : Bool → Entry
entry_of live = record { start = 0; live = live; stock = 0x01020304; word = 0x1029 ∷ 0x1038 ∷ [] }

-- "the two bytes 4D 57", "the count n of code values", "the stock number (four bytes, low byte first) and n bytes, each a value minus 1000"
pub live_bytes : record_bytes (entry_of true) ≡ 0x4D ∷ 0x57 ∷ 2 ∷ 0x04 ∷ 0x03 ∷ 0x02 ∷ 0x01 ∷ 0x29 ∷ 0x38 ∷ []
unfolding record_bytes
live_bytes = refl

-- "a removed one starts with 4D 2D"
pub removed_bytes : record_bytes (entry_of false) ≡ 0x4D ∷ 0x2D ∷ 2 ∷ 0x04 ∷ 0x03 ∷ 0x02 ∷ 0x01 ∷ 0x29 ∷ 0x38 ∷ []
unfolding record_bytes
removed_bytes = refl

-- "(one byte, 1 to 64)"
pub no_values : entries (0x4D ∷ 0x57 ∷ 0 ∷ 0 ∷ 0 ∷ 0 ∷ 0 ∷ 0 ∷ []) ≡ wrong 0
unfolding entries_within entries_from_within is_framed_within pick
no_values = refl

-- "at most 16,384 bytes": so many zeros are a book without records
pub longest_book : entries (zeros 16384) ≡ book [] 0
longest_book = complete (zeros 16384) [] (record { short = omega (arith, length-replicate {A = ℕ} 16384 0); pad = 16384; written = refl; good = tt })

-- "for an overlong buffer 16,384"
pub overlong : (bytes : List ℕ) → 16384 < length bytes → entries bytes ≡ wrong 16384
unfolding entries_within
overlong bytes long = pick_false (leb (length bytes) book_limit) _ _ (lt-leb (length bytes) book_limit (omega (arith, long)))
