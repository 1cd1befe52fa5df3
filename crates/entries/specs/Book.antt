-- Document 01, "The word book", by writing: a buffer is the book of these entries when it is their records and then only zeros.
-- Assumes nothing.
use Rattle.std.specs.Prelude.{◌≡◌, Bool, true, false, List, [], ◌∷◌, ◌++◌, map, ℕ, ◌+◌, ◌-◌, ◌/◌, ◌%◌, ◌≤◌, ◌<◌, T, length, replicate}
use Rattle.recogniser.specs.Answer.{Readable}
use Rattle.entries.specs.Limits.{book_limit, head_size}
use Rattle.entries.specs.Entries.{Entry, is_fresh}

-- "then only zero bytes"
abbrev pub zeros : ℕ → List ℕ
zeros n = replicate n 0

-- "n bytes, each a value minus 1000": the byte of a value
abbrev pub byte_of : ℕ → ℕ
byte_of value = value - 0x1000

-- the second byte of a record: "4D 57 (hexadecimal); a removed one starts with 4D 2D"
abbrev pub mark_of : Bool → ℕ
mark_of true = 0x57
mark_of false = 0x2D

-- "the stock number (four bytes, low byte first)", before other bytes
abbrev pub number_bytes : ℕ → List ℕ → List ℕ
number_bytes stock rest = stock % 256 ∷ (stock / 256) % 256 ∷ (stock / 65536) % 256 ∷ stock / 16777216 ∷ rest

-- the bytes of a record; they do not depend on its start
unfoldable pub record_bytes : Entry → List ℕ
record_bytes entry = 0x4D ∷ mark_of entry.live ∷ length entry.word ∷ number_bytes entry.stock (map byte_of entry.word)

-- "records from byte 0"
abbrev pub records : List Entry → List ℕ
records [] = []
records (entry ∷ entries) = record_bytes entry ++ records entries

-- how many bytes a record has
abbrev pub size : Entry → ℕ
size entry = head_size + length entry.word

-- the place behind records that begin at a place
abbrev pub end_of : ℕ → List Entry → ℕ
end_of at [] = at
end_of at (entry ∷ entries) = end_of (at + size entry) entries

-- What follows is said of books whose words meet a condition, and used at the readable words.

-- an entry that a record can hold
pub record GoodEntryOf (Allowed : List ℕ → Type 0) (entry : Entry) : Type 0 where
  pub some : 1 ≤ length entry.word
  pub readable : Allowed entry.word
  pub stock : entry.stock < 4294967296

-- each entry starts where the one before ends, can be held, and where it is live no live entry before it has its word
abbrev pub GoodAfterOf : (List ℕ → Type 0) → ℕ → List Entry → List Entry → Type 0
GoodAfterOf Allowed at seen [] = Unit {0}
GoodAfterOf Allowed at seen (entry ∷ entries) =
    (entry.start ≡ at) × GoodEntryOf Allowed entry × T (is_fresh seen entry) × GoodAfterOf Allowed (at + size entry) (seen ++ (entry ∷ [])) entries

-- "A book is a lent buffer of at most 16,384 bytes: records from byte 0, then only zero bytes."
pub record IsBookOf (Allowed : List ℕ → Type 0) (bytes : List ℕ) (entries : List Entry) : Type 0 where
  pub short : length bytes ≤ book_limit
  pub pad : ℕ
  pub written : bytes ≡ records entries ++ zeros pad
  pub good : GoodAfterOf Allowed 0 [] entries

-- "Every record's word, removed ones included, is in storage order and readable"
abbrev pub GoodEntry : Entry → Type 0
GoodEntry = GoodEntryOf Readable

abbrev pub GoodAfter : ℕ → List Entry → List Entry → Type 0
GoodAfter = GoodAfterOf Readable

abbrev pub IsBook : List ℕ → List Entry → Type 0
IsBook = IsBookOf Readable

-- the buffer is a book with this first free byte
pub record Opened (bytes : List ℕ) (free : ℕ) : Type 0 where
  pub list : List Entry
  pub is_book : IsBook bytes list
  pub end : free ≡ end_of 0 list

-- the place stands within a buffer that is not overlong, with as many bytes behind it
pub record Within (bytes : List ℕ) (place behind : ℕ) : Type 0 where
  pub short : length bytes ≤ book_limit
  pub room : place + behind ≤ length bytes
