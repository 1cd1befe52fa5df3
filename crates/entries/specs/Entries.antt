-- Document 01, "The word book": what a buffer holds, or the first place where it is no book.
-- `entries` is the definition that the contracts cite. `Book.antt` has the other reading, by writing; `proofs/Agree.antt` shows the two to agree.
-- Assumes nothing.
use Rattle.std.specs.Prelude.{Bool, false, not, ◌&&◌, ◌||◌, List, [], ◌∷◌, ◌++◌, map, ℕ, zero, suc, ◌+◌, ◌*◌, eqb, leb, length, get_or, take, drop}
use Rattle.letters.specs.Choice.{pick}
use Rattle.formula.specs.Limits.{limit}
use Rattle.formula.specs.Lists.{same_list}
use Rattle.entries.specs.Limits.{book_limit, head_size}
use Rattle.entries.specs.Readable.{is_readable_within}

-- a record: where it starts, whether it is live, its stock number, its word
pub record Entry : Type 0 where
  pub start : ℕ
  pub live : Bool
  pub stock : ℕ
  pub word : List ℕ

-- "n bytes, each a value minus 1000": the value of a byte
abbrev pub value_of : ℕ → ℕ
value_of byte = byte + 0x1000

-- "the stock number (four bytes, low byte first)"
abbrev pub number : ℕ → ℕ → ℕ → ℕ → ℕ
number low second third high = low + 256 * (second + 256 * (third + 256 * high))

-- the word of the record at a place
abbrev pub word_at : List ℕ → ℕ → List ℕ
word_at bytes at = map value_of (take (get_or bytes (at + 2) 0) (drop (at + head_size) bytes))

-- the record at a place, if there is one
abbrev pub entry_at : List ℕ → ℕ → Entry
entry_at bytes at =
    record {
      start = at;
      live = eqb (get_or bytes (at + 1) 0) 0x57;
      stock = number (get_or bytes (at + 3) 0) (get_or bytes (at + 4) 0) (get_or bytes (at + 5) 0) (get_or bytes (at + 6) 0);
      word = word_at bytes at;
    }

-- "Each record starts with the two bytes 4D 57 (hexadecimal); a removed one starts with 4D 2D. Then come the count n of code values (one
-- byte, 1 to 64)", and the record ends within the buffer. Past the end of the buffer `get_or` gives 0, so a cut record fails at one of these.
unfoldable pub is_framed_within : ℕ → List ℕ → ℕ → Bool
is_framed_within most bytes at =
    eqb (get_or bytes at 0) 0x4D && ((eqb (get_or bytes (at + 1) 0) 0x57 || eqb (get_or bytes (at + 1) 0) 0x2D)
    && (leb 1 (get_or bytes (at + 2) 0) && (leb (get_or bytes (at + 2) 0) most && leb (at + head_size + get_or bytes (at + 2) 0) (length bytes))))

abbrev pub is_framed : List ℕ → ℕ → Bool
is_framed bytes at = is_framed_within limit bytes at

-- some live entry has the word
unfoldable pub holds : List Entry → List ℕ → Bool
holds [] word = false
holds (entry ∷ entries) word = (entry.live && same_list entry.word word) || holds entries word

-- "no two live records have the same word": the entry after the others
unfoldable pub is_fresh : List Entry → Entry → Bool
is_fresh seen entry = not (entry.live && holds seen entry.word)

-- "Every record's word, removed ones included, is in storage order and readable; no two live records have the same word."
unfoldable pub may_follow_within : ℕ → List Entry → Entry → Bool
may_follow_within most seen entry = is_readable_within most entry.word && is_fresh seen entry

abbrev pub may_follow : List Entry → Entry → Bool
may_follow seen entry = may_follow_within limit seen entry

-- the entries and the first free byte, or the first wrong place
pub data Entries : Type 0 where
  book : List Entry → ℕ → Entries
  wrong : ℕ → Entries

-- "then only zero bytes": what is given where they are zero, else the place of the first that is not
unfoldable pub zero_tail : List ℕ → ℕ → Entries → Entries
zero_tail [] place given = given
zero_tail (byte ∷ bytes) place given = pick (eqb byte 0) (zero_tail bytes (suc place) given) (wrong place)

-- the records from `at` on, behind those that are read; `fuel` bounds how many there are. "The records end at the first zero byte that
-- stands where a record would begin, or at the buffer's end"
module _ (most : ℕ) where
  unfoldable pub entries_from_within : ℕ → List ℕ → ℕ → List Entry → Entries
  entries_from_within zero bytes at seen = wrong at
  entries_from_within (suc fuel) bytes at seen =
      pick (eqb (get_or bytes at 0) 0)
      (zero_tail (drop at bytes) at (book seen at))
      (pick (is_framed_within most bytes at && may_follow_within most seen (entry_at bytes at))
      (entries_from_within fuel bytes (at + head_size + get_or bytes (at + 2) 0) (seen ++ (entry_at bytes at ∷ [])))
      (wrong at))

abbrev pub entries_from : ℕ → List ℕ → ℕ → List Entry → Entries
entries_from fuel bytes at seen = entries_from_within limit fuel bytes at seen

-- "In 11 an overlong buffer is tested first", and its place is 16,384; a buffer has fewer records than bytes
unfoldable pub entries_within : ℕ → List ℕ → Entries
entries_within most bytes = pick (leb (length bytes) book_limit) (entries_from_within most (suc (length bytes)) bytes 0 []) (wrong book_limit)

abbrev pub entries : List ℕ → Entries
entries bytes = entries_within limit bytes
