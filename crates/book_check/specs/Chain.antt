-- Live records chained by a hash of their words: how `open_book` sees a repeated word without a comparison of every pair.
-- Inner contracts cite it; no answer depends on the hash. Assumes nothing.
use Rattle.std.specs.Prelude.{◌≡◌, ◌⊎◌, List, [], ◌∷◌, ℕ, ◌+◌, ◌-◌, ◌*◌, ◌%◌, ◌≤◌, ◌<◌, T, length, get_or, take, drop}
use Rattle.entries.specs.Limits.{book_limit, head_size}
use Rattle.entries.specs.Entries.{Entry, entry_at, is_framed}

-- how many chains there are
abbrev pub buckets : ℕ
buckets = 1024

-- the bytes of the word of the record at a place
abbrev pub word_bytes : List ℕ → ℕ → List ℕ
word_bytes bytes start = take (get_or bytes (start + 2) 0) (drop (start + head_size) bytes)

-- any function of the bytes would do; this one goes on from the hash of the bytes before
unfoldable pub hash_of : List ℕ → ℕ → ℕ
hash_of [] hash = hash
hash_of (byte ∷ bytes) hash = hash_of bytes ((hash * 31 + byte) % buckets)

-- the chain of the record at a place
unfoldable pub bucket_at : List ℕ → ℕ → ℕ
bucket_at bytes start = hash_of (word_bytes bytes start) 0

-- a live entry starts there
abbrev pub LiveAt : List Entry → ℕ → Type 0
LiveAt [] start = ⊥
LiveAt (entry ∷ entries) start = ((entry.start ≡ start) × T entry.live) ⊎ LiveAt entries start

-- each entry is what the buffer has at its start, and starts before `at`
abbrev pub Drawn : List ℕ → ℕ → List Entry → Type 0
Drawn bytes at [] = Unit {0}
Drawn bytes at (entry ∷ entries) =
    (entry ≡ entry_at bytes entry.start) × T (is_framed bytes entry.start) × (entry.start < at) × Drawn bytes at entries

-- the link is 0, or one more than the start of the last live record of the chain that starts before a place
pub record Link (bytes : List ℕ) (entries : List Entry) (bucket before link : ℕ) : Type 0 where
  pub below : link ≤ before
  pub last : (start : ℕ) → LiveAt entries start → start < before → bucket_at bytes start ≡ bucket → start < link
  pub live : 0 < link → LiveAt entries (link - 1)
  pub bucket_of : 0 < link → bucket_at bytes (link - 1) ≡ bucket

-- the heads of the chains, and the link of each live record to the one before it
pub record Chained (bytes : List ℕ) (at : ℕ) (entries : List Entry) (heads links : List ℕ) : Type 0 where
  pub drawn : Drawn bytes at entries
  pub head : (bucket : ℕ) → bucket < buckets → Link bytes entries bucket at (get_or heads bucket 0)
  pub link : (start : ℕ) → LiveAt entries start → Link bytes entries (bucket_at bytes start) start (get_or links start 0)

-- a record stands at a place, and the entries before it are chained
pub record Ready (bytes : List ℕ) (at bucket : ℕ) (heads links : List ℕ) : Type 0 where
  pub short : length bytes ≤ book_limit
  pub frame : T (is_framed bytes at)
  pub bucket_is : bucket ≡ bucket_at bytes at
  pub bucket_small : bucket < buckets
  pub list : List Entry
  pub chained : Chained bytes at list heads links
