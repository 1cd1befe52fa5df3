-- Document 01, "The word book": the bytes of a buffer after a record is added or removed. Assumes nothing.
use Rattle.std.specs.Prelude.{List, ◌++◌, ℕ, ◌+◌, ◌≤◌, length, take, drop, set}
use Rattle.entries.specs.Limits.{head_size}
use Rattle.recogniser.specs.Answer.{Readable}
use Rattle.entries.specs.Book.{record_bytes}
use Rattle.entries.specs.Map.{new_entry}

-- a word that may be stored: not empty, and readable
pub record Storable (word : List ℕ) : Type 0 where
  pub some : 1 ≤ length word
  pub readable : Readable word

-- "Add puts a record with the normalised word just after the last record": each byte before and behind it stays
abbrev pub with_record : List ℕ → ℕ → List ℕ → ℕ → List ℕ
with_record bytes start word stock =
    take start bytes ++ (record_bytes (new_entry start word stock) ++ drop (start + head_size + length word) bytes)

-- "Remove changes the record's 57 to 2D, no other byte"
abbrev pub with_removed : List ℕ → ℕ → List ℕ
with_removed bytes start = set bytes (start + 1) 0x2D
