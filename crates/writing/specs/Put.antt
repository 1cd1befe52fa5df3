-- The word of records as it is written to an output.
-- Assumes nothing.
use Rattle.std.specs.Prelude.{◌≡◌, List, ◌++◌, ℕ, ◌≤◌, T, length, drop}
use Rattle.formula.specs.Row.{join}
use Rattle.writing.specs.Records.{row_of, are_records}

-- the bytes are the records of a row, and an output of this length has room for its word
pub record RowFits (bytes : List ℕ) (size : ℕ) : Type 0 where
  pub are_records_lem : T (are_records 0 bytes)
  pub fits : length (join (row_of bytes)) ≤ size

-- "Success writes what it needs at the front of an output, the rest untouched, and tells how many values"
pub record RowPut (bytes before after : List ℕ) (count : ℕ) : Type 0 where
  pub put : after ≡ join (row_of bytes) ++ drop (length (join (row_of bytes))) before
  pub counted : count ≡ length (join (row_of bytes))
