-- Document 01, "The word book": which of two records stands before the other in word order.
-- Assumes nothing.
use Rattle.std.specs.Prelude.{Bool, true, false, List, ℕ, ◌+◌, get_or, take, drop}
use Rattle.weighing.specs.Order.{Filed, filed, in_turn, order_values, order}
use Rattle.std.specs.declared.cmp.Ordering.{Ordering}
use Rattle.std.specs.declared.cmp.Ordering.TheVariants.{Less, Equal, Greater}
use Rattle.entries.specs.Limits.{head_size}
use Rattle.entries.specs.Entries.{Entry}
use Rattle.book_keys.specs.Filing.{row_of, weights_at}

-- what an entry is filed by
abbrev pub file_of : Entry → Filed
file_of entry = filed (row_of entry.word) entry.word

abbrev pub is_less : Ordering → Bool
is_less Less = true
is_less Equal = false
is_less Greater = false

-- "before it in word order"
unfoldable pub before : Entry → Entry → Bool
before first second = is_less (order (file_of first) (file_of second))

-- inner contracts cite what follows: the bytes of the word of the record at a start,
abbrev pub bytes_at : List ℕ → ℕ → List ℕ
bytes_at bytes start = take (get_or bytes (start + 2) 0) (drop (start + head_size) bytes)

-- and the order of the records at two starts, by their filed weights and then by these bytes
abbrev pub filed_order : List ℕ → List ℕ → ℕ → ℕ → Ordering
filed_order bytes keys first second =
    in_turn (order_values (weights_at keys first) (weights_at keys second)) (order_values (bytes_at bytes first) (bytes_at bytes second))
