-- The seven bytes of a record that stand before its word, in a buffer. An inner contract cites it. Assumes nothing.
use Rattle.std.specs.Prelude.{List, [], ◌∷◌, ◌++◌, ℕ, ◌+◌, take, drop}
use Rattle.entries.specs.Limits.{head_size}
use Rattle.entries.specs.Book.{number_bytes}

-- the buffer with the seven bytes that stand before a word
unfoldable pub with_head : List ℕ → ℕ → ℕ → ℕ → List ℕ
with_head bytes at count stock = take at bytes ++ ((0x4D ∷ 0x57 ∷ count ∷ number_bytes stock []) ++ drop (at + head_size) bytes)
