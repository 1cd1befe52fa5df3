-- Document 01: "A book is a lent buffer of at most 16,384 bytes". The limit stands here and in the code that opens a book.
-- Assumes nothing.
use Rattle.std.specs.Prelude.{ℕ}

-- the most bytes of a book
abbrev pub book_limit : ℕ
book_limit = 16384

-- the bytes of a record before its word: the mark, the count and the stock number
abbrev pub head_size : ℕ
head_size = 7
