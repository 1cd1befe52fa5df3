-- Document 01, "Refused because of what is handed in" and "Refused because of what the book holds", with what document 02 changes and adds: the number
-- and the place of each refusal. Assumes nothing.
use Rattle.std.specs.Prelude.{ℕ}
use Rattle.formula.specs.Limits.{limit, label_limit}
use Rattle.refusals.specs.declared.Refusal.{Refusal}
use Rattle.refusals.specs.declared.Refusal.TheVariants.{TooLong, Foreign, NoContinuation, Unfinished, OutputTooShort, NoSuchRow, FaultyLine, EmptyWord, NotABook, AlreadyLive, NotLive, BookFull, RankTooHigh, StopOrSign, ConfusableDigit, TooManySyllables}

-- the column "no." of the two tables; each line quotes the column "when"
abbrev pub number_of : Refusal → ℕ
-- "more than 64 values, or a line over 192 bytes"
number_of TooLong = 1
-- "a foreign value"
number_of (Foreign p) = 2
-- "no continuation makes the whole word into a row of syllables"
number_of (NoContinuation p) = 3
-- "not a row of syllables, but some continuation makes the whole word into one"
number_of (Unfinished p) = 4
-- "lent output too short"
number_of (OutputTooShort p) = 5
-- "records no reader yields, or over 64 values when written"
number_of NoSuchRow = 6
-- "a line is cut from its start in threes; some three isn't E1, then 80 or 81, then 80 to BF, or is short"
number_of (FaultyLine p) = 7
-- "empty word, book calls only"
number_of EmptyWord = 8
-- "not a book"
number_of (NotABook p) = 11
-- "add: word is live already"
number_of (AlreadyLive p) = 12
-- "find, remove: not live"
number_of NotLive = 13
-- 02: "when the live records and the new one together pass the buffer's end"
number_of (BookFull p) = 14
-- "rank not below the live count"
number_of (RankTooHigh p) = 15
-- 02: "the first stop or sign" of what is to be a label
number_of (StopOrSign p) = 21
-- 02: "the first such digit", a 1040 or 1047 "next to a value that isn't a digit"
number_of (ConfusableDigit p) = 22
-- 02: "too many syllables"
number_of TooManySyllables = 23

-- the column "place" of the two tables, quoted at each line
abbrev pub place_of : Refusal → ℕ
-- "64"
place_of TooLong = limit
-- "the first, in the word as handed in"
place_of (Foreign p) = p
-- "length of the longest beginning that some continuation makes into one"
place_of (NoContinuation p) = p
-- "its length"
place_of (Unfinished p) = p
-- "values or bytes needed"
place_of (OutputTooShort p) = p
-- "0"
place_of NoSuchRow = 0
-- "byte place where the first faulty three begins"
place_of (FaultyLine p) = p
-- "0"
place_of EmptyWord = 0
-- "start of the first wrong record or first stray byte; for an overlong buffer 16,384; of two equal words, the later"
place_of (NotABook p) = p
-- "its start"
place_of (AlreadyLive p) = p
-- "0"
place_of NotLive = 0
-- 02: "the live length"
place_of (BookFull p) = p
-- "live count"
place_of (RankTooHigh p) = p
-- 02: "its place in the normalised word"
place_of (StopOrSign p) = p
place_of (ConfusableDigit p) = p
-- 02: "10, the limit"
place_of TooManySyllables = label_limit
