-- The whole book in one call: the starts of all its live records, in word order, in a list that is lent.
-- Assumes nothing.
use Rattle.std.specs.Prelude.{◌≡◌, List, ℕ, length}
use Rattle.refusals.specs.Outcome.{Outcome}
use Rattle.refusals.specs.Output.{Writes}
use Rattle.entries.specs.Entries.{Entry, book, wrong, entries}
use Rattle.ranking.specs.Rank.{starts_in_order}

-- 11: "not a book", with its place
pub data NotABook (bytes : List ℕ) : ℕ → ℕ → Type 0 where
  not_a_book : {place : ℕ} → entries bytes ≡ wrong place → NotABook bytes 11 place

-- the buffer is a book of these entries
pub record BookOf (bytes : List ℕ) (list : List Entry) : Type 0 where
  pub free : ℕ
  pub is : entries bytes ≡ book list free

-- the promise of `order`, with the list as it was and as it is: the starts in order, and how many there are
abbrev pub OrderRight : List ℕ → List ℕ → List ℕ → Outcome → Type 0
OrderRight bytes = Writes (NotABook bytes) (BookOf bytes) starts_in_order (λ list. length (starts_in_order list))
