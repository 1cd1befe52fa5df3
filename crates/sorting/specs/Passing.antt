-- Document 02, "Find by the first syllables": "The starts of all fitting records are written to a lent list of 16-bit numbers, in word order,
-- each once. The number of fitting records is given too." Here for any test that an entry may pass. Assumes nothing.
use Rattle.std.specs.Prelude.{Bool, List, map, ℕ}
use Rattle.formula.specs.Lists.{filtered}
use Rattle.refusals.specs.Outcome.{Outcome}
use Rattle.refusals.specs.Output.{Puts}
use Rattle.entries.specs.Entries.{Entry}
use Rattle.entries.specs.Book.{IsBook}
use Rattle.entries.specs.Rank.{sorted}
use Rattle.book_keys.specs.Filing.{start_of}
use Rattle.book_order.specs.Order.{before}

-- the starts of the live entries, in word order, at which a test passes
abbrev pub starts_passing : (Entry → Bool) → List Entry → List ℕ
starts_passing test list = map start_of (filtered test (sorted before list))

-- they are put, from a buffer that is a book, where there is room for them; an inner contract cites it
abbrev pub PutsPassing : List ℕ → (Entry → Bool) → List ℕ → List ℕ → Outcome → Type 0
PutsPassing bytes test starts after outcome = (list : List Entry) → IsBook bytes list → Puts (starts_passing test list) starts after outcome
