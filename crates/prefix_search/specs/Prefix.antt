-- Document 02, "Find by the first syllables": "The starts of all fitting records are written to a lent list of 16-bit numbers, in word order,
-- each once. The number of fitting records is given too. When the list is too short the answer is 5 with that number." Assumes nothing.
use Rattle.std.specs.Prelude.{Bool, List, ℕ, length}
use Rattle.formula.specs.Row.{Row}
use Rattle.refusals.specs.Outcome.{Outcome}
use Rattle.refusals.specs.Output.{Writes}
use Rattle.entries.specs.Entries.{Entry}
use Rattle.book_fitting.specs.Fitting.{fits}
use Rattle.sorting.specs.Passing.{starts_passing}
use Rattle.ranking.specs.Whole.{NotABook, BookOf}

-- the starts of the live entries, in word order, that fit
abbrev pub starts_fitting : Row → List Entry → List ℕ
starts_fitting query = starts_passing (fits query)

-- the promise of a list of starts at which a test passes, with the list as it was and as it is: they stand at its front, and how many is told
abbrev pub ListsPassing : List ℕ → (Entry → Bool) → List ℕ → List ℕ → Outcome → Type 0
ListsPassing bytes test = Writes (NotABook bytes) (BookOf bytes) (starts_passing test) (λ list. length (starts_passing test list))

-- the promise of `find_prefix`
abbrev pub PrefixRight : List ℕ → Row → List ℕ → List ℕ → Outcome → Type 0
PrefixRight bytes query = ListsPassing bytes (fits query)
