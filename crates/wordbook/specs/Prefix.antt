-- Document 02, "Find by the first syllables": what the call answers to the query as it is handed in, and what each value of the list is afterwards.
-- Assumes nothing.
use Rattle.std.specs.Prelude.{List, ℕ, length}
use Rattle.refusals.specs.Outcome.{Outcome}
use Rattle.refusals.specs.Output.{Writes}
use Rattle.storage.specs.Stored.{stored_form}
use Rattle.entries.specs.Entries.{Entry}
use Rattle.book_keys.specs.Filing.{row_of}
use Rattle.ranking.specs.Whole.{NotABook, BookOf}
use Rattle.prefix_search.specs.Prefix.{starts_fitting}
use Rattle.wordbook.specs.Calls.{WordRefused, WordStored}

-- "the order of tests is 01's, with 5 last": the query is refused, or it is not and the buffer is no book
pub data QueryRefused (bytes query : List ℕ) : ℕ → ℕ → Type 0 where
  query_refused : {number place : ℕ} → WordRefused query number place → QueryRefused bytes query number place
  no_book : {number place : ℕ} → WordStored query → NotABook bytes number place → QueryRefused bytes query number place

-- the query goes on to a book of these entries
pub record Queries (bytes query : List ℕ) (list : List Entry) : Type 0 where
  pub stored : WordStored query
  pub is_book : BookOf bytes list

-- the starts of the records that fit the query's stored form, in word order
abbrev pub starts_found : List ℕ → List Entry → List ℕ
starts_found query = starts_fitting (row_of (stored_form query))

-- the promise of `find_prefix`, with the list as it was and as it is
abbrev pub PrefixPromise : List ℕ → List ℕ → List ℕ → List ℕ → Outcome → Type 0
PrefixPromise bytes query = Writes (QueryRefused bytes query) (Queries bytes query) (starts_found query) (λ list. length (starts_found query list))
