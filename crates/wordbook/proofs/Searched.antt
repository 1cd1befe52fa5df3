-- The search by the first syllables beside find, and on the worked words: the record that find gives is among those that its word finds as a query, and
-- in every book the queries of the table find the words that fit them. Assumes nothing.
use mathlib.Core.Path.{◌≡◌, refl, sym, subst, ◌∙◌}
use mathlib.Core.Bool.{true}
use mathlib.Core.List.{List}
use Prim.Native.Nat.{ℕ, ◌<◌}
use lib.Dec.{T}
use lib.ListN.{get_or}
use Rattle.letters.proofs.Tests.{of_true}
use Rattle.formula.proofs.Lists.{All, all_map}
use Rattle.refusals.specs.Outcome.{accepts}
use Rattle.storage.specs.Stored.{stored_form}
use Rattle.storage.proofs.Rows.{gives_stored}
use Rattle.entries.specs.Entries.{Entry, entries}
use Rattle.entries.specs.Book.{IsBook}
use Rattle.entries.specs.Outcome.{finds, find_of}
use Rattle.entries.proofs.Bytes.{Bytes}
use Rattle.book_keys.specs.Filing.{row_of}
use Rattle.book_fitting.specs.Fitting.{fits}
use Rattle.ranking.specs.Rank.{Among}
use Rattle.prefix_search.proofs.Words.{Pair, pairs, Right, pairs_fitting}
use Rattle.wordbook.specs.Calls.{CallAnswers}
use Rattle.wordbook.specs.Prefix.{PrefixPromise}
use Rattle.wordbook.proofs.Words.{FoundEntry, found_among, found_entry, book_answered}
use Rattle.wordbook.proofs.Prefix.{StandsIn, prefix_each, prefix_itself}

-- the record that find gives is found by its first syllables, which are all of its word
pub found_as_prefix : (bytes word starts after : List ℕ) (start stock count : ℕ) → Bytes bytes
    → CallAnswers word (find_of (entries bytes) (stored_form word)) (finds start stock) → PrefixPromise bytes word starts after (accepts count)
    → (r : ℕ) × (r < count) × (get_or after r 0 ≡ start)
found_as_prefix bytes word starts after start stock count small c p =
    let g : FoundEntry bytes (stored_form word) start stock =
    found_entry bytes (stored_form word) start stock small (book_answered word _ (finds start stock) start stock refl c) in
    let a = found_among g.list (stored_form word) g.entry g.found in
    let s = prefix_itself bytes g.list g.is_book word starts after count p g.entry a.0 a.1 a.2 in
    (s.0, s.1, s.2 ∙ g.start_is)

-- in every book the query of a pair finds each live entry with its word, where the table says so
abbrev pub Found : Pair → Type 0
Found pair =
    pair.found ≡ true → (bytes : List ℕ) (list : List Entry) → IsBook bytes list → (starts after : List ℕ) (count : ℕ)
    → PrefixPromise bytes pair.query.word starts after (accepts count) → (entry : Entry) → Among entry list → T entry.live
    → entry.word ≡ pair.word.word → StandsIn entry after count

pair_found : (pair : Pair) → Right pair → Found pair
pair_found pair right is bytes list k starts after count p entry m live own =
    let stored = gives_stored pair.query.row pair.query.word right.query in
    prefix_each bytes list k pair.query.word starts after count p entry m live
    (subst (λ (w : List ℕ). T (fits (row_of w) entry)) (sym stored)
    (of_true (fits (row_of pair.query.word) entry) (right.fitting entry own ∙ is)))

pub pairs_found : All Found pairs
pairs_found = all_map Right Found pair_found pairs pairs_fitting
