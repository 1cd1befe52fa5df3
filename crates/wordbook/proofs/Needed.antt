-- Where the list of the search by first syllables is too short: the number that 5 tells is that of the fitting live records, and no other refusal is 5.
-- Assumes nothing.
use mathlib.Core.Path.{◌≡◌, ◌∙◌}
use mathlib.Core.List.{List}
use Prim.Native.Nat.{ℕ, ◌<◌}
use native.Mathlib.Omega.{arith}
use lib.ListN.{length, length-map}
use Rattle.formula.specs.Lists.{filtered}
use Rattle.refusals.specs.Outcome.{refuses}
use Rattle.refusals.proofs.Accepted.{short_count}
use Rattle.recogniser.specs.Answer as reading
use Rattle.storage.specs.Stored.{stored_form}
use Rattle.normaliser.specs.Admission as admission
use Rattle.normaliser.specs.Normal as normal
use Rattle.entries.specs.Entries.{Entry}
use Rattle.entries.specs.Book.{IsBook}
use Rattle.entries.specs.Map.{live_ones}
use Rattle.entries.proofs.Agree.{complete}
use Rattle.book_keys.specs.Filing.{row_of, start_of}
use Rattle.book_fitting.specs.Fitting.{fits}
use Rattle.sorting.proofs.InOrder.{passing_count}
use Rattle.ranking.specs.Whole.{not_a_book}
use Rattle.ranking.proofs.Whole.{book_once}
use Rattle.wordbook.specs.Calls.{WordRefused, empty, refused}
use Rattle.wordbook.specs.Prefix.{QueryRefused, query_refused, no_book, Queries, starts_found, PrefixPromise}

form_not_five : (word : List ℕ) (number place : ℕ) → reading.RefusedWith word number place → number ≡ 5 → ⊥
form_not_five word number place (reading.too_long h) e = omega arith
form_not_five word number place (reading.foreign f) e = omega arith
form_not_five word number place (reading.no_continuation a v l) e = omega arith
form_not_five word number place (reading.unfinished a r v) e = omega arith

word_not_five : (word : List ℕ) (number place : ℕ) → WordRefused word number place → number ≡ 5 → ⊥
word_not_five word number place (empty h) e = omega arith
word_not_five word number place (refused h (normal.unadmitted (admission.too_long l))) e = omega arith
word_not_five word number place (refused h (normal.unadmitted (admission.foreign f))) e = omega arith
word_not_five word number place (refused h (normal.outcome a r)) e = form_not_five (stored_form word) number place r e

query_not_five : (bytes query : List ℕ) (number place : ℕ) → QueryRefused bytes query number place → number ≡ 5 → ⊥
query_not_five bytes query number place (query_refused r) e = word_not_five query number place r e
query_not_five bytes query number place (no_book s (not_a_book w)) e = omega arith

-- "When the list is too short the answer is 5 with that number.": how many live records fit, which is more than the list holds
pub prefix_needed : (bytes : List ℕ) (list : List Entry) → IsBook bytes list → (query starts after : List ℕ) (needed : ℕ)
    → PrefixPromise bytes query starts after (refuses 5 needed)
    → (needed ≡ length (filtered (fits (row_of (stored_form query))) (live_ones list))) × (length starts < needed)
prefix_needed bytes list k query starts after needed p =
    let short =
    short_count (QueryRefused bytes query) (Queries bytes query) (starts_found query) (λ (entries : List Entry). length (starts_found query entries)) starts after needed
    (query_not_five bytes query) list (λ other h. book_once bytes other list h.is_book (record { free = _; is = complete bytes list k })) p in
    (short.count ∙ passing_count bytes list k (fits (row_of (stored_form query))) ∙ length-map (filtered (fits (row_of (stored_form query))) (live_ones list)) start_of, short.room)
