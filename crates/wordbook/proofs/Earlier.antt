-- A book of an earlier edition is one still, and each call on it, by its promise, says of its words what it said.
-- Assumes nothing.
use mathlib.Core.Path.{◌≡◌, sym, ap, subst, ◌∙◌}
use mathlib.Core.Bool.{Bool}
use mathlib.Core.List.{List, []}
use Prim.Native.Nat.{ℕ, ◌≤◌}
use lib.ListN.{length, get_elem?}
use Rattle.formula.specs.Earlier.{Edition, IsRowIn}
use Rattle.refusals.specs.Outcome.{Outcome, accepts}
use Rattle.recogniser.specs.Answer.{Admissible}
use Rattle.recogniser.specs.Earlier.{ReadableIn}
use Rattle.recogniser.proofs.Earlier.{earlier_readable, earlier_same}
use Rattle.storage.specs.Stored.{stored_form}
use Rattle.normaliser.proofs.Earlier.{earlier_stores}
use Rattle.weighing.specs.Order.{filed, order}
use Rattle.weighing.specs.Earlier.{filed_by_five}
use Rattle.weighing.proofs.Earlier.{earlier_order}
use Rattle.entries.specs.Entries.{Entry, Entries, entries}
use Rattle.entries.specs.Book.{IsBookOf}
use Rattle.entries.specs.Map.{live_count, lookup}
use Rattle.entries.specs.Rank.{sorted}
use Rattle.entries.specs.Outcome.{check_of, find_of_entry, find_of}
use Rattle.entries.proofs.Earlier.{good_words, earlier_entries}
use Rattle.entries.proofs.Sorted.{sorted_alike}
use Rattle.book_keys.specs.Filing.{row_of}
use Rattle.book_keys.proofs.Rows.{row_is}
use Rattle.book_order.specs.Order.{file_of, is_less, before}
use Rattle.ranking.specs.Rank.{rank_of_entry, rank_of}
use Rattle.wordbook.specs.Calls.{CallAnswers}
use Rattle.wordbook.proofs.Laws.{stored_answer}

-- an entry is filed by the row that its word had
readable_row : {edition : Edition} (entry : Entry) (b : ReadableIn edition entry.word) → row_of entry.word ≡ b.row
readable_row entry b =
    let r = earlier_readable entry.word b in
    row_is entry.word r r.row r.gives ∙ earlier_same entry.word b r.row r.gives

pub earlier_filed : {edition : Edition} (entry : Entry) (b : ReadableIn edition entry.word) → file_of entry ≡ filed b.row entry.word
earlier_filed entry b = rw (readable_row entry b)

-- which of two entries stood before the other: by the five weights of their rows
abbrev pub before_by_five : Entry → Entry → Bool
before_by_five first second = is_less (order (filed_by_five (row_of first.word) first.word) (filed_by_five (row_of second.word) second.word))

pub earlier_before : {edition : Edition} (first second : Entry) → ReadableIn edition first.word → ReadableIn edition second.word
    → before first second ≡ before_by_five first second
unfolding before
earlier_before {edition} first second a b =
    let r = readable_row first a in
    let s = readable_row second b in
    ap is_less
    (sym (earlier_order edition (row_of first.word) (row_of second.word) (subst (IsRowIn edition) (sym r) a.gives.is_row)
    (subst (IsRowIn edition) (sym s) b.gives.is_row) first.word second.word))

module _ (edition : Edition) (bytes : List ℕ) (list : List Entry) (b : IsBookOf (ReadableIn edition) bytes list) where
  pub earlier_checked : (answer : Outcome) → answer ≡ check_of (entries bytes) → answer ≡ accepts (live_count list)
  earlier_checked answer e = e ∙ ap check_of (earlier_entries edition bytes list b)

  pub earlier_found : (word : List ℕ) (answer : Outcome) → 1 ≤ length word → Admissible word → ReadableIn edition (stored_form word)
      → CallAnswers word (find_of (entries bytes) (stored_form word)) answer → answer ≡ find_of_entry (lookup list (stored_form word))
  earlier_found word answer some a r c =
      stored_answer word _ answer (record { some = some; syllables = length r.row; stores = earlier_stores word a r }) c
      ∙ ap (λ (found : Entries). find_of found (stored_form word)) (earlier_entries edition bytes list b)

  -- the live entries stand in the order in which they stood
  pub earlier_sorted : sorted before list ≡ sorted before_by_five list
  earlier_sorted =
      sorted_alike (λ (e : Entry). ReadableIn edition e.word) before before_by_five (λ (first second : Entry). earlier_before first second) list
      (good_words (ReadableIn edition) 0 [] list b.good)

  pub earlier_ranked : (number : ℕ) (answer : Outcome) → answer ≡ rank_of (entries bytes) number
      → answer ≡ rank_of_entry (get_elem? (sorted before_by_five list) number) (live_count list)
  earlier_ranked number answer e =
      e ∙ ap (λ (found : Entries). rank_of found number) (earlier_entries edition bytes list b)
      ∙ ap (λ (order : List Entry). rank_of_entry (get_elem? order number) (live_count list)) earlier_sorted
