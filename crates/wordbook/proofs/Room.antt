-- The room of removed records, by the promises of the calls alone: it is used again through tidying alone; after a word is removed a word of no more values
-- is added, however full the book was; and an add that tidies leaves what tidying and then adding leave. Assumes nothing.
use mathlib.Core.Path.{◌≡◌, sym, subst, ◌∙◌}
use mathlib.Core.List.{List}
use Prim.Native.Nat.{ℕ, ◌≤◌, ◌<◌}
use lib.ListN.{length, take}
use Rattle.refusals.specs.Outcome.{Outcome, accepts, accepts_both, refuses}
use Rattle.storage.specs.Stored.{stored_form}
use Rattle.entries.specs.Entries.{Entry, book, entries}
use Rattle.entries.specs.Outcome.{find_of}
use Rattle.entries.proofs.Bytes.{Bytes}
use Rattle.tidying.specs.Tidy.{TidyRight}
use Rattle.book_change.specs.Written.{AddRight}
use Rattle.book_change.proofs.Room.{behind_all, bytes_before, tidy_then_add, added_after_remove}
use Rattle.wordbook.specs.Calls.{WordStored, CallAnswers, word_stored, AddPromise, RemovePromise}
use Rattle.wordbook.proofs.Stored.{stored_storable}
use Rattle.wordbook.proofs.Laws.{stored_answer, add_stored, add_right, remove_right}

module _ (word before after : List ℕ) (stock start : ℕ) (small : Bytes before) (fits : stock < 4294967296) where
  module _ (p : AddPromise word stock before after (accepts_both start 0)) where
    stored : WordStored word
    stored = add_stored word before after stock start 0 small fits p

    right : AddRight (stored_form word) stock before after (accepts_both start 0)
    right = add_right word before after stock start 0 small fits p

    -- an add that does not tidy puts its record behind all records, removed ones too
    pub add_behind_all : (list : List Entry) (free : ℕ) → entries before ≡ book list free → start ≡ free
    add_behind_all = behind_all before after (stored_form word) stock start small (stored_storable word stored) fits right

    -- and changes no byte before it
    pub add_bytes_before : take start after ≡ take start before
    add_bytes_before = bytes_before before after (stored_form word) stock start small (stored_storable word stored) fits right

  -- an add that tidies leaves what tidying and then adding leave, and gives the same start
  pub add_as_tidied : AddPromise word stock before after (accepts_both start 1) → (tidy : List ℕ) (outcome : Outcome) → TidyRight before tidy outcome
      → AddPromise word stock tidy after (accepts_both start 0)
  add_as_tidied p tidy outcome t =
      let s = add_stored word before after stock start 1 small fits p in
      let r =
      tidy_then_add before after (stored_form word) stock start small (stored_storable word s) fits (add_right word before after stock start 1 small fits p) in
      subst (λ (b : List ℕ). AddPromise word stock b after (accepts_both start 0)) (sym t.bytes)
      (record { answers = subst (CallAnswers word _) (sym r.answer) (word_stored s); bytes = r.bytes })

-- "add after remove in a full book succeeds where the record fits"
pub add_after_remove : (word before middle : List ℕ) (start : ℕ) → Bytes before → RemovePromise word before middle (accepts start)
    → (other after : List ℕ) (stock : ℕ) (outcome : Outcome) → WordStored other → length (stored_form other) ≤ length (stored_form word)
    → CallAnswers other (find_of (entries middle) (stored_form other)) (refuses 13 0) → AddPromise other stock middle after outcome
    → (place : ℕ) × (tidies : ℕ) × (outcome ≡ accepts_both place tidies)
add_after_remove word before middle start small r other after stock outcome s few absent_word p =
    let a =
    added_after_remove before middle (stored_form word) start small (remove_right word before middle start small r) (stored_form other) few
    (sym (stored_answer other _ (refuses 13 0) s absent_word)) in
    (a.0, a.1, stored_answer other _ outcome s p.answers ∙ a.2)
