-- The previews of the adds to the worked shelf, and of three that are refused, each as it is to be shown. Assumes nothing.
use mathlib.Core.Path.{◌≡◌, refl, ap, ◌∙◌}
use mathlib.Core.Bool.{Bool, true, false}
use mathlib.Core.List.{List, [], ◌∷◌}
use Prim.Native.Nat.{ℕ}
use Rattle.formula.proofs.Words.{letter, ukka, aforementioned}
use Rattle.refusals.specs.Outcome.{Outcome, accepts_both, refuses}
use Rattle.storage.specs.Stored.{stored_form}
use Rattle.planning.specs.Preview.{PreviewOutcome, preview_of}
use Rattle.book_change.specs.Written.{bytes_added}
use Rattle.wordbook.specs.Calls.{empty, word_refused, AddPromise, PreviewPromise}
use Rattle.wordbook.proofs.Determined.{call_alike}
use Rattle.wordbook.proofs.Shelf.{emptied, filled, fitting, shelf_added, shelf_full, shelf_exact, shelf_live, shelf_no_book}
use Rattle.wordbook.proofs.Previewed.{foreseen}

-- the answer, the start and whether the add would tidy
abbrev shows : Outcome → ℕ → Bool → PreviewOutcome
shows answer start tidies = record { answer = answer; start = start; tidies = tidies }

-- what is shown of an add whose answer is worked out
module _ (word bytes : List ℕ) (stock : ℕ) (answer : Outcome) (after : List ℕ)
    (worked : (added : List ℕ) (outcome : Outcome) → AddPromise word stock bytes added outcome → (outcome ≡ answer) × (added ≡ after))
    (seen : List ℕ) (o : PreviewOutcome) (p : PreviewPromise word stock bytes seen o) where
  shown : (o ≡ preview_of answer) × (seen ≡ bytes)
  shown =
      let same = (worked (bytes_added o.answer bytes (stored_form word) stock) o.answer (foreseen word bytes stock o.answer p.answers)).0 in
      (p.tells ∙ ap preview_of same, p.bytes)

-- it fits only once the book is tidied: the start is the one that it then has, and not 28, where the records end
pub shelf_would_tidy : (seen : List ℕ) (o : PreviewOutcome) → PreviewPromise ukka.word 5 emptied seen o → (o ≡ shows (accepts_both 17 1) 17 true) × (seen ≡ emptied)
shelf_would_tidy = shown ukka.word emptied 5 (accepts_both 17 1) _ shelf_added

-- it fits exactly behind the last record, so that nothing would be tidied
pub shelf_would_fit : (seen : List ℕ) (o : PreviewOutcome) → PreviewPromise ukka.word 5 fitting seen o → (o ≡ shows (accepts_both 8 0) 8 false) × (seen ≡ fitting)
shelf_would_fit = shown ukka.word fitting 5 (accepts_both 8 0) _ shelf_exact

-- it fits not even then: 14 with the live length, which is no start
pub shelf_would_be_full : (seen : List ℕ) (o : PreviewOutcome) → PreviewPromise aforementioned.word 6 filled seen o
    → (o ≡ shows (refuses 14 28) 0 false) × (seen ≡ filled)
shelf_would_be_full = shown aforementioned.word filled 6 (refuses 14 28) _ shelf_full

-- the word is live already: 12 with the start of its record, which is none of a new one
pub shelf_already_live : (seen : List ℕ) (o : PreviewOutcome) → PreviewPromise ukka.word 6 filled seen o → (o ≡ shows (refuses 12 17) 0 false) × (seen ≡ filled)
shelf_already_live = shown ukka.word filled 6 (refuses 12 17) _ shelf_live

-- the buffer is no book
pub no_book_previewed : (seen : List ℕ) (o : PreviewOutcome) → PreviewPromise letter.word 6 (0 ∷ 7 ∷ []) seen o
    → (o ≡ shows (refuses 11 1) 0 false) × (seen ≡ 0 ∷ 7 ∷ [])
no_book_previewed = shown letter.word (0 ∷ 7 ∷ []) 6 (refuses 11 1) _ shelf_no_book

-- and the empty word, whatever the buffer is
pub no_word_previewed : (stock : ℕ) (bytes seen : List ℕ) (o : PreviewOutcome) → PreviewPromise [] stock bytes seen o → (o ≡ shows (refuses 8 0) 0 false) × (seen ≡ bytes)
no_word_previewed stock bytes seen o p = (p.tells ∙ ap preview_of (call_alike [] _ _ _ p.answers (word_refused (empty refl))), p.bytes)
