-- Document 01, "The word book" and the two tables of refusals, and document 02, "See an add before doing it": what each call on a book answers to the
-- word as it is handed in, and what each byte of the buffer is afterwards. Assumes nothing.
use Rattle.std.specs.Prelude.{◌≡◌, List, ◌++◌, ℕ, ◌≤◌, length, drop}
use Rattle.formula.specs.Limits.{limit}
use Rattle.refusals.specs.Outcome.{Outcome, accepts, accepts_both, absent, refuses}
use Rattle.storage.specs.Stored.{stored_form}
use Rattle.normaliser.specs.Normal.{StoreRefusedWithin, StoresWithin}
use Rattle.entries.specs.Entries.{entries}
use Rattle.entries.specs.Outcome.{add_of, remove_of}
use Rattle.planning.specs.Preview.{PreviewOutcome, preview_of}
use Rattle.book_change.specs.Written.{bytes_added, bytes_removed}

-- What is said of the word holds for any limit, and is used at that of document 01.

-- "Tests run in the order 1, 7, 8, 2, 3 or 4": the refusals of a word that is handed in with a book
pub data WordRefusedWithin (most : ℕ) (word : List ℕ) : ℕ → ℕ → Type 0 where
  -- "empty word, book calls only"
  empty : length word ≡ 0 → WordRefusedWithin most word 8 0
  -- 1 and 2 speak of the word as handed in, 3 and 4 of its stored form
  refused : {number place : ℕ} → 1 ≤ length word → StoreRefusedWithin most word number place → WordRefusedWithin most word number place

abbrev pub WordRefused : List ℕ → ℕ → ℕ → Type 0
WordRefused word = WordRefusedWithin limit word

-- a word that goes on to the book: not empty, and its stored form is a row of syllables
pub record WordStoredWithin (most : ℕ) (word : List ℕ) : Type 0 where
  pub some : 1 ≤ length word
  pub syllables : ℕ
  pub stores : StoresWithin most word syllables

abbrev pub WordStored : List ℕ → Type 0
WordStored word = WordStoredWithin limit word

-- the answer of a call: the refusal of the word, or else what the book answers to the word's stored form
pub data CallAnswersWithin (most : ℕ) (word : List ℕ) (answer : Outcome) : Outcome → Type 0 where
  word_refused : {number place : ℕ} → WordRefusedWithin most word number place → CallAnswersWithin most word answer (refuses number place)
  word_stored : WordStoredWithin most word → CallAnswersWithin most word answer answer

abbrev pub CallAnswers : List ℕ → Outcome → Outcome → Type 0
CallAnswers word answer = CallAnswersWithin limit word answer

-- what add answers, by the word, the stock number and the buffer as they are handed in
abbrev pub AddAnswers : List ℕ → ℕ → List ℕ → Outcome → Type 0
AddAnswers word stock bytes = CallAnswers word (add_of (entries bytes) (length bytes) (stored_form word))

-- the promise of add, with the buffer as it was and as it is
pub record AddPromise (word : List ℕ) (stock : ℕ) (before after : List ℕ) (outcome : Outcome) : Type 0 where
  pub answers : AddAnswers word stock before outcome
  pub bytes : after ≡ bytes_added outcome before (stored_form word) stock

-- the promise of preview, with the buffer as it was and as it is: "the answer that add gives on a copy of the book", and what is told beside it by that
-- answer; "The book is untouched"
pub record PreviewPromise (word : List ℕ) (stock : ℕ) (before after : List ℕ) (outcome : PreviewOutcome) : Type 0 where
  pub answers : AddAnswers word stock before outcome.answer
  pub tells : outcome ≡ preview_of outcome.answer
  pub bytes : after ≡ before

-- the promise of remove, with the buffer as it was and as it is
pub record RemovePromise (word before after : List ℕ) (outcome : Outcome) : Type 0 where
  pub answers : CallAnswers word (remove_of (entries before) (stored_form word)) outcome
  pub bytes : after ≡ bytes_removed outcome before

-- the stored form that goes on to the book stands at the front of the values, the rest untouched; an inner contract cites it
pub record FormAt (word before after : List ℕ) (count : ℕ) : Type 0 where
  pub stored : WordStored word
  pub long : count ≡ length (stored_form word)
  pub values : after ≡ stored_form word ++ drop count before

-- a word that is refused leaves the values as they are
pub record NoForm (word before after : List ℕ) (number place : ℕ) : Type 0 where
  pub refused : WordRefused word number place
  pub values : after ≡ before

abbrev pub EnteredFor : List ℕ → List ℕ → List ℕ → Outcome → Type 0
EnteredFor word before after (accepts count) = FormAt word before after count
EnteredFor word before after (accepts_both n m) = ⊥
EnteredFor word before after absent = ⊥
EnteredFor word before after (refuses number place) = NoForm word before after number place
