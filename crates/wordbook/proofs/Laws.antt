-- The word book as a map, by the promises of its calls alone: find after add, find after remove, and every other word.
-- A word that is not refused is the one that its stored form is, so the laws of stored words carry over.
-- Assumes nothing.
use mathlib.Core.Path.{◌≡◌, refl, sym, subst, ◌∙◌}
use mathlib.Core.List.{List}
use Prim.Native.Nat.{ℕ, ◌<◌}
use native.Mathlib.Omega.{arith}
use Rattle.refusals.specs.Outcome.{Outcome, accepts, accepts_both, absent, refuses}
use Rattle.storage.specs.Stored.{stored_form}
use Rattle.normaliser.proofs.Determined.{stored_not_refused}
use Rattle.entries.specs.Entries.{entries}
use Rattle.entries.specs.Outcome.{finds, start_moved, find_of}
use Rattle.entries.proofs.Bytes.{Bytes}
use Rattle.book_change.specs.Written.{start_ready, AddRight, RemoveRight}
use Rattle.book_change.proofs.Laws.{Added, added, find_added, find_others, Removed, removed, find_removed, find_kept}
use Rattle.wordbook.specs.Calls.{WordRefused, empty, refused, WordStored, CallAnswers, word_refused, word_stored, AddPromise, RemovePromise}
use Rattle.wordbook.proofs.Stored.{stored_storable}

-- no word is both refused and stored
pub word_clash : (word : List ℕ) (number place : ℕ) → WordRefused word number place → WordStored word → ⊥
word_clash word number place (empty e) s = let h = s.some in omega arith
word_clash word number place (refused h r) s = stored_not_refused word s.syllables number place s.stores r

-- the answer to a word that is stored is the book's
pub stored_answer : (word : List ℕ) (answer outcome : Outcome) → WordStored word → CallAnswers word answer outcome → outcome ≡ answer
stored_answer word answer outcome s (word_refused r) = absurd (word_clash word _ _ r s)
stored_answer word answer outcome s (word_stored t) = refl

-- a call that is accepted had a word that is stored
abbrev Accepted : Outcome → Type 0
Accepted (accepts first) = Unit {0}
Accepted (accepts_both first second) = Unit {0}
Accepted absent = Unit {0}
Accepted (refuses number place) = ⊥

placed_answer : (word : List ℕ) (answer outcome : Outcome) → Accepted outcome → CallAnswers word answer outcome → WordStored word × (outcome ≡ answer)
placed_answer word answer outcome a (word_refused r) = absurd a
placed_answer word answer outcome a (word_stored s) = (s, refl)

module _ (word before after : List ℕ) (stock start tidies : ℕ) (small : Bytes before) (fits : stock < 4294967296)
    (p : AddPromise word stock before after (accepts_both start tidies)) where
  pub add_stored : WordStored word
  add_stored = (placed_answer word _ (accepts_both start tidies) tt p.answers).0

  pub add_right : AddRight (stored_form word) stock before after (accepts_both start tidies)
  add_right = record { answer = (placed_answer word _ (accepts_both start tidies) tt p.answers).1; bytes = p.bytes }

  -- after add the buffer is a book, with one entry more at its end
  pub add_makes_book : Added before after (stored_form word) stock start tidies
  add_makes_book = added before after (stored_form word) stock start tidies small (stored_storable word add_stored) fits add_right

  -- find after add gives what was added, for any word that is stored the same
  pub find_after_add : (same : List ℕ) (answer : Outcome) → WordStored same → stored_form same ≡ stored_form word
      → CallAnswers same (find_of (entries after) (stored_form same)) answer → answer ≡ finds start stock
  find_after_add same answer s e c =
      stored_answer same _ answer s c
      ∙ rw e (find_added before after (stored_form word) stock start tidies small (stored_storable word add_stored) fits add_right)

  -- and for every other word what is right was right before, where add tidied at the start that its record then has
  pub find_others_after_add : (other : List ℕ) (answer : Outcome) → (stored_form other ≡ stored_form word → ⊥)
      → CallAnswers other (find_of (entries before) (stored_form other)) answer
      → CallAnswers other (find_of (entries after) (stored_form other)) (start_moved (start_ready tidies (entries before)) answer)
  find_others_after_add other answer n (word_refused r) = word_refused r
  find_others_after_add other answer n (word_stored s) =
      subst (CallAnswers other (find_of (entries after) (stored_form other)))
      (find_others before after (stored_form word) stock start tidies small (stored_storable word add_stored) fits add_right (stored_form other) n) (word_stored s)

-- where add did not tidy, at the start that it had
pub find_others_untidied : (word before after : List ℕ) (stock start : ℕ) → Bytes before → stock < 4294967296
    → AddPromise word stock before after (accepts_both start 0) → (other : List ℕ) (answer : Outcome) → (stored_form other ≡ stored_form word → ⊥)
    → CallAnswers other (find_of (entries before) (stored_form other)) answer → CallAnswers other (find_of (entries after) (stored_form other)) answer
find_others_untidied word before after stock start small fits p other answer n c =
    subst (CallAnswers other (find_of (entries after) (stored_form other))) (stays answer)
    (find_others_after_add word before after stock start 0 small fits p other answer n c)
  where
    stays : (o : Outcome) → start_moved (start_ready 0 (entries before)) o ≡ o
    stays (accepts first) = refl
    stays (accepts_both first second) = refl
    stays absent = refl
    stays (refuses number place) = refl

module _ (word before after : List ℕ) (start : ℕ) (small : Bytes before) (p : RemovePromise word before after (accepts start)) where
  pub remove_right : RemoveRight (stored_form word) before after (accepts start)
  remove_right = record { answer = (placed_answer word _ (accepts start) tt p.answers).1; bytes = p.bytes }

  -- after remove the buffer is a book, with the word's entry removed
  pub remove_makes_book : Removed before after (stored_form word) start
  remove_makes_book = removed before after (stored_form word) start small remove_right

  -- find after remove is 13, for any word that is stored the same
  pub find_after_remove : (same : List ℕ) (answer : Outcome) → WordStored same → stored_form same ≡ stored_form word
      → CallAnswers same (find_of (entries after) (stored_form same)) answer → answer ≡ refuses 13 0
  find_after_remove same answer s e c =
      stored_answer same _ answer s c ∙ rw e (find_removed before after (stored_form word) start small remove_right)

  -- and for every other word what is right was right before
  pub find_others_after_remove : (other : List ℕ) (answer : Outcome) → (stored_form other ≡ stored_form word → ⊥)
      → CallAnswers other (find_of (entries before) (stored_form other)) answer → CallAnswers other (find_of (entries after) (stored_form other)) answer
  find_others_after_remove other answer n c =
      subst (λ (o : Outcome). CallAnswers other o answer)
      (sym (find_kept before after (stored_form word) start small remove_right (stored_form other) n)) c
