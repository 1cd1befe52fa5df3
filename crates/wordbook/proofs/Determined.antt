-- The promise of each call on a book is met by one answer only, with one buffer: a word is refused in one way or it is stored, and what the book
-- then answers, and each byte of it, is a function of what was handed in. Assumes nothing.
use mathlib.Core.Path.{◌≡◌, refl, sym, ap, ◌∙◌}
use mathlib.Core.List.{List}
use Prim.Native.Nat.{ℕ}
use native.Mathlib.Omega.{arith}
use Rattle.refusals.specs.Outcome.{Outcome, refuses, outcome_by, outcome_of}
use Rattle.std.specs.declared.result.Result.{Result}
use Rattle.refusals.specs.declared.Refusal.{Refusal}
use Rattle.refusals.proofs.Laws.{counted_once}
use Rattle.refusals.proofs.Determined.{Same}
use Rattle.storage.specs.Stored.{stored_form}
use Rattle.normaliser.proofs.Determined.{store_refused_alike}
use Rattle.entries.specs.Entries.{entries}
use Rattle.entries.specs.Outcome.{check_of, find_of}
use Rattle.lookup.specs.declared.Found.{Found}
use Rattle.lookup.specs.Look.{found_told}
use Rattle.lookup.proofs.Told.{found_answer_once}
use Rattle.tidying.specs.Tidy.{TidyRight}
use Rattle.book_change.specs.Written.{bytes_added, bytes_removed}
use Rattle.ranking.specs.Rank.{rank_of}
use Rattle.wordbook.specs.Calls.{WordRefused, empty, refused, CallAnswers, word_refused, word_stored, AddPromise, RemovePromise}
use Rattle.wordbook.proofs.Laws.{word_clash}

module _ (word : List ℕ) where
  pub word_refused_alike : (n p m q : ℕ) → WordRefused word n p → WordRefused word m q → refuses n p ≡ refuses m q
  word_refused_alike n p m q (empty e) (empty f) = refl
  word_refused_alike n p m q (empty e) (refused h s) = let z : ⊥ = omega arith in absurd z
  word_refused_alike n p m q (refused h r) (empty f) = let z : ⊥ = omega arith in absurd z
  word_refused_alike n p m q (refused h r) (refused k s) = store_refused_alike word n p m q r s

  -- two outcomes of a call that the book answers alike are the same
  pub call_alike : (answer first second : Outcome) → CallAnswers word answer first → CallAnswers word answer second → first ≡ second
  call_alike answer first second (word_refused r) (word_refused s) = word_refused_alike _ _ _ _ r s
  call_alike answer first second (word_refused r) (word_stored t) = absurd (word_clash word _ _ r t)
  call_alike answer first second (word_stored t) (word_refused r) = absurd (word_clash word _ _ r t)
  call_alike answer first second (word_stored t) (word_stored u) = refl

module _ (book : List ℕ) where
  pub check_determined : (a b : Result ℕ Refusal) → outcome_of a ≡ check_of (entries book) → outcome_of b ≡ check_of (entries book) → a ≡ b
  check_determined a b e f = counted_once a b (e ∙ sym f)

  pub rank_determined : (number : ℕ) (a b : Result Found Refusal) → outcome_by found_told a ≡ rank_of (entries book) number → outcome_by found_told b ≡ rank_of (entries book) number → a ≡ b
  rank_determined number a b e f = found_answer_once a b (e ∙ sym f)

  pub find_determined : (word : List ℕ) (a b : Result Found Refusal) → CallAnswers word (find_of (entries book) (stored_form word)) (outcome_by found_told a)
      → CallAnswers word (find_of (entries book) (stored_form word)) (outcome_by found_told b) → a ≡ b
  find_determined word a b c d = found_answer_once a b (call_alike word (find_of (entries book) (stored_form word)) (outcome_by found_told a) (outcome_by found_told b) c d)

pub tidy_determined : (before after final : List ℕ) (first second : Result ℕ Refusal) → TidyRight before after (outcome_of first) → TidyRight before final (outcome_of second)
    → (first ≡ second) × (after ≡ final)
tidy_determined before after final first second p q = (counted_once first second (p.answer ∙ sym q.answer), p.bytes ∙ sym q.bytes)

module _ (word before after final : List ℕ) (first second : Outcome) where
  pub add_determined : (stock : ℕ) → AddPromise word stock before after first → AddPromise word stock before final second → Same first second after final
  add_determined stock p q =
      let same = call_alike word _ first second p.answers q.answers in
      record { outcome = same; output = p.bytes ∙ ap (λ (o : Outcome). bytes_added o before (stored_form word) stock) same ∙ sym q.bytes }

  pub remove_determined : RemovePromise word before after first → RemovePromise word before final second → Same first second after final
  remove_determined p q =
      let same = call_alike word _ first second p.answers q.answers in
      record { outcome = same; output = p.bytes ∙ ap (λ (o : Outcome). bytes_removed o before) same ∙ sym q.bytes }
