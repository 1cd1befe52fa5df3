-- The promises for a word that is normalised first are met by one answer only: the tests exclude one another, and each of them fixes its place.
-- Assumes nothing.
use mathlib.Core.Path.{◌≡◌, refl, ap, sym, ◌∙◌}
use mathlib.Core.List.{List}
use Prim.Native.Nat.{ℕ}
use native.Mathlib.Omega.{arith}
use lib.ListN.{length}
use Rattle.refusals.specs.Outcome.{Outcome, accepts, accepts_both, absent, refuses}
use Rattle.refusals.proofs.Determined.{Same, writes_determined}
use Rattle.recogniser.specs.Answer.{Admissible, RefusedWith, too_long, foreign}
use Rattle.recogniser.proofs.Answered.{refused_no_row}
use Rattle.recogniser.proofs.Determined.{admissible_no_foreign, refused_alike}
use Rattle.storage.specs.Stored.{stored_form}
use Rattle.normaliser.specs.Admission.{Unadmitted, too_long as word_too_long, foreign as word_foreign}
use Rattle.normaliser.specs.Normal.{StoreRefusedWith, unadmitted, outcome, Stores, StoreAnswers, NormaliseRight}
use Rattle.normaliser.specs.Form.{FormRight}
use Rattle.normaliser.specs.Typed.{TypedAnswers}

module _ (word : List ℕ) where
  -- refusals 1 and 2
  read_refused : (n p : ℕ) → Unadmitted word n p → RefusedWith word n p
  read_refused n p (word_too_long h) = too_long h
  read_refused n p (word_foreign f) = foreign f

  pub unadmitted_alike : (n p m q : ℕ) → Unadmitted word n p → Unadmitted word m q → refuses n p ≡ refuses m q
  unadmitted_alike n p m q u v = refused_alike word n p m q (read_refused n p u) (read_refused m q v)

  pub admitted_not : (n p : ℕ) → Admissible word → Unadmitted word n p → ⊥
  admitted_not n p a (word_too_long h) = let k = a.short in omega arith
  admitted_not n p a (word_foreign f) = admissible_no_foreign word p a f

  pub store_refused_alike : (n p m q : ℕ) → StoreRefusedWith word n p → StoreRefusedWith word m q → refuses n p ≡ refuses m q
  store_refused_alike n p m q (unadmitted u) (unadmitted v) = unadmitted_alike n p m q u v
  store_refused_alike n p m q (unadmitted u) (outcome b s) = absurd (admitted_not n p b u)
  store_refused_alike n p m q (outcome a r) (unadmitted v) = absurd (admitted_not m q a v)
  store_refused_alike n p m q (outcome a r) (outcome b s) = refused_alike (stored_form word) n p m q r s

  pub stored_not_refused : (n m q : ℕ) → Stores word n → StoreRefusedWith word m q → ⊥
  stored_not_refused n m q s (unadmitted u) = admitted_not m q s.admissible u
  stored_not_refused n m q s (outcome b r) = refused_no_row (stored_form word) m q r s.reads.admissible s.reads.row s.reads.gives

  pub stores_alike : (n m : ℕ) → Stores word n → Stores word m → n ≡ m
  stores_alike n m s t = sym s.reads.count ∙ sym (ap length (s.reads.only t.reads.row t.reads.gives)) ∙ t.reads.count

  -- two answers that meet the promise are the same in document 01's terms
  pub store_answers_alike : (o r : Outcome) → StoreAnswers word o → StoreAnswers word r → o ≡ r
  store_answers_alike (accepts n) (accepts m) a b = ap accepts (stores_alike n m a b)
  store_answers_alike (accepts n) (accepts_both m k) a b = absurd b
  store_answers_alike (accepts n) absent a b = absurd b
  store_answers_alike (accepts n) (refuses m q) a b = absurd (stored_not_refused n m q a b)
  store_answers_alike (accepts_both n k) r a b = absurd a
  store_answers_alike absent r a b = absurd a
  store_answers_alike (refuses n p) (accepts m) a b = absurd (stored_not_refused m n p b a)
  store_answers_alike (refuses n p) (accepts_both m k) a b = absurd b
  store_answers_alike (refuses n p) absent a b = absurd b
  store_answers_alike (refuses n p) (refuses m q) a b = store_refused_alike n p m q a b

  -- two outcomes of normalising the word to the same output are the same, and so is what they leave there
  pub normalise_determined : (before after final : List ℕ) (first second : Outcome) → NormaliseRight word before after first
      → NormaliseRight word before final second → Same first second after final
  normalise_determined =
      writes_determined (StoreRefusedWith word) (Stores word) (λ n. stored_form word) (λ n. length (stored_form word)) store_refused_alike stores_alike
      stored_not_refused

  -- and so for the stored form of any word
  pub form_determined : (before after final : List ℕ) (first second : Outcome) → FormRight word before after first → FormRight word before final second
      → Same first second after final
  form_determined =
      writes_determined {A = Unit {0}} (Unadmitted word) (λ _. Admissible word) (λ _. stored_form word) (λ _. length (stored_form word)) unadmitted_alike
      (λ a b s t. refl) (λ _ n p s u. admitted_not n p s u)

  -- two answers for the place where a value was typed are the same
  pub typed_alike : (place : ℕ) (o r : Outcome) → TypedAnswers word place o → TypedAnswers word place r → o ≡ r
  typed_alike place (accepts p) (accepts q) a b = let t = a.typed in let u = b.typed in cc
  typed_alike place (accepts p) (accepts_both q k) a b = absurd b
  typed_alike place (accepts p) absent a b = let t = a.typed in let u = b.nothing in cc
  typed_alike place (accepts p) (refuses m q) a b = absurd (admitted_not m q a.admissible b)
  typed_alike place (accepts_both p k) r a b = absurd a
  typed_alike place absent (accepts q) a b = let t = a.nothing in let u = b.typed in cc
  typed_alike place absent (accepts_both q k) a b = absurd b
  typed_alike place absent absent a b = refl
  typed_alike place absent (refuses m q) a b = absurd (admitted_not m q a.admissible b)
  typed_alike place (refuses n p) (accepts q) a b = absurd (admitted_not n p b.admissible a)
  typed_alike place (refuses n p) (accepts_both q k) a b = absurd b
  typed_alike place (refuses n p) absent a b = absurd (admitted_not n p b.admissible a)
  typed_alike place (refuses n p) (refuses m q) a b = unadmitted_alike n p m q a b
