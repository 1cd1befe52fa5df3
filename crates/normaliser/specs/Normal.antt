-- Document 01, "Storage order": the stored form of a word, which "must be a row of syllables, else the word is refused, with a place in
-- that outcome". Assumes nothing.
use Rattle.std.specs.Prelude.{◌≡◌, List, ℕ, length}
use Rattle.formula.specs.Limits.{limit}
use Rattle.formula.specs.Held.{word_of}
use Rattle.formula.specs.declared.Word.{Word}
use Rattle.refusals.specs.Refusal.{number_of, place_of}
use Rattle.refusals.specs.Outcome.{Outcome, accepts, accepts_both, absent, refuses}
use Rattle.refusals.specs.Output.{Writes}
use Rattle.refusals.specs.declared.Refusal.{Refusal}
use Rattle.std.specs.declared.result.Result.{Result}
use Rattle.std.specs.declared.result.Result.TheVariants.{Ok, Err}
use Rattle.recogniser.specs.Answer.{AdmissibleWithin, RefusedWithin, ReadsWithin}
use Rattle.recogniser.specs.Concluded.{AdmittedTo}
use Rattle.storage.specs.Stored.{stored_form}
use Rattle.normaliser.specs.Admission.{UnadmittedWithin}

-- the refusals of a word that is normalised first: 1 and 2 speak of the word as handed in, 3 and 4 of its stored form
pub data StoreRefusedWithin (most : ℕ) (word : List ℕ) : ℕ → ℕ → Type 0 where
  unadmitted : {number place : ℕ} → UnadmittedWithin most word number place → StoreRefusedWithin most word number place
  outcome : {number place : ℕ} → AdmissibleWithin most word → RefusedWithin most (stored_form word) number place → StoreRefusedWithin most word number place

abbrev pub StoreRefusedWith : List ℕ → ℕ → ℕ → Type 0
StoreRefusedWith word = StoreRefusedWithin limit word

-- the stored form is a row of n syllables
pub record StoresWithin (most : ℕ) (word : List ℕ) (n : ℕ) : Type 0 where
  pub admissible : AdmissibleWithin most word
  pub reads : ReadsWithin most (stored_form word) n

abbrev pub Stores : List ℕ → ℕ → Type 0
Stores word = StoresWithin limit word

abbrev pub StoreAnswers : List ℕ → Outcome → Type 0
StoreAnswers word (accepts n) = Stores word n
StoreAnswers word (accepts_both n m) = ⊥
StoreAnswers word absent = ⊥
StoreAnswers word (refuses number place) = StoreRefusedWith word number place

-- the promise of the normaliser, with the output as it was and as it is: the stored form, and how many values it has
abbrev pub NormaliseRight : List ℕ → List ℕ → List ℕ → Outcome → Type 0
NormaliseRight word = Writes (StoreRefusedWith word) (Stores word) (λ n. stored_form word) (λ n. length (stored_form word))

-- inner contracts cite what follows

-- the word's stored form by value, which is a row of n syllables
pub record HoldsForm (word : List ℕ) (held : Word) : Type 0 where
  pub count : ℕ
  pub stores : Stores word count
  pub is_form : held ≡ word_of (stored_form word)

-- the promise of a stored word by value
abbrev pub NormalRight : List ℕ → Result Word Refusal → Type 0
NormalRight word (Ok held) = HoldsForm word held
NormalRight word (Err refusal) = StoreRefusedWith word (number_of refusal) (place_of refusal)

-- the refusal is the same, but for a foreign value: that is the first of the word
pub record HandedIn (word : List ℕ) (refusal answer : Refusal) : Type 0 where
  pub same : (number_of refusal ≡ 2 → ⊥) → answer ≡ refusal
  pub first : number_of refusal ≡ 2 → (number_of answer ≡ 2) × AdmittedTo word 0 (place_of answer)
