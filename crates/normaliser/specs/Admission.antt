-- Document 01, refusals 1 and 2: the tests that a word passes before anything is made of it.
-- Assumes nothing.
use Rattle.std.specs.Prelude.{◌≡◌, List, ℕ, ◌<◌, length}
use Rattle.formula.specs.Limits.{limit}
use Rattle.refusals.specs.Outcome.{Outcome, accepts, accepts_both, absent, refuses}
use Rattle.recogniser.specs.Answer.{Admissible, FirstForeignWithin}

-- 1: "more than 64 values"; 2: "a foreign value", at the place of "the first, in the word as handed in". For any limit, and used at that of document 01
pub data UnadmittedWithin (most : ℕ) (word : List ℕ) : ℕ → ℕ → Type 0 where
  too_long : most < length word → UnadmittedWithin most word 1 most
  foreign : {place : ℕ} → FirstForeignWithin most word place → UnadmittedWithin most word 2 place

abbrev pub Unadmitted : List ℕ → ℕ → ℕ → Type 0
Unadmitted word = UnadmittedWithin limit word

-- how many values a word has that passes both tests, or the first that refuses it; an inner contract cites it
abbrev pub AdmitAnswers : List ℕ → Outcome → Type 0
AdmitAnswers word (accepts n) = Admissible word × (n ≡ length word)
AdmitAnswers word (accepts_both n m) = ⊥
AdmitAnswers word absent = ⊥
AdmitAnswers word (refuses number place) = Unadmitted word number place
