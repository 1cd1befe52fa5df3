-- What the answers for a word mean, by the formula alone (document 01, "The syllable" and the refusals 1 to 4).
-- Assumes nothing.
use Rattle.std.specs.Prelude.{◌≡◌, Bool, true, false, List, ℕ, ◌≤◌, ◌<◌, T, length, get_or}
use Rattle.letters.specs.Letters.{is_admitted}
use Rattle.formula.specs.Limits.{limit}
use Rattle.formula.specs.Row.{Row, Gives, Viable, LongestViable}
use Rattle.refusals.specs.Outcome.{Outcome, accepts, accepts_both, absent, refuses}

-- What is said of words holds for any limit, and is used at that of document 01.

-- a word that passes the tests 1 and 2
pub record AdmissibleWithin (most : ℕ) (word : List ℕ) : Type 0 where
  pub short : length word ≤ most
  pub admitted : (place : ℕ) → place < length word → T (is_admitted (get_or word place 0))

abbrev pub Admissible : List ℕ → Type 0
Admissible word = AdmissibleWithin limit word

-- refusal 2: "a foreign value", at the place of "the first, in the word as handed in"
pub record FirstForeignWithin (most : ℕ) (word : List ℕ) (place : ℕ) : Type 0 where
  pub short : length word ≤ most
  pub within : place < length word
  pub foreign : T (is_admitted (get_or word place 0)) → ⊥
  pub before : (earlier : ℕ) → earlier < place → T (is_admitted (get_or word earlier 0))

abbrev pub FirstForeign : List ℕ → ℕ → Type 0
FirstForeign word place = FirstForeignWithin limit word place

-- each refusal of a word under its condition, in the order of the tests
pub data RefusedWithin (most : ℕ) (word : List ℕ) : ℕ → ℕ → Type 0 where
  too_long : most < length word → RefusedWithin most word 1 most
  foreign : {place : ℕ} → FirstForeignWithin most word place → RefusedWithin most word 2 place
  no_continuation : {place : ℕ} → AdmissibleWithin most word → (Viable word → ⊥) → LongestViable word place → RefusedWithin most word 3 place
  unfinished : AdmissibleWithin most word → ((row : Row) → Gives row word → ⊥) → Viable word → RefusedWithin most word 4 (length word)

abbrev pub RefusedWith : List ℕ → ℕ → ℕ → Type 0
RefusedWith word number place = RefusedWithin limit word number place

-- the word is a row of n syllables: some row gives it, and only one
pub record ReadsWithin (most : ℕ) (word : List ℕ) (n : ℕ) : Type 0 where
  pub admissible : AdmissibleWithin most word
  pub row : Row
  pub gives : Gives row word
  pub only : (other : Row) → Gives other word → other ≡ row
  pub count : length row ≡ n

abbrev pub Reads : List ℕ → ℕ → Type 0
Reads word n = ReadsWithin limit word n

abbrev pub AnswersWithin : ℕ → List ℕ → Outcome → Type 0
AnswersWithin most word (accepts n) = ReadsWithin most word n
AnswersWithin most word (accepts_both m n) = ⊥
AnswersWithin most word absent = ⊥
AnswersWithin most word (refuses number place) = RefusedWithin most word number place

abbrev pub Answers : List ℕ → Outcome → Type 0
Answers word outcome = AnswersWithin limit word outcome

-- some row gives the word, and only one
pub record ReadableWithin (most : ℕ) (word : List ℕ) : Type 0 where
  pub admissible : AdmissibleWithin most word
  pub row : Row
  pub gives : Gives row word
  pub only : (other : Row) → Gives other word → other ≡ row

abbrev pub Readable : List ℕ → Type 0
Readable word = ReadableWithin limit word

-- the promise of a test for rows
abbrev pub RowTest : List ℕ → Bool → Type 0
RowTest word true = Readable word
RowTest word false = Readable word → ⊥
