-- Document 01, "Storage order", rules 1 and 2: the form in which a word is stored.
-- Assumes nothing.
use Rattle.std.specs.Prelude.{Bool, ◌&&◌, ◌||◌, List, [], ◌∷◌, ℕ, suc, eqb, ltb}
use Rattle.letters.specs.Choice.{pick}
use Rattle.letters.specs.Letters.{is_medial, is_vowel_mark, is_tone, is_killer}

-- "medials, vowel marks, 103A and tones"
unfoldable pub is_run_mark : ℕ → Bool
is_run_mark x = is_medial x || (is_vowel_mark x || (is_killer x || is_tone x))

-- "in the order 103B 103C 103D 103E 1031 102D 102E 1032 102F 1030 102B 102C 1036 103A 1037 1038"
abbrev pub storage_order : List ℕ
storage_order =
    0x103B ∷ 0x103C ∷ 0x103D ∷ 0x103E ∷ 0x1031 ∷ 0x102D ∷ 0x102E ∷ 0x1032 ∷ 0x102F ∷ 0x1030 ∷ 0x102B ∷ 0x102C ∷ 0x1036 ∷ 0x103A ∷ 0x1037 ∷ 0x1038 ∷ []

-- the place of x in a list, from 0; the list's length where it is not in it
abbrev pub place_in : List ℕ → ℕ → ℕ
place_in [] x = 0
place_in (y ∷ list) x = pick (eqb x y) 0 (suc (place_in list x))

-- the place of a value in that order
unfoldable pub rank : ℕ → ℕ
rank x = place_in storage_order x

-- x goes behind y where both are of one run: y is the earlier of the two in that order
unfoldable pub goes_behind : ℕ → ℕ → Bool
goes_behind x y = is_run_mark x && (is_run_mark y && ltb (rank y) (rank x))

-- rule 1 over anything that has a value: the values of a word, or the places where they were typed
module _ {A : Type 0} (value : A → ℕ) where
  -- x put before what is sorted: it goes behind as many as it has to
  abbrev pub insert_by : A → List A → List A
  insert_by x [] = x ∷ []
  insert_by x (y ∷ sorted) = pick (goes_behind (value x) (value y)) (y ∷ insert_by x sorted) (x ∷ y ∷ sorted)

  -- "Each unbroken run of medials, vowel marks, 103A and tones is sorted": each is put before what follows it, sorted.
  -- `SortedRuns` says what that comes to, and that nothing else moves.
  abbrev pub sort_runs_by : List A → List A
  sort_runs_by [] = []
  sort_runs_by (x ∷ word) = insert_by x (sort_runs_by word)

-- a value is its own value
abbrev pub itself : ℕ → ℕ
itself x = x

-- a value put before sorted values
abbrev pub insert : ℕ → List ℕ → List ℕ
insert = insert_by itself

-- rule 1 over the values of a word
abbrev pub sort_runs : List ℕ → List ℕ
sort_runs = sort_runs_by itself

-- "Then 1025 102E becomes 1026"
unfoldable pub makes_long_vowel : ℕ → ℕ → Bool
makes_long_vowel x y = eqb x 0x1025 && eqb y 0x102E

-- "and a 1025 before 103A or 1039 becomes 1009"
unfoldable pub makes_letter : ℕ → ℕ → Bool
makes_letter x y = eqb x 0x1025 && (eqb y 0x103A || eqb y 0x1039)

-- rule 2 from the first value to the last, by neighbours
abbrev pub compose : List ℕ → List ℕ
compose [] = []
compose (x ∷ []) = x ∷ []
compose (x ∷ y ∷ word) = pick (makes_long_vowel x y) (0x1026 ∷ compose word) (pick (makes_letter x y) 0x1009 x ∷ compose (y ∷ word))

-- "1. Each unbroken run [..] is sorted [..] 2. Then [..]"
unfoldable pub stored_form : List ℕ → List ℕ
stored_form word = compose (sort_runs word)
