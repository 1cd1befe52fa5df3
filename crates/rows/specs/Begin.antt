-- Document 01, "The syllable": "A syllable's part of the word begins at its head or at 103F and ends before the next."
-- Where the parts of a row begin, and the test for it that sees a value and its next one. Assumes nothing.
use Rattle.std.specs.Prelude.{Bool, true, false, not, ◌&&◌, ◌||◌, List, [], ◌∷◌, ◌++◌, ℕ}
use Rattle.letters.specs.Letters.{is_consonant, is_killer, is_stacker, is_great_sa}
use Rattle.letters.specs.Weights.{is_head}

-- false for each value
abbrev pub no_beginnings : List ℕ → List Bool
no_beginnings [] = []
no_beginnings (x ∷ values) = false ∷ no_beginnings values

-- true for the first value of a part and false for each other
abbrev pub part_beginning : List ℕ → List Bool
part_beginning [] = []
part_beginning (x ∷ values) = true ∷ no_beginnings values

-- the places of the joined parts at which a part begins
abbrev pub beginnings : List (List ℕ) → List Bool
beginnings [] = []
beginnings (part ∷ parts) = part_beginning part ++ beginnings parts

-- "A plain final is that letter and 103A", and a stacked one is the letter "and then 1039": a C before x is a final letter
abbrev pub makes_final : ℕ → Bool
makes_final x = is_killer x || is_stacker x

-- the value x begins a syllable where next is the value after it: it is a head or 103F, and no C that next makes a final letter
abbrev pub begins : ℕ → ℕ → Bool
begins x next = (is_head x || is_great_sa x) && not (is_consonant x && makes_final next)

-- the first of these values, and 0 where there is none
abbrev pub first_value : List ℕ → ℕ
first_value [] = 0
first_value (x ∷ values) = x

-- the test at each place of a word
abbrev pub local_beginnings : List ℕ → List Bool
local_beginnings [] = []
local_beginnings (x ∷ word) = begins x (first_value word) ∷ local_beginnings word
