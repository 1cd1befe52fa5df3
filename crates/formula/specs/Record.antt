-- Document 01, "Syllable records", and document 02, E5: the eight bytes of a syllable.
-- Assumes nothing.
use Rattle.std.specs.Prelude.{List, [], ◌∷◌, ◌++◌, ℕ, ◌-◌}
use Rattle.letters.specs.Weights.{medial_weight, vowel_weight, vowel_tall, final_number, tone_weight}
use Rattle.formula.specs.Syllable.{Final, no_final, plain, plain_pair, stacked, kinzi, great_sa, Syllable, syllable}
use Rattle.formula.specs.Row.{Row}

-- the number of a final's letter; "Absent is 0"
abbrev pub final_number_of : Final → ℕ
final_number_of no_final = 0
final_number_of (plain c) = final_number c
final_number_of (plain_pair c d) = final_number c
final_number_of (stacked c) = final_number c
final_number_of kinzi = final_number 0x1004
final_number_of great_sa = final_number 0x101E

-- the number of the letter of the second final
abbrev pub second_final_number_of : Final → ℕ
second_final_number_of no_final = 0
second_final_number_of (plain c) = 0
second_final_number_of (plain_pair c d) = final_number d
second_final_number_of (stacked c) = 0
second_final_number_of kinzi = 0
second_final_number_of great_sa = 0

-- "Link is 0 none, 1 plain, 2 stacked or kinzi, 3 great sa."; with a second final "its link stays 1"
abbrev pub link_of : Final → ℕ
link_of no_final = 0
link_of (plain c) = 1
link_of (plain_pair c d) = 1
link_of (stacked c) = 2
link_of kinzi = 2
link_of great_sa = 3

-- "head minus 1000; medial weight; vowel weight; 1 for a tall AA, else 0; final weight; link; tone weight", and
-- "a second final weight after the first"
unfoldable pub record_of : Syllable → List ℕ
record_of (syllable h m v f t) =
    (h - 0x1000) ∷ medial_weight m ∷ vowel_weight v ∷ vowel_tall v ∷ final_number_of f ∷ second_final_number_of f ∷ link_of f ∷ tone_weight t ∷ []

-- the place of the link among them
abbrev pub link_place : ℕ
link_place = 6

-- the row as a list of bytes, "a writer's row has eight bytes a syllable", in word order
abbrev pub record_bytes : Row → List ℕ
record_bytes [] = []
record_bytes (s ∷ row) = record_of s ++ record_bytes row
