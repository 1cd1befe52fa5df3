-- Document 01, "Weights", and document 02, E5: the six weights of a syllable, and those of a row.
-- Assumes nothing.
use Rattle.std.specs.Prelude.{List, [], ◌∷◌, ℕ, ◌+◌}
use Rattle.letters.specs.Weights.{head_weight, independent_vowel_weight, medial_weight, vowel_weight, final_weight, tone_weight}
use Rattle.formula.specs.Syllable.{Final, no_final, plain, plain_pair, stacked, kinzi, great_sa, Syllable, syllable}
use Rattle.formula.specs.Row.{Row}

-- "whichever form"; "Absent is 0"
abbrev pub final_weight_of : Final → ℕ
final_weight_of no_final = 0
final_weight_of (plain c) = final_weight c
final_weight_of (plain_pair c d) = final_weight c
final_weight_of (stacked c) = final_weight c
final_weight_of kinzi = final_weight 0x1004
final_weight_of great_sa = final_weight 0x101E

-- the weight of the second final
abbrev pub second_final_weight_of : Final → ℕ
second_final_weight_of no_final = 0
second_final_weight_of (plain c) = 0
second_final_weight_of (plain_pair c d) = final_weight d
second_final_weight_of (stacked c) = 0
second_final_weight_of kinzi = 0
second_final_weight_of great_sa = 0

-- "Five weights a syllable, compared in this order: head, medial, final, vowel, tone.", and "a sixth weight, which stands and is compared straight
-- after the first final". "An I has head 46 and a vowel weight"; it carries no vowel of its own, and the heads that carry one have no such weight.
unfoldable pub weights_of : Syllable → List ℕ
weights_of (syllable h m v f t) =
    head_weight h ∷ medial_weight m ∷ final_weight_of f ∷ second_final_weight_of f ∷ (independent_vowel_weight h + vowel_weight v) ∷ tone_weight t ∷ []

-- the weights of a row, syllable by syllable
abbrev pub weights : Row → List (List ℕ)
weights [] = []
weights (s ∷ row) = weights_of s ∷ weights row
