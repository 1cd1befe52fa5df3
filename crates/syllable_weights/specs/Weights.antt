-- The weights of a packed syllable. `weights_packed` shows that they are those of document 01, "Weights".
-- Inner contracts cite it; no public promise does. Assumes nothing.
use Rattle.std.specs.Prelude.{List, [], ◌∷◌, ℕ, ◌+◌, get_or}
use Rattle.letters.specs.Weights.{head_weight, independent_vowel_weight, medial_table}
use Rattle.syllables.specs.Parts.{head_part, medial_part, final_part, vowel_part, tone_part, second_final_part}

-- head, medial, final, second final, vowel, tone; a head that is an I has a vowel weight of its own, and carries no vowel
unfoldable pub weights_by : ℕ → List ℕ
weights_by packed =
    head_weight (0x1000 + head_part packed)
    ∷ get_or medial_table (medial_part packed) 0
    ∷ final_part packed
    ∷ second_final_part packed
    ∷ (independent_vowel_weight (0x1000 + head_part packed) + vowel_part packed)
    ∷ tone_part packed
    ∷ []
