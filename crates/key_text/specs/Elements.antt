-- What stands between hyphens in a text, for any type of it: a value, or the weights of a syllable; and such elements with any text between them. Inner contracts cite this.
-- Assumes nothing.
use Rattle.std.specs.Prelude.{◌≡◌, List, [], ◌∷◌, ◌++◌, ℕ, zero, suc, length, map, get_or, refl}
use Rattle.formula.specs.Limits.{weight_count}
use Rattle.key_text.specs.Text.{hexadecimals_of, value_text, syllable_text_size, value_text_size}

-- the text of the element at a place of a list
abbrev pub text_at : {A : Type 0} → (A → List ℕ) → List A → ℕ → List ℕ
text_at text elements place = get_or (map text elements) place []

-- the weights of a syllable, by themselves
unfoldable pub weights_text : List ℕ → List ℕ
weights_text weights = hexadecimals_of weight_count weights 0

pub weights_length : (weights : List ℕ) → length (weights_text weights) ≡ syllable_text_size
unfolding weights_text
weights_length weights = refl

pub value_length : (value : ℕ) → length (value_text value) ≡ value_text_size
unfolding value_text
value_length value = refl

-- the elements behind the first, as many as the number says, each behind what stands between
abbrev pub further_joined : (ℕ → List ℕ) → List ℕ → ℕ → List ℕ
further_joined element between zero = []
further_joined element between (suc count) = further_joined element between count ++ (between ++ element (suc count))

-- the texts of so many elements with a text between them, and one hyphen for none
abbrev pub joined : (ℕ → List ℕ) → List ℕ → ℕ → List ℕ
joined element between zero = 0x2D ∷ []
joined element between (suc count) = element 0 ++ further_joined element between count
