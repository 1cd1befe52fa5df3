-- What is written weighs what document 01, "Weights", says: of each vowel, medial group and tone, by computing at every one of them.
-- Assumes nothing.
use mathlib.Core.Path.{◌≡◌, refl}
use mathlib.Core.Bool.{true, false}
use mathlib.Core.List.{List, [], ◌∷◌}
use Prim.Native.Nat.{ℕ}
use Rattle.letters.specs.Choice.{pick}
use Rattle.letters.specs.Marks.{neither, ya, ra, MedialGroup, group, Vowel, no_vowel, vowel_aa, vowel_i, vowel_ii, vowel_u, vowel_uu, vowel_e, vowel_ai, vowel_e_aa, vowel_e_aa_killer, vowel_am, vowel_i_u, vowel_u_am, ToneMark, no_tone, dot, visarga, vowel_text, tone_text}
use Rattle.letters.specs.Weights.{medial_set, medial_weight, medial_set_weight, vowel_weight, vowel_with, tone_weight, tone_weighed}
use Rattle.std.specs.declared.option.Option.{Option}
use Rattle.std.specs.declared.option.Option.TheVariants.{None, Some}

-- the vowel that is written as the vowel before and then x, by weight
abbrev pub vowel_then : Option ℕ → ℕ → Option ℕ
vowel_then (Some v) x = vowel_with v x
vowel_then None x = None

-- the vowel that is written as the vowel before and then these marks, by weight
abbrev pub vowel_through : Option ℕ → List ℕ → Option ℕ
vowel_through w [] = w
vowel_through w (x ∷ xs) = vowel_through (vowel_then w x) xs

pub vowel_written : (v : Vowel) → vowel_through (Some 0) (vowel_text v) ≡ Some (vowel_weight v)
unfolding pick
vowel_written no_vowel = refl
vowel_written (vowel_aa true) = refl
vowel_written (vowel_aa false) = refl
vowel_written vowel_i = refl
vowel_written vowel_ii = refl
vowel_written vowel_u = refl
vowel_written vowel_uu = refl
vowel_written vowel_e = refl
vowel_written vowel_ai = refl
vowel_written (vowel_e_aa true) = refl
vowel_written (vowel_e_aa false) = refl
vowel_written (vowel_e_aa_killer true) = refl
vowel_written (vowel_e_aa_killer false) = refl
vowel_written vowel_am = refl
vowel_written vowel_i_u = refl
vowel_written vowel_u_am = refl

pub medial_written : (g : MedialGroup) → medial_set_weight (medial_set g) ≡ Some (medial_weight g)
unfolding pick
medial_written (group neither false false) = refl
medial_written (group neither false true) = refl
medial_written (group neither true false) = refl
medial_written (group neither true true) = refl
medial_written (group ya false false) = refl
medial_written (group ya false true) = refl
medial_written (group ya true false) = refl
medial_written (group ya true true) = refl
medial_written (group ra false false) = refl
medial_written (group ra false true) = refl
medial_written (group ra true false) = refl
medial_written (group ra true true) = refl

-- the weight of the tone that is written so: nothing, or one value
abbrev pub tone_of : List ℕ → Option ℕ
tone_of [] = Some 0
tone_of (x ∷ []) = tone_weighed x
tone_of (x ∷ (y ∷ ys)) = None

pub tone_written : (t : ToneMark) → tone_of (tone_text t) ≡ Some (tone_weight t)
unfolding pick
tone_written no_tone = refl
tone_written dot = refl
tone_written visarga = refl
