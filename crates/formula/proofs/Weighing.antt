-- What a final weighs beside the number of its letter, and the five weights that document 01 writes beside its words: these stay, whatever a key has.
-- Assumes nothing.
use mathlib.Core.Path.{◌≡◌, refl}
use mathlib.Core.Bool.{◌&&◌}
use mathlib.Core.List.{List, [], ◌∷◌}
use Prim.Native.Nat.{ℕ}
use lib.Dec.{T}
use Rattle.letters.specs.Choice.{pick}
use Rattle.letters.specs.Marks.{no_medial, no_vowel, vowel_ii, no_tone, visarga}
use Rattle.formula.specs.Syllable.{Final, no_final, plain, plain_pair, stacked, kinzi, great_sa, syllable, bare}
use Rattle.formula.specs.Record.{final_number_of, second_final_number_of}
use Rattle.formula.specs.Weighing.{final_weight_of, second_final_weight_of}
use Rattle.formula.specs.Earlier.{five_weights_of, five_weights}
use Rattle.formula.proofs.Lists.{same_lists}
use Rattle.formula.proofs.Words.{letter, university, england}

-- a final weighs the number of its letter
pub final_weighs : (f : Final) → final_number_of f ≡ final_weight_of f
final_weighs no_final = refl
final_weighs (plain c) = refl
final_weighs (plain_pair c d) = refl
final_weighs (stacked c) = refl
final_weighs kinzi = refl
final_weighs great_sa = refl

-- and so does a second
pub second_weighs : (f : Final) → second_final_number_of f ≡ second_final_weight_of f
second_weighs no_final = refl
second_weighs (plain c) = refl
second_weighs (plain_pair c d) = refl
second_weighs (stacked c) = refl
second_weighs kinzi = refl
second_weighs great_sa = refl

-- "1000: (13,0,0,0,0)" and the words beside it; the two nya letters, as heads and as finals, each with a weight of its own
pub five_right : T (same_lists (five_weights letter.row) ((13 ∷ 0 ∷ 0 ∷ 0 ∷ 0 ∷ []) ∷ [])
    && (same_lists (five_weights (bare 0x101E ∷ syllable 0x1019 no_medial vowel_ii no_final visarga ∷ [])) ((43 ∷ 0 ∷ 0 ∷ 0 ∷ 0 ∷ []) ∷ (38 ∷ 0 ∷ 0 ∷ 3 ∷ 2 ∷ []) ∷ [])
    && (same_lists (five_weights university.row) ((29 ∷ 0 ∷ 1 ∷ 0 ∷ 0 ∷ []) ∷ (13 ∷ 0 ∷ 0 ∷ 0 ∷ 0 ∷ []) ∷ (43 ∷ 0 ∷ 29 ∷ 11 ∷ 0 ∷ []) ∷ [])
    && (same_lists (five_weights england.row) ((46 ∷ 0 ∷ 5 ∷ 0 ∷ 0 ∷ []) ∷ (15 ∷ 0 ∷ 0 ∷ 0 ∷ 0 ∷ []) ∷ (41 ∷ 0 ∷ 21 ∷ 0 ∷ 0 ∷ []) ∷ [])
    && same_lists (five_weights (bare 0x1009 ∷ bare 0x100A ∷ syllable 0x1000 no_medial no_vowel (plain 0x1009) no_tone ∷ syllable 0x1000 no_medial no_vowel (plain 0x100A) no_tone ∷ []))
    ((22 ∷ 0 ∷ 0 ∷ 0 ∷ 0 ∷ []) ∷ (23 ∷ 0 ∷ 0 ∷ 0 ∷ 0 ∷ []) ∷ (13 ∷ 0 ∷ 10 ∷ 0 ∷ 0 ∷ []) ∷ (13 ∷ 0 ∷ 11 ∷ 0 ∷ 0 ∷ []) ∷ [])))))
unfolding five_weights_of pick
five_right = tt
