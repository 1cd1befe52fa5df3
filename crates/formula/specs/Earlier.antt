-- The formula as it was, told inside that of today: the rows of document 01, and those that document 02, E2, made of them until E5.
-- A word that was readable then is one that such a row gives. Assumes nothing.
use Rattle.std.specs.Prelude.{◌≡◌, Bool, true, false, ◌&&◌, ◌||◌, List, [], ◌∷◌, ℕ, ◌+◌, T}
use Rattle.letters.specs.Letters.{is_consonant}
use Rattle.letters.specs.Weights.{is_head, range_weight, independent_vowel_weight, medial_weight, vowel_weight, tone_weight}
use Rattle.formula.specs.Syllable.{Final, no_final, plain, plain_pair, stacked, kinzi, great_sa, Syllable, syllable, final_of, is_no_medial, is_no_vowel, is_no_final, is_no_tone, is_final, takes_tone, is_syllable}
use Rattle.formula.specs.Row.{Row, is_row_of, join}
use Rattle.formula.specs.Record.{final_number_of}

pub data Edition : Type 0 where
  -- document 01; with the finals of independent letters, document 02, E2
  base independent_finals : Edition

-- "At most 64 code values make a word.", in each of them
abbrev pub limit_in : Edition → ℕ
limit_in base = 64
limit_in independent_finals = 64

-- "at most one [..] final": all but a second one
abbrev pub is_single : Final → Bool
is_single no_final = true
is_single (plain c) = true
is_single (plain_pair c d) = false
is_single (stacked c) = true
is_single kinzi = true
is_single great_sa = true

-- "The head is a C." "Each I, N, P or S is a syllable alone and carries nothing."; and then every syllable of today with one final at most
unfoldable pub is_syllable_in : Edition → Syllable → Bool
is_syllable_in base (syllable h m v f t) =
    is_head h
    && ((is_consonant h || (is_no_medial m && (is_no_vowel v && (is_no_final f && is_no_tone t)))) && (is_single f && (is_final f && takes_tone f t)))
is_syllable_in independent_finals s = is_syllable s && is_single (final_of s)

abbrev pub IsRowIn : Edition → Row → Type 0
IsRowIn edition row = T (is_row_of (is_syllable_in edition) no_final row)

-- a row of the edition gives the word
pub record GivesIn (edition : Edition) (row : Row) (word : List ℕ) : Type 0 where
  pub is_row : IsRowIn edition row
  pub joined : join row ≡ word

-- "Five weights a syllable, compared in this order: head, medial, final, vowel, tone.", by the ranges of heads and the numbers of final letters that
-- document 01 weighs by; what a key of today has for a head or a final does not stand here
unfoldable pub five_weights_of : Syllable → List ℕ
five_weights_of (syllable h m v f t) = range_weight h ∷ medial_weight m ∷ final_number_of f ∷ (independent_vowel_weight h + vowel_weight v) ∷ tone_weight t ∷ []

abbrev pub five_weights : Row → List (List ℕ)
five_weights [] = []
five_weights (s ∷ row) = five_weights_of s ∷ five_weights row
