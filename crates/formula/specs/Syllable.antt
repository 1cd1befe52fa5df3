-- Document 01, "The syllable", and document 02, E2 and E5: what a syllable is, what it asks of its neighbours, and how it is written.
-- A description: no reader stands here. Assumes nothing.
use Rattle.std.specs.Prelude.{Bool, true, false, not, ◌&&◌, ◌||◌, List, [], ◌∷◌, ◌++◌, ℕ, eqb}
use Rattle.letters.specs.Letters.{is_consonant, is_independent_vowel}
use Rattle.letters.specs.Marks.{neither, ya, ra, MedialGroup, group, no_medial, Vowel, no_vowel, vowel_aa, vowel_i, vowel_ii, vowel_u, vowel_uu, vowel_e, vowel_ai, vowel_e_aa, vowel_e_aa_killer, vowel_am, vowel_i_u, vowel_u_am, ToneMark, no_tone, dot, visarga, medial_text, vowel_text, tone_text}
use Rattle.letters.specs.Weights.{is_head, is_final_letter}

-- "A plain final is that letter and 103A. A stacked final is a final letter other than 1004 and then 1039. Kinzi is 1004 103A 1039.
-- 103F is at once a final 101E of the syllable before and the head 101E of its own."
-- Document 02, E5: "A syllable with a plain final may take a second plain final before its tone."
pub data Final : Type 0 where
  no_final : Final
  plain : ℕ → Final
  plain_pair : ℕ → ℕ → Final
  stacked : ℕ → Final
  kinzi : Final
  great_sa : Final

-- "A full syllable has a head, at most one medial group, one vowel, one final and one tone, in that order."
-- An I, N, P or S is a syllable too, whose head carries less or nothing.
pub data Syllable : Type 0 where
  syllable : ℕ → MedialGroup → Vowel → Final → ToneMark → Syllable

-- a syllable of a head alone
abbrev pub bare : ℕ → Syllable
bare h = syllable h no_medial no_vowel no_final no_tone

abbrev pub head_of : Syllable → ℕ
head_of (syllable h m v f t) = h

abbrev pub final_of : Syllable → Final
final_of (syllable h m v f t) = f

-- "The head is a C": the heads that may carry a medial group and a vowel
unfoldable pub carries_marks : ℕ → Bool
carries_marks h = is_consonant h

-- and those that may carry a final and a tone. Document 02, E2: "Each I, and 104E alone among the signs, may now take a final and a tone as a
-- full syllable does, but no medial and no vowel mark."
unfoldable pub carries_final : ℕ → Bool
carries_final h = is_consonant h || (is_independent_vowel h || eqb h 0x104E)

abbrev pub is_no_medial : MedialGroup → Bool
is_no_medial (group neither w h) = not w && not h
is_no_medial (group ya w h) = false
is_no_medial (group ra w h) = false

abbrev pub is_no_vowel : Vowel → Bool
is_no_vowel no_vowel = true
is_no_vowel (vowel_aa tall) = false
is_no_vowel vowel_i = false
is_no_vowel vowel_ii = false
is_no_vowel vowel_u = false
is_no_vowel vowel_uu = false
is_no_vowel vowel_e = false
is_no_vowel vowel_ai = false
is_no_vowel (vowel_e_aa tall) = false
is_no_vowel (vowel_e_aa_killer tall) = false
is_no_vowel vowel_am = false
is_no_vowel vowel_i_u = false
is_no_vowel vowel_u_am = false

abbrev pub is_no_final : Final → Bool
is_no_final no_final = true
is_no_final (plain c) = false
is_no_final (plain_pair c d) = false
is_no_final (stacked c) = false
is_no_final kinzi = false
is_no_final great_sa = false

abbrev pub is_no_tone : ToneMark → Bool
is_no_tone no_tone = true
is_no_tone dot = false
is_no_tone visarga = false

-- the final asks nothing of what follows, and takes a tone
abbrev pub is_closed : Final → Bool
is_closed no_final = true
is_closed (plain c) = true
is_closed (plain_pair c d) = true
is_closed (stacked c) = false
is_closed kinzi = false
is_closed great_sa = false

-- "A final letter is 1000 to 1020", and a stacked one is "other than 1004"
abbrev pub is_final : Final → Bool
is_final no_final = true
is_final (plain c) = is_final_letter c
is_final (plain_pair c d) = is_final_letter c && is_final_letter d
is_final (stacked c) = is_final_letter c && not (eqb c 0x1004)
is_final kinzi = true
is_final great_sa = true

-- stacked finals and kinzi "take no tone", and the syllable before 103F has "no other final and no tone"
abbrev pub takes_tone : Final → ToneMark → Bool
takes_tone f t = is_closed f || is_no_tone t

-- a syllable by itself
abbrev pub is_syllable : Syllable → Bool
is_syllable (syllable h m v f t) =
    is_head h && ((carries_marks h || (is_no_medial m && is_no_vowel v)) && ((carries_final h || (is_no_final f && is_no_tone t)) && (is_final f && takes_tone f t)))

-- what a final asks of the next syllable's head. After a stacked final or kinzi "the next syllable must be full with a head of 1000 to
-- 1020, written as a letter"; after great sa it begins with 103F, which is "the head 101E of its own". Those heads are all of C.
abbrev pub follows : Final → ℕ → Bool
follows no_final h = true
follows (plain c) h = true
follows (plain_pair c d) h = true
follows (stacked c) h = is_final_letter h
follows kinzi h = is_final_letter h
follows great_sa h = eqb h 0x101E

-- a great sa is written with the head of the next syllable
abbrev pub final_text : Final → List ℕ
final_text no_final = []
final_text (plain c) = c ∷ 0x103A ∷ []
final_text (plain_pair c d) = c ∷ 0x103A ∷ d ∷ 0x103A ∷ []
final_text (stacked c) = c ∷ 0x1039 ∷ []
final_text kinzi = 0x1004 ∷ 0x103A ∷ 0x1039 ∷ []
final_text great_sa = []

-- the head after a syllable with the final f
abbrev pub head_text : Final → ℕ → ℕ
head_text no_final h = h
head_text (plain c) h = h
head_text (plain_pair c d) h = h
head_text (stacked c) h = h
head_text kinzi h = h
head_text great_sa h = 0x103F

-- "A syllable's part of the word begins at its head or at 103F and ends before the next."
abbrev pub part : Final → Syllable → List ℕ
part f (syllable h m v g t) = head_text f h ∷ (medial_text m ++ (vowel_text v ++ (final_text g ++ tone_text t)))
