-- Document 01, "The letters" and "Weights": the medial groups, the vowels and the tones, each with the values it is written with.
-- Assumes nothing.
use Rattle.std.specs.Prelude.{Bool, true, false, List, [], ◌∷◌, ◌++◌, ℕ}

-- "Y and R never stand together."
pub data YaRa : Type 0 where
  neither ya ra : YaRa

-- Document 01: "a medial group": Y, R or neither; W or not; H or not. Eleven groups, and none.
pub data MedialGroup : Type 0 where
  group : YaRa → Bool → Bool → MedialGroup

-- the twelve groups, the empty one first
abbrev pub medial_groups : List MedialGroup
medial_groups =
    group neither false false
    ∷ group ya false false
    ∷ group ra false false
    ∷ group neither true false
    ∷ group neither false true
    ∷ group ya true false
    ∷ group ra true false
    ∷ group ya false true
    ∷ group ra false true
    ∷ group neither true true
    ∷ group ya true true
    ∷ group ra true true
    ∷ []

-- the absence of a medial group
abbrev pub no_medial : MedialGroup
no_medial = group neither false false

-- the vowels in the order of their weights; true says that the AA is tall
pub data Vowel : Type 0 where
  no_vowel : Vowel
  vowel_aa : Bool → Vowel
  vowel_i vowel_ii vowel_u vowel_uu vowel_e vowel_ai : Vowel
  vowel_e_aa : Bool → Vowel
  vowel_e_aa_killer : Bool → Vowel
  vowel_am vowel_i_u vowel_u_am : Vowel

pub data ToneMark : Type 0 where
  no_tone dot visarga : ToneMark

-- x where it is there
abbrev pub optional : Bool → ℕ → List ℕ
optional true x = x ∷ []
optional false x = []

abbrev pub ya_ra_text : YaRa → List ℕ
ya_ra_text neither = []
ya_ra_text ya = 0x103B ∷ []
ya_ra_text ra = 0x103C ∷ []

-- "Members stand in the order Y R W H, each once."
abbrev pub medial_text : MedialGroup → List ℕ
medial_text (group yr w h) = ya_ra_text yr ++ (optional w 0x103D ++ optional h 0x103E)

-- "AA (102B or 102C)"
abbrev pub aa_text : Bool → ℕ
aa_text true = 0x102B
aa_text false = 0x102C

-- "AA (102B or 102C) 1, 102D 2, 102E 3, 102F 4, 1030 5, 1031 6, 1032 7, 1031 AA 8, 1031 AA 103A 9, 1036 10, 102D 102F 11, 102F 1036 12.
-- No other vowel exists."
abbrev pub vowel_text : Vowel → List ℕ
vowel_text no_vowel = []
vowel_text (vowel_aa tall) = aa_text tall ∷ []
vowel_text vowel_i = 0x102D ∷ []
vowel_text vowel_ii = 0x102E ∷ []
vowel_text vowel_u = 0x102F ∷ []
vowel_text vowel_uu = 0x1030 ∷ []
vowel_text vowel_e = 0x1031 ∷ []
vowel_text vowel_ai = 0x1032 ∷ []
vowel_text (vowel_e_aa tall) = 0x1031 ∷ aa_text tall ∷ []
vowel_text (vowel_e_aa_killer tall) = 0x1031 ∷ aa_text tall ∷ 0x103A ∷ []
vowel_text vowel_am = 0x1036 ∷ []
vowel_text vowel_i_u = 0x102D ∷ 0x102F ∷ []
vowel_text vowel_u_am = 0x102F ∷ 0x1036 ∷ []

-- "Tones: 1037 (dot), 1038 (visarga)."
abbrev pub tone_text : ToneMark → List ℕ
tone_text no_tone = []
tone_text dot = 0x1037 ∷ []
tone_text visarga = 0x1038 ∷ []

-- every vowel, and every tone
abbrev pub vowels : List Vowel
vowels =
    no_vowel
    ∷ vowel_aa false
    ∷ vowel_aa true
    ∷ vowel_i
    ∷ vowel_ii
    ∷ vowel_u
    ∷ vowel_uu
    ∷ vowel_e
    ∷ vowel_ai
    ∷ vowel_e_aa false
    ∷ vowel_e_aa true
    ∷ vowel_e_aa_killer false
    ∷ vowel_e_aa_killer true
    ∷ vowel_am
    ∷ vowel_i_u
    ∷ vowel_u_am
    ∷ []

abbrev pub tone_marks : List ToneMark
tone_marks = no_tone ∷ dot ∷ visarga ∷ []
