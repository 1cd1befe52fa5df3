-- Document 01, "Weights": the weight of each head, medial group, final letter, vowel and tone. "Absent is 0."
-- Assumes nothing.
use Rattle.std.specs.Prelude.{Bool, true, false, ◌&&◌, ◌||◌, List, [], ◌∷◌, ℕ, ◌+◌, ◌-◌, eqb}
use Rattle.letters.specs.Choice.{pick}
use Rattle.letters.specs.Letters.{within, is_consonant, is_independent_vowel, is_digit, is_stop, is_sign}
use Rattle.letters.specs.Marks.{YaRa, neither, ya, ra, MedialGroup, group, medial_groups, Vowel, no_vowel, vowel_aa, vowel_i, vowel_ii, vowel_u, vowel_uu, vowel_e, vowel_ai, vowel_e_aa, vowel_e_aa_killer, vowel_am, vowel_i_u, vowel_u_am, ToneMark, no_tone, dot, visarga}
use Rattle.std.specs.declared.option.Option.{Option}
use Rattle.std.specs.declared.option.Option.TheVariants.{None, Some}

-- a value that may be the head of a syllable
abbrev pub is_head : ℕ → Bool
is_head x = is_consonant x || (is_independent_vowel x || (is_digit x || (is_stop x || is_sign x)))

-- "Head: 104A 1, 104B 2, digits 3 to 12, C 13 to 46, S 47 to 50. An I has head 46 and a vowel weight"; 0 for what is no head
abbrev pub range_weight : ℕ → ℕ
range_weight x =
    pick (is_consonant x) (x - 0x1000 + 13)
    (pick (is_independent_vowel x) 46 (pick (is_digit x) (x - 0x1040 + 3) (pick (is_stop x) (x - 0x104A + 1) (pick (is_sign x) (x - 0x104C + 47) 0))))

-- the weight of a head, as a key has it
abbrev pub head_weight : ℕ → ℕ
head_weight x = range_weight x

-- "1023 2, 1024 3, 1025 4, 1026 5, 1027 6, 1029 8, 102A 9"; 0 for what is no I
abbrev pub independent_vowel_weight : ℕ → ℕ
independent_vowel_weight x = pick (within 0x1023 0x1027 x) (x - 0x1023 + 2) (pick (within 0x1029 0x102A x) (x - 0x1029 + 8) 0)

-- "Y 1, R 2, W 3, H 4, YW 5, RW 6, YH 7, RH 8, WH 9, YWH 10, RWH 11."
abbrev pub medial_weight : MedialGroup → ℕ
medial_weight (group neither false false) = 0
medial_weight (group ya false false) = 1
medial_weight (group ra false false) = 2
medial_weight (group neither true false) = 3
medial_weight (group neither false true) = 4
medial_weight (group ya true false) = 5
medial_weight (group ra true false) = 6
medial_weight (group ya false true) = 7
medial_weight (group ra false true) = 8
medial_weight (group neither true true) = 9
medial_weight (group ya true true) = 10
medial_weight (group ra true true) = 11

-- a medial group as a set of medials: Y 1, R 2, W 4, H 8
abbrev pub bit_if : Bool → ℕ → ℕ
bit_if true n = n
bit_if false n = 0

abbrev pub ya_ra_set : YaRa → ℕ
ya_ra_set neither = 0
ya_ra_set ya = 1
ya_ra_set ra = 2

abbrev pub medial_set : MedialGroup → ℕ
medial_set (group yr w h) = ya_ra_set yr + (bit_if w 4 + bit_if h 8)

-- the weight of the group among these that has the set of medials n
abbrev pub weight_in : List MedialGroup → ℕ → Option ℕ
weight_in [] n = None
weight_in (g ∷ gs) n = pick (eqb n (medial_set g)) (Some (medial_weight g)) (weight_in gs n)

-- the weight of a set of medials; a set with Y and R, or with anything else, is no group's
abbrev pub medial_set_weight : ℕ → Option ℕ
medial_set_weight n = weight_in medial_groups n

-- "A final letter is 1000 to 1020."
abbrev pub is_final_letter : ℕ → Bool
is_final_letter x = within 0x1000 0x1020 x

-- the number of a final letter, as a syllable record has it: "1000 to 1020 are 1 to 33, whichever form"
abbrev pub final_number : ℕ → ℕ
final_number x = x - 0x1000 + 1

-- the weight of a final letter, as a key has it
abbrev pub final_weight : ℕ → ℕ
final_weight x = final_number x

abbrev pub vowel_weight : Vowel → ℕ
vowel_weight no_vowel = 0
vowel_weight (vowel_aa tall) = 1
vowel_weight vowel_i = 2
vowel_weight vowel_ii = 3
vowel_weight vowel_u = 4
vowel_weight vowel_uu = 5
vowel_weight vowel_e = 6
vowel_weight vowel_ai = 7
vowel_weight (vowel_e_aa tall) = 8
vowel_weight (vowel_e_aa_killer tall) = 9
vowel_weight vowel_am = 10
vowel_weight vowel_i_u = 11
vowel_weight vowel_u_am = 12

-- 1 for a tall AA, else 0
abbrev pub vowel_tall : Vowel → ℕ
vowel_tall no_vowel = 0
vowel_tall (vowel_aa tall) = bit_if tall 1
vowel_tall vowel_i = 0
vowel_tall vowel_ii = 0
vowel_tall vowel_u = 0
vowel_tall vowel_uu = 0
vowel_tall vowel_e = 0
vowel_tall vowel_ai = 0
vowel_tall (vowel_e_aa tall) = bit_if tall 1
vowel_tall (vowel_e_aa_killer tall) = bit_if tall 1
vowel_tall vowel_am = 0
vowel_tall vowel_i_u = 0
vowel_tall vowel_u_am = 0

-- "Tone: 1037 1, 1038 2."
abbrev pub tone_weight : ToneMark → ℕ
tone_weight no_tone = 0
tone_weight dot = 1
tone_weight visarga = 2

-- the vowel that is written with the one mark x, by weight
abbrev pub vowel_of_mark : ℕ → Option ℕ
vowel_of_mark x =
    pick (within 0x102B 0x102C x) (Some 1)
    (pick (within 0x102D 0x1032 x) (Some (x - 0x102D + 2)) (pick (eqb x 0x1036) (Some 10) None))

-- the vowel that is written as the vowel of weight v and then x, by weight: each of the twelve by its last mark
abbrev pub vowel_with : ℕ → ℕ → Option ℕ
vowel_with v x =
    pick (eqb v 0) (vowel_of_mark x)
    (pick (eqb v 6 && within 0x102B 0x102C x) (Some 8)
    (pick (eqb v 8 && eqb x 0x103A) (Some 9)
    (pick (eqb v 2 && eqb x 0x102F) (Some 11) (pick (eqb v 4 && eqb x 0x1036) (Some 12) None))))

-- what a value weighs where it is a tone, and that it does not where it is none
abbrev pub tone_weighed : ℕ → Option ℕ
tone_weighed x = pick (eqb x 0x1037) (Some 1) (pick (eqb x 0x1038) (Some 2) None)

-- the weight, or what stands for it where there is none
abbrev pub weight_or : Option ℕ → ℕ → ℕ
weight_or (Some n) other = n
weight_or None other = other

-- the entry of a set of medials in the table of the sixteen sets: its weight, or 255 for a set that is no group's
abbrev pub medial_entry : ℕ → ℕ
medial_entry set = weight_or (medial_set_weight set) 255

abbrev pub medial_table : List ℕ
medial_table =
    medial_entry 0
    ∷ medial_entry 1
    ∷ medial_entry 2
    ∷ medial_entry 3
    ∷ medial_entry 4
    ∷ medial_entry 5
    ∷ medial_entry 6
    ∷ medial_entry 7
    ∷ medial_entry 8
    ∷ medial_entry 9
    ∷ medial_entry 10
    ∷ medial_entry 11
    ∷ medial_entry 12
    ∷ medial_entry 13
    ∷ medial_entry 14
    ∷ medial_entry 15
    ∷ []
