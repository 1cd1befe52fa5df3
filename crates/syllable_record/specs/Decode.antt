-- Document 01, "Syllable records", and document 02, E5, read the other way: the syllable that a record's bytes stand for. What stands for none has some other's.
-- Assumes nothing.
use Rattle.std.specs.Prelude.{Bool, true, false, List, ℕ, ◌+◌, eqb, get_or}
use Rattle.letters.specs.Choice.{pick}
use Rattle.letters.specs.Marks.{neither, ya, ra, MedialGroup, group, no_medial, Vowel, no_vowel, vowel_aa, vowel_i, vowel_ii, vowel_u, vowel_uu, vowel_e, vowel_ai, vowel_e_aa, vowel_e_aa_killer, vowel_am, vowel_i_u, vowel_u_am, ToneMark, no_tone, dot, visarga}
use Rattle.formula.specs.Record.{link_place}
use Rattle.formula.specs.Syllable.{Final, no_final, plain, plain_pair, stacked, kinzi, great_sa, Syllable, syllable}

-- "Y 1, R 2, W 3, H 4, YW 5, RW 6, YH 7, RH 8, WH 9, YWH 10, RWH 11."
unfoldable pub medial_of_weight : ℕ → MedialGroup
medial_of_weight n =
    pick (eqb n 1) (group ya false false)
    (pick (eqb n 2) (group ra false false)
    (pick (eqb n 3) (group neither true false)
    (pick (eqb n 4) (group neither false true)
    (pick (eqb n 5) (group ya true false)
    (pick (eqb n 6) (group ra true false)
    (pick (eqb n 7) (group ya false true)
    (pick (eqb n 8) (group ra false true)
    (pick (eqb n 9) (group neither true true)
    (pick (eqb n 10) (group ya true true) (pick (eqb n 11) (group ra true true) no_medial))))))))))

-- the vowels by weight; an AA is tall or not
unfoldable pub vowel_of_weight : ℕ → Bool → Vowel
vowel_of_weight n tall =
    pick (eqb n 1) (vowel_aa tall)
    (pick (eqb n 2) vowel_i
    (pick (eqb n 3) vowel_ii
    (pick (eqb n 4) vowel_u
    (pick (eqb n 5) vowel_uu
    (pick (eqb n 6) vowel_e
    (pick (eqb n 7) vowel_ai
    (pick (eqb n 8) (vowel_e_aa tall)
    (pick (eqb n 9) (vowel_e_aa_killer tall)
    (pick (eqb n 10) vowel_am (pick (eqb n 11) vowel_i_u (pick (eqb n 12) vowel_u_am no_vowel)))))))))))

-- "1000 to 1020 are 1 to 33, whichever form"
abbrev pub letter_of_number : ℕ → ℕ
letter_of_number number = 0x0FFF + number

-- "A syllable with a plain final may take a second plain final"
unfoldable pub plain_of_numbers : ℕ → ℕ → Final
plain_of_numbers letter second = pick (eqb second 0) (plain (letter_of_number letter)) (plain_pair (letter_of_number letter) (letter_of_number second))

-- "Link is 0 none, 1 plain, 2 stacked or kinzi, 3 great sa."
unfoldable pub final_of_numbers : ℕ → ℕ → ℕ → Final
final_of_numbers letter second link =
    pick (eqb link 1) (plain_of_numbers letter second)
    (pick (eqb link 2) (pick (eqb letter 5) kinzi (stacked (letter_of_number letter))) (pick (eqb link 3) great_sa no_final))

-- "Tone: 1037 1, 1038 2."
unfoldable pub tone_of_weight : ℕ → ToneMark
tone_of_weight n = pick (eqb n 1) dot (pick (eqb n 2) visarga no_tone)

-- "head minus 1000; medial weight; vowel weight; 1 for a tall AA, else 0; final weight; link; tone weight", and
-- "a second final weight after the first"
unfoldable pub syllable_of : List ℕ → Syllable
syllable_of bytes =
    syllable (0x1000 + get_or bytes 0 0) (medial_of_weight (get_or bytes 1 0)) (vowel_of_weight (get_or bytes 2 0) (eqb (get_or bytes 3 0) 1))
    (final_of_numbers (get_or bytes 4 0) (get_or bytes 5 0) (get_or bytes link_place 0)) (tone_of_weight (get_or bytes 7 0))
