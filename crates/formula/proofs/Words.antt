-- The words of document 01, "Words to try", that are rows, those of document 02 and the queries that find them, and rows that break each rule: one
-- table each, computed.
-- Assumes nothing.
use mathlib.Core.Path.{◌≡◌}
use mathlib.Core.Bool.{Bool, true, false, not, ◌&&◌}
use mathlib.Core.List.{List, [], ◌∷◌, ◌++◌, map}
use Prim.Native.Nat.{ℕ, ◌-◌}
use lib.Dec.{T}
use lib.ListN.{replicate}
use Rattle.letters.specs.Choice.{pick}
use Rattle.letters.specs.Counting.{up_from}
use Rattle.letters.specs.Marks.{neither, ya, ra, MedialGroup, group, medial_groups, no_medial, medial_text, Vowel, vowels, no_vowel, vowel_aa, vowel_i, vowel_ii, vowel_u, vowel_uu, vowel_e, vowel_ai, vowel_e_aa, vowel_e_aa_killer, vowel_am, vowel_i_u, vowel_u_am, vowel_text, ToneMark, tone_marks, no_tone, dot, visarga, tone_text}
use Rattle.formula.specs.Limits.{limit}
use Rattle.formula.specs.Syllable.{no_final, plain, plain_pair, stacked, kinzi, great_sa, syllable, bare, carries_marks, carries_final}
use Rattle.formula.specs.Row.{Row, is_row_of, is_row_after, join, Gives}
use Rattle.formula.specs.Earlier.{Edition, base, independent_finals, is_syllable_in}
use Rattle.formula.specs.Record.{record_of}
use Rattle.formula.specs.Spelled.{spelled}
use Rattle.formula.specs.Weighing.{weights_of, weights}
use Rattle.formula.proofs.Lists.{both_left, both_right, every, All, every_all, same_list, same_lists, same_list_equal, same_lists_equal}

-- a word, the row that gives it, the row's records, its weights and its spelled syllables
pub record Example : Type 0 where
  pub word : List ℕ
  pub row : Row
  pub records : List (List ℕ)
  pub weigh : List (List ℕ)
  pub spell : List (List ℕ)

-- a letter alone
abbrev pub letter : Example
letter =
    record {
      word = 0x1000 ∷ [];
      row = bare 0x1000 ∷ [];
      records = (0x00 ∷ 0 ∷ 0 ∷ 0 ∷ 0 ∷ 0 ∷ 0 ∷ 0 ∷ []) ∷ [];
      weigh = (13 ∷ 0 ∷ 0 ∷ 0 ∷ 0 ∷ 0 ∷ []) ∷ [];
      spell = (0x1000 ∷ []) ∷ [];
    }

-- one syllable with that letter, a final and a tone
abbrev pub closed : Example
closed =
    record {
      word = 0x1000 ∷ 0x1014 ∷ 0x103A ∷ 0x1037 ∷ [];
      row = syllable 0x1000 no_medial no_vowel (plain 0x1014) dot ∷ [];
      records = (0x00 ∷ 0 ∷ 0 ∷ 0 ∷ 21 ∷ 0 ∷ 1 ∷ 1 ∷ []) ∷ [];
      weigh = (13 ∷ 0 ∷ 21 ∷ 0 ∷ 0 ∷ 1 ∷ []) ∷ [];
      spell = (0x1000 ∷ 0x1014 ∷ 0x103A ∷ 0x1037 ∷ []) ∷ [];
    }

-- a stacked final
abbrev pub university : Example
university =
    record {
      word = 0x1010 ∷ 0x1000 ∷ 0x1039 ∷ 0x1000 ∷ 0x101E ∷ 0x102D ∷ 0x102F ∷ 0x101C ∷ 0x103A ∷ [];
      row = syllable 0x1010 no_medial no_vowel (stacked 0x1000) no_tone ∷ bare 0x1000 ∷ syllable 0x101E no_medial vowel_i_u (plain 0x101C) no_tone ∷ [];
      records = (0x10 ∷ 0 ∷ 0 ∷ 0 ∷ 1 ∷ 0 ∷ 2 ∷ 0 ∷ []) ∷ (0x00 ∷ 0 ∷ 0 ∷ 0 ∷ 0 ∷ 0 ∷ 0 ∷ 0 ∷ []) ∷ (0x1E ∷ 0 ∷ 11 ∷ 0 ∷ 29 ∷ 0 ∷ 1 ∷ 0 ∷ []) ∷ [];
      weigh = (29 ∷ 0 ∷ 1 ∷ 0 ∷ 0 ∷ 0 ∷ []) ∷ (13 ∷ 0 ∷ 0 ∷ 0 ∷ 0 ∷ 0 ∷ []) ∷ (43 ∷ 0 ∷ 29 ∷ 0 ∷ 11 ∷ 0 ∷ []) ∷ [];
      spell = (0x1010 ∷ 0x1000 ∷ 0x103A ∷ []) ∷ (0x1000 ∷ []) ∷ (0x101E ∷ 0x102D ∷ 0x102F ∷ 0x101C ∷ 0x103A ∷ []) ∷ [];
    }

-- kinzi
abbrev pub england : Example
england =
    record {
      word = 0x1021 ∷ 0x1004 ∷ 0x103A ∷ 0x1039 ∷ 0x1002 ∷ 0x101C ∷ 0x1014 ∷ 0x103A ∷ [];
      row = syllable 0x1021 no_medial no_vowel kinzi no_tone ∷ bare 0x1002 ∷ syllable 0x101C no_medial no_vowel (plain 0x1014) no_tone ∷ [];
      records = (0x21 ∷ 0 ∷ 0 ∷ 0 ∷ 5 ∷ 0 ∷ 2 ∷ 0 ∷ []) ∷ (0x02 ∷ 0 ∷ 0 ∷ 0 ∷ 0 ∷ 0 ∷ 0 ∷ 0 ∷ []) ∷ (0x1C ∷ 0 ∷ 0 ∷ 0 ∷ 21 ∷ 0 ∷ 1 ∷ 0 ∷ []) ∷ [];
      weigh = (46 ∷ 0 ∷ 5 ∷ 0 ∷ 0 ∷ 0 ∷ []) ∷ (15 ∷ 0 ∷ 0 ∷ 0 ∷ 0 ∷ 0 ∷ []) ∷ (41 ∷ 0 ∷ 21 ∷ 0 ∷ 0 ∷ 0 ∷ []) ∷ [];
      spell = (0x1021 ∷ 0x1004 ∷ 0x103A ∷ []) ∷ (0x1002 ∷ []) ∷ (0x101C ∷ 0x1014 ∷ 0x103A ∷ []) ∷ [];
    }

-- 103F, behind a medial
abbrev pub problem : Example
problem =
    record {
      word = 0x1015 ∷ 0x103C ∷ 0x103F ∷ 0x1014 ∷ 0x102C ∷ [];
      row = syllable 0x1015 (group ra false false) no_vowel great_sa no_tone ∷ bare 0x101E ∷ syllable 0x1014 no_medial (vowel_aa false) no_final no_tone ∷ [];
      records = (0x15 ∷ 2 ∷ 0 ∷ 0 ∷ 31 ∷ 0 ∷ 3 ∷ 0 ∷ []) ∷ (0x1E ∷ 0 ∷ 0 ∷ 0 ∷ 0 ∷ 0 ∷ 0 ∷ 0 ∷ []) ∷ (0x14 ∷ 0 ∷ 1 ∷ 0 ∷ 0 ∷ 0 ∷ 0 ∷ 0 ∷ []) ∷ [];
      weigh = (34 ∷ 2 ∷ 31 ∷ 0 ∷ 0 ∷ 0 ∷ []) ∷ (43 ∷ 0 ∷ 0 ∷ 0 ∷ 0 ∷ 0 ∷ []) ∷ (33 ∷ 0 ∷ 0 ∷ 0 ∷ 1 ∷ 0 ∷ []) ∷ [];
      spell = (0x1015 ∷ 0x103C ∷ 0x101E ∷ 0x103A ∷ []) ∷ (0x101E ∷ []) ∷ (0x1014 ∷ 0x102C ∷ []) ∷ [];
    }

-- 103F straight behind a letter
abbrev pub great_sa_alone : Example
great_sa_alone =
    record {
      word = 0x1015 ∷ 0x103F ∷ 0x1014 ∷ 0x102C ∷ [];
      row = syllable 0x1015 no_medial no_vowel great_sa no_tone ∷ bare 0x101E ∷ syllable 0x1014 no_medial (vowel_aa false) no_final no_tone ∷ [];
      records = (0x15 ∷ 0 ∷ 0 ∷ 0 ∷ 31 ∷ 0 ∷ 3 ∷ 0 ∷ []) ∷ (0x1E ∷ 0 ∷ 0 ∷ 0 ∷ 0 ∷ 0 ∷ 0 ∷ 0 ∷ []) ∷ (0x14 ∷ 0 ∷ 1 ∷ 0 ∷ 0 ∷ 0 ∷ 0 ∷ 0 ∷ []) ∷ [];
      weigh = (34 ∷ 0 ∷ 31 ∷ 0 ∷ 0 ∷ 0 ∷ []) ∷ (43 ∷ 0 ∷ 0 ∷ 0 ∷ 0 ∷ 0 ∷ []) ∷ (33 ∷ 0 ∷ 0 ∷ 0 ∷ 1 ∷ 0 ∷ []) ∷ [];
      spell = (0x1015 ∷ 0x101E ∷ 0x103A ∷ []) ∷ (0x101E ∷ []) ∷ (0x1014 ∷ 0x102C ∷ []) ∷ [];
    }

-- an I with a stacked final, ဥက္က; and 104E with a plain final and a tone, ၎င်း
abbrev pub ukka : Example
ukka =
    record {
      word = 0x1025 ∷ 0x1000 ∷ 0x1039 ∷ 0x1000 ∷ [];
      row = syllable 0x1025 no_medial no_vowel (stacked 0x1000) no_tone ∷ bare 0x1000 ∷ [];
      records = (0x25 ∷ 0 ∷ 0 ∷ 0 ∷ 1 ∷ 0 ∷ 2 ∷ 0 ∷ []) ∷ (0x00 ∷ 0 ∷ 0 ∷ 0 ∷ 0 ∷ 0 ∷ 0 ∷ 0 ∷ []) ∷ [];
      weigh = (46 ∷ 0 ∷ 1 ∷ 0 ∷ 4 ∷ 0 ∷ []) ∷ (13 ∷ 0 ∷ 0 ∷ 0 ∷ 0 ∷ 0 ∷ []) ∷ [];
      spell = (0x1025 ∷ 0x1000 ∷ 0x103A ∷ []) ∷ (0x1000 ∷ []) ∷ [];
    }

abbrev pub aforementioned : Example
aforementioned =
    record {
      word = 0x104E ∷ 0x1004 ∷ 0x103A ∷ 0x1038 ∷ [];
      row = syllable 0x104E no_medial no_vowel (plain 0x1004) visarga ∷ [];
      records = (0x4E ∷ 0 ∷ 0 ∷ 0 ∷ 5 ∷ 0 ∷ 1 ∷ 2 ∷ []) ∷ [];
      weigh = (49 ∷ 0 ∷ 5 ∷ 0 ∷ 0 ∷ 2 ∷ []) ∷ [];
      spell = (0x104E ∷ 0x1004 ∷ 0x103A ∷ 0x1038 ∷ []) ∷ [];
    }

-- an I with a tone alone, with kinzi, and with 103F after it; 104E with a stacked final
abbrev pub toned_i : Example
toned_i =
    record {
      word = 0x1029 ∷ 0x1038 ∷ [];
      row = syllable 0x1029 no_medial no_vowel no_final visarga ∷ [];
      records = (0x29 ∷ 0 ∷ 0 ∷ 0 ∷ 0 ∷ 0 ∷ 0 ∷ 2 ∷ []) ∷ [];
      weigh = (46 ∷ 0 ∷ 0 ∷ 0 ∷ 8 ∷ 2 ∷ []) ∷ [];
      spell = (0x1029 ∷ 0x1038 ∷ []) ∷ [];
    }

abbrev pub kinzi_i : Example
kinzi_i =
    record {
      word = 0x1023 ∷ 0x1004 ∷ 0x103A ∷ 0x1039 ∷ 0x1002 ∷ [];
      row = syllable 0x1023 no_medial no_vowel kinzi no_tone ∷ bare 0x1002 ∷ [];
      records = (0x23 ∷ 0 ∷ 0 ∷ 0 ∷ 5 ∷ 0 ∷ 2 ∷ 0 ∷ []) ∷ (0x02 ∷ 0 ∷ 0 ∷ 0 ∷ 0 ∷ 0 ∷ 0 ∷ 0 ∷ []) ∷ [];
      weigh = (46 ∷ 0 ∷ 5 ∷ 0 ∷ 2 ∷ 0 ∷ []) ∷ (15 ∷ 0 ∷ 0 ∷ 0 ∷ 0 ∷ 0 ∷ []) ∷ [];
      spell = (0x1023 ∷ 0x1004 ∷ 0x103A ∷ []) ∷ (0x1002 ∷ []) ∷ [];
    }

abbrev pub great_sa_i : Example
great_sa_i =
    record {
      word = 0x1023 ∷ 0x103F ∷ [];
      row = syllable 0x1023 no_medial no_vowel great_sa no_tone ∷ bare 0x101E ∷ [];
      records = (0x23 ∷ 0 ∷ 0 ∷ 0 ∷ 31 ∷ 0 ∷ 3 ∷ 0 ∷ []) ∷ (0x1E ∷ 0 ∷ 0 ∷ 0 ∷ 0 ∷ 0 ∷ 0 ∷ 0 ∷ []) ∷ [];
      weigh = (46 ∷ 0 ∷ 31 ∷ 0 ∷ 2 ∷ 0 ∷ []) ∷ (43 ∷ 0 ∷ 0 ∷ 0 ∷ 0 ∷ 0 ∷ []) ∷ [];
      spell = (0x1023 ∷ 0x101E ∷ 0x103A ∷ []) ∷ (0x101E ∷ []) ∷ [];
    }

abbrev pub stacked_sign : Example
stacked_sign =
    record {
      word = 0x104E ∷ 0x1000 ∷ 0x1039 ∷ 0x1000 ∷ [];
      row = syllable 0x104E no_medial no_vowel (stacked 0x1000) no_tone ∷ bare 0x1000 ∷ [];
      records = (0x4E ∷ 0 ∷ 0 ∷ 0 ∷ 1 ∷ 0 ∷ 2 ∷ 0 ∷ []) ∷ (0x00 ∷ 0 ∷ 0 ∷ 0 ∷ 0 ∷ 0 ∷ 0 ∷ 0 ∷ []) ∷ [];
      weigh = (49 ∷ 0 ∷ 1 ∷ 0 ∷ 0 ∷ 0 ∷ []) ∷ (13 ∷ 0 ∷ 0 ∷ 0 ∷ 0 ∷ 0 ∷ []) ∷ [];
      spell = (0x104E ∷ 0x1000 ∷ 0x103A ∷ []) ∷ (0x1000 ∷ []) ∷ [];
    }

-- what 1025 1038 102E is stored as
abbrev pub toned_uu : Example
toned_uu =
    record {
      word = 0x1026 ∷ 0x1038 ∷ [];
      row = syllable 0x1026 no_medial no_vowel no_final visarga ∷ [];
      records = (0x26 ∷ 0 ∷ 0 ∷ 0 ∷ 0 ∷ 0 ∷ 0 ∷ 2 ∷ []) ∷ [];
      weigh = (46 ∷ 0 ∷ 0 ∷ 0 ∷ 5 ∷ 2 ∷ []) ∷ [];
      spell = (0x1026 ∷ 0x1038 ∷ []) ∷ [];
    }

-- the first and the last head of each unbroken range
abbrev range_heads : List ℕ
range_heads = 0x1000 ∷ 0x1021 ∷ 0x1023 ∷ 0x1027 ∷ 0x1029 ∷ 0x102A ∷ 0x1040 ∷ 0x1049 ∷ 0x104A ∷ 0x104B ∷ 0x104C ∷ 0x104F ∷ []

abbrev range_ends : Example
range_ends =
    record {
      word = range_heads;
      row = map bare range_heads;
      records = map (λ (h : ℕ). (h - 0x1000) ∷ replicate 7 0) range_heads;
      weigh =
          (13 ∷ 0 ∷ 0 ∷ 0 ∷ 0 ∷ 0 ∷ [])
          ∷ (46 ∷ 0 ∷ 0 ∷ 0 ∷ 0 ∷ 0 ∷ [])
          ∷ (46 ∷ 0 ∷ 0 ∷ 0 ∷ 2 ∷ 0 ∷ [])
          ∷ (46 ∷ 0 ∷ 0 ∷ 0 ∷ 6 ∷ 0 ∷ [])
          ∷ (46 ∷ 0 ∷ 0 ∷ 0 ∷ 8 ∷ 0 ∷ [])
          ∷ (46 ∷ 0 ∷ 0 ∷ 0 ∷ 9 ∷ 0 ∷ [])
          ∷ (3 ∷ 0 ∷ 0 ∷ 0 ∷ 0 ∷ 0 ∷ [])
          ∷ (12 ∷ 0 ∷ 0 ∷ 0 ∷ 0 ∷ 0 ∷ [])
          ∷ (1 ∷ 0 ∷ 0 ∷ 0 ∷ 0 ∷ 0 ∷ [])
          ∷ (2 ∷ 0 ∷ 0 ∷ 0 ∷ 0 ∷ 0 ∷ [])
          ∷ (47 ∷ 0 ∷ 0 ∷ 0 ∷ 0 ∷ 0 ∷ [])
          ∷ (50 ∷ 0 ∷ 0 ∷ 0 ∷ 0 ∷ 0 ∷ [])
          ∷ [];
      spell = map (λ (h : ℕ). h ∷ []) range_heads;
    }

-- "Y 1, R 2, W 3, H 4, YW 5, RW 6, YH 7, RH 8, WH 9, YWH 10, RWH 11": a syllable with each medial group
abbrev every_medial : Example
every_medial =
    record {
      word =
          0x1000 ∷ 0x103B ∷ 0x1000 ∷ 0x103C ∷ 0x1000 ∷ 0x103D ∷ 0x1000 ∷ 0x103E ∷ 0x1000 ∷ 0x103B ∷ 0x103D ∷ 0x1000 ∷ 0x103C ∷ 0x103D
          ∷ 0x1000 ∷ 0x103B ∷ 0x103E ∷ 0x1000 ∷ 0x103C ∷ 0x103E ∷ 0x1000 ∷ 0x103D ∷ 0x103E ∷ 0x1000 ∷ 0x103B ∷ 0x103D ∷ 0x103E ∷ 0x1000 ∷ 0x103C ∷ 0x103D ∷ 0x103E ∷ [];
      row =
          map (λ (g : MedialGroup). syllable 0x1000 g no_vowel no_final no_tone)
          (group ya false false
          ∷ group ra false false
          ∷ group neither true false
          ∷ group neither false true
          ∷ group ya true false
          ∷ group ra true false
          ∷ group ya false true
          ∷ group ra false true
          ∷ group neither true true
          ∷ group ya true true
          ∷ group ra true true
          ∷ []);
      records = map (λ (n : ℕ). 0x00 ∷ n ∷ 0 ∷ 0 ∷ 0 ∷ 0 ∷ 0 ∷ 0 ∷ []) (up_from 1 11);
      weigh = map (λ (n : ℕ). 13 ∷ n ∷ 0 ∷ 0 ∷ 0 ∷ 0 ∷ []) (up_from 1 11);
      spell =
          (0x1000 ∷ 0x103B ∷ [])
          ∷ (0x1000 ∷ 0x103C ∷ [])
          ∷ (0x1000 ∷ 0x103D ∷ [])
          ∷ (0x1000 ∷ 0x103E ∷ [])
          ∷ (0x1000 ∷ 0x103B ∷ 0x103D ∷ [])
          ∷ (0x1000 ∷ 0x103C ∷ 0x103D ∷ [])
          ∷ (0x1000 ∷ 0x103B ∷ 0x103E ∷ [])
          ∷ (0x1000 ∷ 0x103C ∷ 0x103E ∷ [])
          ∷ (0x1000 ∷ 0x103D ∷ 0x103E ∷ [])
          ∷ (0x1000 ∷ 0x103B ∷ 0x103D ∷ 0x103E ∷ [])
          ∷ (0x1000 ∷ 0x103C ∷ 0x103D ∷ 0x103E ∷ [])
          ∷ [];
    }

-- "AA (102B or 102C) 1, 102D 2, 102E 3, 102F 4, 1030 5, 1031 6, 1032 7, 1031 AA 8, 1031 AA 103A 9, 1036 10, 102D 102F 11, 102F 1036 12": a syllable
-- with each vowel, those with AA first with 102C and then with 102B, which is "1 for a tall AA"
abbrev every_vowel : Example
every_vowel =
    record {
      word =
          0x1000 ∷ 0x102C ∷ 0x1000 ∷ 0x102B ∷ 0x1000 ∷ 0x102D ∷ 0x1000 ∷ 0x102E ∷ 0x1000 ∷ 0x102F ∷ 0x1000 ∷ 0x1030 ∷ 0x1000 ∷ 0x1031 ∷ 0x1000 ∷ 0x1032
          ∷ 0x1000 ∷ 0x1031 ∷ 0x102C ∷ 0x1000 ∷ 0x1031 ∷ 0x102B ∷ 0x1000 ∷ 0x1031 ∷ 0x102C ∷ 0x103A ∷ 0x1000 ∷ 0x1031 ∷ 0x102B ∷ 0x103A
          ∷ 0x1000 ∷ 0x1036 ∷ 0x1000 ∷ 0x102D ∷ 0x102F ∷ 0x1000 ∷ 0x102F ∷ 0x1036 ∷ [];
      row =
          map (λ (v : Vowel). syllable 0x1000 no_medial v no_final no_tone)
          (vowel_aa false
          ∷ vowel_aa true
          ∷ vowel_i
          ∷ vowel_ii
          ∷ vowel_u
          ∷ vowel_uu
          ∷ vowel_e
          ∷ vowel_ai
          ∷ vowel_e_aa false
          ∷ vowel_e_aa true
          ∷ vowel_e_aa_killer false
          ∷ vowel_e_aa_killer true
          ∷ vowel_am
          ∷ vowel_i_u
          ∷ vowel_u_am
          ∷ []);
      records =
          (0x00 ∷ 0 ∷ 1 ∷ 0 ∷ 0 ∷ 0 ∷ 0 ∷ 0 ∷ [])
          ∷ (0x00 ∷ 0 ∷ 1 ∷ 1 ∷ 0 ∷ 0 ∷ 0 ∷ 0 ∷ [])
          ∷ (0x00 ∷ 0 ∷ 2 ∷ 0 ∷ 0 ∷ 0 ∷ 0 ∷ 0 ∷ [])
          ∷ (0x00 ∷ 0 ∷ 3 ∷ 0 ∷ 0 ∷ 0 ∷ 0 ∷ 0 ∷ [])
          ∷ (0x00 ∷ 0 ∷ 4 ∷ 0 ∷ 0 ∷ 0 ∷ 0 ∷ 0 ∷ [])
          ∷ (0x00 ∷ 0 ∷ 5 ∷ 0 ∷ 0 ∷ 0 ∷ 0 ∷ 0 ∷ [])
          ∷ (0x00 ∷ 0 ∷ 6 ∷ 0 ∷ 0 ∷ 0 ∷ 0 ∷ 0 ∷ [])
          ∷ (0x00 ∷ 0 ∷ 7 ∷ 0 ∷ 0 ∷ 0 ∷ 0 ∷ 0 ∷ [])
          ∷ (0x00 ∷ 0 ∷ 8 ∷ 0 ∷ 0 ∷ 0 ∷ 0 ∷ 0 ∷ [])
          ∷ (0x00 ∷ 0 ∷ 8 ∷ 1 ∷ 0 ∷ 0 ∷ 0 ∷ 0 ∷ [])
          ∷ (0x00 ∷ 0 ∷ 9 ∷ 0 ∷ 0 ∷ 0 ∷ 0 ∷ 0 ∷ [])
          ∷ (0x00 ∷ 0 ∷ 9 ∷ 1 ∷ 0 ∷ 0 ∷ 0 ∷ 0 ∷ [])
          ∷ (0x00 ∷ 0 ∷ 10 ∷ 0 ∷ 0 ∷ 0 ∷ 0 ∷ 0 ∷ [])
          ∷ (0x00 ∷ 0 ∷ 11 ∷ 0 ∷ 0 ∷ 0 ∷ 0 ∷ 0 ∷ [])
          ∷ (0x00 ∷ 0 ∷ 12 ∷ 0 ∷ 0 ∷ 0 ∷ 0 ∷ 0 ∷ [])
          ∷ [];
      weigh =
          map (λ (v : ℕ). 13 ∷ 0 ∷ 0 ∷ 0 ∷ v ∷ 0 ∷ [])
          (1 ∷ 1 ∷ 2 ∷ 3 ∷ 4 ∷ 5 ∷ 6 ∷ 7 ∷ 8 ∷ 8 ∷ 9 ∷ 9 ∷ 10 ∷ 11 ∷ 12 ∷ []);
      spell =
          (0x1000 ∷ 0x102C ∷ [])
          ∷ (0x1000 ∷ 0x102B ∷ [])
          ∷ (0x1000 ∷ 0x102D ∷ [])
          ∷ (0x1000 ∷ 0x102E ∷ [])
          ∷ (0x1000 ∷ 0x102F ∷ [])
          ∷ (0x1000 ∷ 0x1030 ∷ [])
          ∷ (0x1000 ∷ 0x1031 ∷ [])
          ∷ (0x1000 ∷ 0x1032 ∷ [])
          ∷ (0x1000 ∷ 0x1031 ∷ 0x102C ∷ [])
          ∷ (0x1000 ∷ 0x1031 ∷ 0x102B ∷ [])
          ∷ (0x1000 ∷ 0x1031 ∷ 0x102C ∷ 0x103A ∷ [])
          ∷ (0x1000 ∷ 0x1031 ∷ 0x102B ∷ 0x103A ∷ [])
          ∷ (0x1000 ∷ 0x1036 ∷ [])
          ∷ (0x1000 ∷ 0x102D ∷ 0x102F ∷ [])
          ∷ (0x1000 ∷ 0x102F ∷ 0x1036 ∷ [])
          ∷ [];
    }

-- the last final letter, stacked, below itself and plain
abbrev last_final : Example
last_final =
    record {
      word = 0x1000 ∷ 0x1020 ∷ 0x1039 ∷ 0x1020 ∷ 0x1020 ∷ 0x103A ∷ [];
      row = syllable 0x1000 no_medial no_vowel (stacked 0x1020) no_tone ∷ syllable 0x1020 no_medial no_vowel (plain 0x1020) no_tone ∷ [];
      records = (0x00 ∷ 0 ∷ 0 ∷ 0 ∷ 33 ∷ 0 ∷ 2 ∷ 0 ∷ []) ∷ (0x20 ∷ 0 ∷ 0 ∷ 0 ∷ 33 ∷ 0 ∷ 1 ∷ 0 ∷ []) ∷ [];
      weigh = (13 ∷ 0 ∷ 33 ∷ 0 ∷ 0 ∷ 0 ∷ []) ∷ (45 ∷ 0 ∷ 33 ∷ 0 ∷ 0 ∷ 0 ∷ []) ∷ [];
      spell = (0x1000 ∷ 0x1020 ∷ 0x103A ∷ []) ∷ (0x1020 ∷ 0x1020 ∷ 0x103A ∷ []) ∷ [];
    }

-- heads alone, each with its weight, of which none has a vowel weight
abbrev of_heads : List ℕ → List ℕ → Example
of_heads heads head_weights =
    record {
      word = heads;
      row = map bare heads;
      records = map (λ (h : ℕ). (h - 0x1000) ∷ replicate 7 0) heads;
      weigh = map (λ (w : ℕ). w ∷ replicate 5 0) head_weights;
      spell = map (λ (h : ℕ). h ∷ []) heads;
    }

-- the digits that look like a letter: alone, beside each other, beside a letter, beside another digit alone, beside the last
-- one, before a letter and behind a mark; and with a stop
abbrev pub zero_alone : Example
zero_alone = of_heads (0x1040 ∷ []) (3 ∷ [])

abbrev pub zero_seven : Example
zero_seven = of_heads (0x1040 ∷ 0x1047 ∷ []) (3 ∷ 10 ∷ [])

abbrev pub letter_zero : Example
letter_zero = of_heads (0x1000 ∷ 0x1040 ∷ []) (13 ∷ 3 ∷ [])

abbrev pub letter_one_zero : Example
letter_one_zero = of_heads (0x1000 ∷ 0x1041 ∷ 0x1040 ∷ []) (13 ∷ 4 ∷ 3 ∷ [])

abbrev pub nine_zero : Example
nine_zero = of_heads (0x1049 ∷ 0x1040 ∷ []) (12 ∷ 3 ∷ [])

abbrev pub zero_letter : Example
zero_letter = of_heads (0x1040 ∷ 0x1000 ∷ []) (3 ∷ 13 ∷ [])

abbrev pub toned_seven : Example
toned_seven =
    record {
      word = 0x1000 ∷ 0x1038 ∷ 0x1047 ∷ [];
      row = syllable 0x1000 no_medial no_vowel no_final visarga ∷ bare 0x1047 ∷ [];
      records = (0x00 ∷ 0 ∷ 0 ∷ 0 ∷ 0 ∷ 0 ∷ 0 ∷ 2 ∷ []) ∷ (0x47 ∷ 0 ∷ 0 ∷ 0 ∷ 0 ∷ 0 ∷ 0 ∷ 0 ∷ []) ∷ [];
      weigh = (13 ∷ 0 ∷ 0 ∷ 0 ∷ 0 ∷ 2 ∷ []) ∷ (10 ∷ 0 ∷ 0 ∷ 0 ∷ 0 ∷ 0 ∷ []) ∷ [];
      spell = (0x1000 ∷ 0x1038 ∷ []) ∷ (0x1047 ∷ []) ∷ [];
    }

abbrev pub zero_stop : Example
zero_stop = of_heads (0x1000 ∷ 0x1040 ∷ 0x104B ∷ []) (13 ∷ 3 ∷ 2 ∷ [])

-- a letter and then the other stop, or a sign that carries nothing
abbrev letter_then : ℕ → ℕ → Example
letter_then head weight = of_heads (0x1000 ∷ head ∷ []) (13 ∷ weight ∷ [])

abbrev pub letter_stop : Example
letter_stop = letter_then 0x104A 1

abbrev pub letter_first_sign : Example
letter_first_sign = letter_then 0x104C 47

abbrev pub letter_second_sign : Example
letter_second_sign = letter_then 0x104D 48

abbrev pub letter_last_sign : Example
letter_last_sign = letter_then 0x104F 50

-- the letters that they look like, and as many syllables as a label may have, and one more
abbrev pub wa_ra : Example
wa_ra = of_heads (0x101D ∷ 0x101B ∷ []) (42 ∷ 40 ∷ [])

abbrev pub ten_syllables : Example
ten_syllables = of_heads (replicate 10 0x1000) (replicate 10 13)

abbrev pub eleven_syllables : Example
eleven_syllables = of_heads (replicate 11 0x1000) (replicate 11 13)

-- the I that looks like two values, and those
abbrev pub o_alone : Example
o_alone =
    record {
      word = 0x1029 ∷ [];
      row = bare 0x1029 ∷ [];
      records = (0x29 ∷ 0 ∷ 0 ∷ 0 ∷ 0 ∷ 0 ∷ 0 ∷ 0 ∷ []) ∷ [];
      weigh = (46 ∷ 0 ∷ 0 ∷ 0 ∷ 8 ∷ 0 ∷ []) ∷ [];
      spell = (0x1029 ∷ []) ∷ [];
    }

abbrev pub sa_ra : Example
sa_ra =
    record {
      word = 0x101E ∷ 0x103C ∷ [];
      row = syllable 0x101E (group ra false false) no_vowel no_final no_tone ∷ [];
      records = (0x1E ∷ 2 ∷ 0 ∷ 0 ∷ 0 ∷ 0 ∷ 0 ∷ 0 ∷ []) ∷ [];
      weigh = (43 ∷ 2 ∷ 0 ∷ 0 ∷ 0 ∷ 0 ∷ []) ∷ [];
      spell = (0x101E ∷ 0x103C ∷ []) ∷ [];
    }

-- what 1025 102E is stored as
abbrev pub uu_alone : Example
uu_alone =
    record {
      word = 0x1026 ∷ [];
      row = bare 0x1026 ∷ [];
      records = (0x26 ∷ 0 ∷ 0 ∷ 0 ∷ 0 ∷ 0 ∷ 0 ∷ 0 ∷ []) ∷ [];
      weigh = (46 ∷ 0 ∷ 0 ∷ 0 ∷ 5 ∷ 0 ∷ []) ∷ [];
      spell = (0x1026 ∷ []) ∷ [];
    }

-- one syllable of a head and a plain final, with the weights of both and the vowel weight of the head
abbrev with_plain : ℕ → ℕ → ℕ → ℕ → ℕ → Example
with_plain head final head_weight_lem final_weight_lem vowel_weight_lem =
    record {
      word = head ∷ final ∷ 0x103A ∷ [];
      row = syllable head no_medial no_vowel (plain final) no_tone ∷ [];
      records = ((head - 0x1000) ∷ 0 ∷ 0 ∷ 0 ∷ final_weight_lem ∷ 0 ∷ 1 ∷ 0 ∷ []) ∷ [];
      weigh = (head_weight_lem ∷ 0 ∷ final_weight_lem ∷ 0 ∷ vowel_weight_lem ∷ 0 ∷ []) ∷ [];
      spell = (head ∷ final ∷ 0x103A ∷ []) ∷ [];
    }

-- the first syllable of `university`, with a plain final for the stacked one; that of `england`, for kinzi; and that of `great_sa_alone`
abbrev pub plain_ka : Example
plain_ka = with_plain 0x1010 0x1000 29 1 0

abbrev pub plain_nga : Example
plain_nga = with_plain 0x1021 0x1004 46 5 0

abbrev pub plain_sa : Example
plain_sa = with_plain 0x1015 0x101E 34 31 0

-- ဘတ်, the syllable of `bus` without its second final
abbrev pub baht : Example
baht = with_plain 0x1018 0x1010 37 17 0

-- the first syllable of `ukka` likewise, and the one that it looks like, that of `aforementioned` without its tone, and what 1025 1025 103A is stored as
abbrev pub plain_i : Example
plain_i = with_plain 0x1025 0x1000 46 1 4

abbrev pub plain_nya : Example
plain_nya = with_plain 0x1009 0x1000 22 1 0

abbrev pub plain_sign : Example
plain_sign = with_plain 0x104E 0x1004 49 5 0

abbrev pub nya_i : Example
nya_i = with_plain 0x1025 0x1009 46 10 4

-- one syllable of a head, two plain finals and a tone, with the weights of all and the vowel weight of the head
abbrev with_pair : ℕ → ℕ → ℕ → ToneMark → ℕ → ℕ → ℕ → ℕ → ℕ → Example
with_pair head first second tone head_weight_lem first_weight second_weight vowel_weight_lem tone_weight_lem =
    record {
      word = head ∷ first ∷ 0x103A ∷ second ∷ 0x103A ∷ tone_text tone;
      row = syllable head no_medial no_vowel (plain_pair first second) tone ∷ [];
      records = ((head - 0x1000) ∷ 0 ∷ 0 ∷ 0 ∷ first_weight ∷ second_weight ∷ 1 ∷ tone_weight_lem ∷ []) ∷ [];
      weigh = (head_weight_lem ∷ 0 ∷ first_weight ∷ second_weight ∷ vowel_weight_lem ∷ tone_weight_lem ∷ []) ∷ [];
      spell = (head ∷ first ∷ 0x103A ∷ second ∷ 0x103A ∷ tone_text tone) ∷ [];
    }

-- ဘတ်စ်, the word of document 02, E5; with a tone; the same letter twice; on an I and on 104E; and a second final 1004, which is no kinzi
abbrev pub bus : Example
bus = with_pair 0x1018 0x1010 0x1005 no_tone 37 17 6 0 0

abbrev pub toned_pair : Example
toned_pair = with_pair 0x1018 0x1010 0x1005 visarga 37 17 6 0 2

abbrev pub same_pair : Example
same_pair = with_pair 0x1000 0x1000 0x1000 dot 13 1 1 0 1

abbrev pub pair_i : Example
pair_i = with_pair 0x1025 0x1000 0x1005 no_tone 46 1 6 4 0

abbrev pub pair_sign : Example
pair_sign = with_pair 0x104E 0x1004 0x1005 visarga 49 5 6 0 2

abbrev pub nga_pair : Example
nga_pair = with_pair 0x1000 0x1000 0x1004 no_tone 13 1 5 0 0

-- both finals behind a medial and a vowel, and a syllable with a stacked final after them
abbrev pub pair_behind_marks : Example
pair_behind_marks =
    record {
      word = 0x1000 ∷ 0x103C ∷ 0x102D ∷ 0x102F ∷ 0x1004 ∷ 0x103A ∷ 0x1005 ∷ 0x103A ∷ 0x1010 ∷ 0x1000 ∷ 0x1039 ∷ 0x1000 ∷ [];
      row =
          syllable 0x1000 (group ra false false) vowel_i_u (plain_pair 0x1004 0x1005) no_tone
          ∷ syllable 0x1010 no_medial no_vowel (stacked 0x1000) no_tone
          ∷ bare 0x1000
          ∷ [];
      records = (0x00 ∷ 2 ∷ 11 ∷ 0 ∷ 5 ∷ 6 ∷ 1 ∷ 0 ∷ []) ∷ (0x10 ∷ 0 ∷ 0 ∷ 0 ∷ 1 ∷ 0 ∷ 2 ∷ 0 ∷ []) ∷ (0x00 ∷ 0 ∷ 0 ∷ 0 ∷ 0 ∷ 0 ∷ 0 ∷ 0 ∷ []) ∷ [];
      weigh = (13 ∷ 2 ∷ 5 ∷ 6 ∷ 11 ∷ 0 ∷ []) ∷ (29 ∷ 0 ∷ 1 ∷ 0 ∷ 0 ∷ 0 ∷ []) ∷ (13 ∷ 0 ∷ 0 ∷ 0 ∷ 0 ∷ 0 ∷ []) ∷ [];
      spell =
          (0x1000 ∷ 0x103C ∷ 0x102D ∷ 0x102F ∷ 0x1004 ∷ 0x103A ∷ 0x1005 ∷ 0x103A ∷ [])
          ∷ (0x1010 ∷ 0x1000 ∷ 0x103A ∷ [])
          ∷ (0x1000 ∷ [])
          ∷ [];
    }

-- ဘတ်စ်ကား, which begins with `bus`
abbrev pub bus_car : Example
bus_car =
    record {
      word = 0x1018 ∷ 0x1010 ∷ 0x103A ∷ 0x1005 ∷ 0x103A ∷ 0x1000 ∷ 0x102C ∷ 0x1038 ∷ [];
      row =
          syllable 0x1018 no_medial no_vowel (plain_pair 0x1010 0x1005) no_tone
          ∷ syllable 0x1000 no_medial (vowel_aa false) no_final visarga
          ∷ [];
      records = (0x18 ∷ 0 ∷ 0 ∷ 0 ∷ 17 ∷ 6 ∷ 1 ∷ 0 ∷ []) ∷ (0x00 ∷ 0 ∷ 1 ∷ 0 ∷ 0 ∷ 0 ∷ 0 ∷ 2 ∷ []) ∷ [];
      weigh = (37 ∷ 0 ∷ 17 ∷ 6 ∷ 0 ∷ 0 ∷ []) ∷ (13 ∷ 0 ∷ 0 ∷ 0 ∷ 1 ∷ 2 ∷ []) ∷ [];
      spell = (0x1018 ∷ 0x1010 ∷ 0x103A ∷ 0x1005 ∷ 0x103A ∷ []) ∷ (0x1000 ∷ 0x102C ∷ 0x1038 ∷ []) ∷ [];
    }

-- the words of document 01, the queries that find them and the words of labels, whose rows are rows of 01; 1000 1031 102C 103A is "one syllable"
abbrev base_examples : List Example
base_examples =
    record { word = []; row = []; records = []; weigh = []; spell = [] }
    ∷ letter
    ∷ record {
      word = 0x101E ∷ 0x1019 ∷ 0x102E ∷ 0x1038 ∷ [];
      row = bare 0x101E ∷ syllable 0x1019 no_medial vowel_ii no_final visarga ∷ [];
      records = (0x1E ∷ 0 ∷ 0 ∷ 0 ∷ 0 ∷ 0 ∷ 0 ∷ 0 ∷ []) ∷ (0x19 ∷ 0 ∷ 3 ∷ 0 ∷ 0 ∷ 0 ∷ 0 ∷ 2 ∷ []) ∷ [];
      weigh = (43 ∷ 0 ∷ 0 ∷ 0 ∷ 0 ∷ 0 ∷ []) ∷ (38 ∷ 0 ∷ 0 ∷ 0 ∷ 3 ∷ 2 ∷ []) ∷ [];
      spell = (0x101E ∷ []) ∷ (0x1019 ∷ 0x102E ∷ 0x1038 ∷ []) ∷ [];
    }
    ∷ university
    ∷ england
    ∷ problem
    ∷ record {
      word = 0x1000 ∷ 0x1031 ∷ 0x102C ∷ 0x103A ∷ [];
      row = syllable 0x1000 no_medial (vowel_e_aa_killer false) no_final no_tone ∷ [];
      records = (0x00 ∷ 0 ∷ 9 ∷ 0 ∷ 0 ∷ 0 ∷ 0 ∷ 0 ∷ []) ∷ [];
      weigh = (13 ∷ 0 ∷ 0 ∷ 0 ∷ 9 ∷ 0 ∷ []) ∷ [];
      spell = (0x1000 ∷ 0x1031 ∷ 0x102C ∷ 0x103A ∷ []) ∷ [];
    }
    ∷ closed
    ∷ uu_alone
    ∷ record {
      word = replicate limit 0x1000;
      row = replicate limit (bare 0x1000);
      records = replicate limit (0x00 ∷ 0 ∷ 0 ∷ 0 ∷ 0 ∷ 0 ∷ 0 ∷ 0 ∷ []);
      weigh = replicate limit (13 ∷ 0 ∷ 0 ∷ 0 ∷ 0 ∷ 0 ∷ []);
      spell = replicate limit (0x1000 ∷ []);
    }
    ∷ great_sa_alone
    ∷ range_ends
    ∷ every_medial
    ∷ every_vowel
    ∷ last_final
    ∷ plain_ka
    ∷ plain_nga
    ∷ plain_sa
    ∷ baht
    ∷ zero_alone
    ∷ zero_seven
    ∷ letter_zero
    ∷ letter_one_zero
    ∷ nine_zero
    ∷ zero_letter
    ∷ toned_seven
    ∷ zero_stop
    ∷ letter_stop
    ∷ letter_first_sign
    ∷ letter_second_sign
    ∷ letter_last_sign
    ∷ wa_ra
    ∷ ten_syllables
    ∷ eleven_syllables
    ∷ o_alone
    ∷ sa_ra
    ∷ plain_nya
    ∷ []

-- the words of document 02, E2, whose rows are not, but are rows of before E5
abbrev final_examples : List Example
final_examples =
    ukka
    ∷ aforementioned
    ∷ toned_i
    ∷ kinzi_i
    ∷ great_sa_i
    ∷ stacked_sign
    ∷ toned_uu
    ∷ plain_i
    ∷ plain_sign
    ∷ nya_i
    ∷ []

-- the words of document 02, E5, whose rows are none of before it
abbrev pair_examples : List Example
pair_examples = bus ∷ toned_pair ∷ same_pair ∷ pair_i ∷ pair_sign ∷ nga_pair ∷ pair_behind_marks ∷ bus_car ∷ []

-- the one table of worked words that are readable
abbrev pub examples : List Example
examples = base_examples ++ (final_examples ++ pair_examples)

abbrev is_in : Edition → Example → Bool
is_in edition e = is_row_of (is_syllable_in edition) no_final e.row

abbrev is_only_since : Edition → Edition → Example → Bool
is_only_since without with e = not (is_in without e) && is_in with e

editions_right : T (every (is_in base) base_examples && (every (is_only_since base independent_finals) final_examples
    && every (λ (e : Example). not (is_in independent_finals e)) pair_examples))
unfolding is_syllable_in carries_marks carries_final
editions_right = tt

abbrev has_forms : Example → Bool
has_forms e =
    same_lists (map record_of e.row) e.records && (same_lists (weights e.row) e.weigh && same_lists (spelled e.row) e.spell)

abbrev pub is_right : Example → Bool
is_right e = is_row_after no_final e.row && (same_list (join e.row) e.word && has_forms e)

examples_right : T (every is_right examples)
unfolding record_of weights_of pick carries_marks carries_final
examples_right = tt

-- what the test says of each example
pub record Right (e : Example) : Type 0 where
  pub gives : Gives e.row e.word
  pub recorded : map record_of e.row ≡ e.records
  pub weighs : weights e.row ≡ e.weigh
  pub spells : spelled e.row ≡ e.spell

pub right : (e : Example) → T (is_right e) → Right e
right e t =
    let is = is_row_after no_final e.row in
    let joins = same_list (join e.row) e.word in
    let recorded = same_lists (map record_of e.row) e.records in
    let weigh = same_lists (weights e.row) e.weigh in
    let spell = same_lists (spelled e.row) e.spell in
    let after : T (joins && has_forms e) = both_right is (joins && has_forms e) t in
    let forms : T (has_forms e) = both_right joins (has_forms e) after in
    let last : T (weigh && spell) = both_right recorded (weigh && spell) forms in
    record {
      gives =
          record {
            is_row = both_left is (joins && has_forms e) t;
            joined = same_list_equal (join e.row) e.word (both_left joins (has_forms e) after);
          };
      recorded = same_lists_equal (map record_of e.row) e.records (both_left recorded (weigh && spell) forms);
      weighs = same_lists_equal (weights e.row) e.weigh (both_left weigh spell last);
      spells = same_lists_equal (spelled e.row) e.spell (both_right weigh spell last);
    }

pub words_right : All Right examples
words_right = every_all is_right Right right examples examples_right

-- lists of syllables, each of which breaks one rule
broken : List Row
broken =
    -- the head is no letter, or a mark, a stacker, 103F or a foreign value
    (bare 0x102C ∷ [])
    ∷ (bare 0x1039 ∷ [])
    ∷ (bare 0x103F ∷ [])
    ∷ (bare 0x1022 ∷ [])
    -- an I, N, P or S carries no medial and no vowel
    ∷ (syllable 0x1025 (group ya false false) no_vowel no_final no_tone ∷ [])
    ∷ (syllable 0x1025 no_medial (vowel_aa false) no_final no_tone ∷ [])
    ∷ (syllable 0x1023 (group ra false false) no_vowel (plain 0x1000) dot ∷ [])
    ∷ (syllable 0x104E (group ya false false) no_vowel no_final no_tone ∷ [])
    ∷ (syllable 0x104E no_medial vowel_ii (plain 0x1004) visarga ∷ [])
    -- an N, P or S other than 104E carries nothing
    ∷ (syllable 0x1040 no_medial no_vowel (plain 0x1000) no_tone ∷ [])
    ∷ (syllable 0x104A no_medial no_vowel no_final dot ∷ [])
    ∷ (syllable 0x104C no_medial no_vowel (stacked 0x1000) no_tone ∷ bare 0x1000 ∷ [])
    ∷ (syllable 0x104D no_medial no_vowel no_final visarga ∷ [])
    ∷ (syllable 0x104F no_medial no_vowel (plain 0x1000) no_tone ∷ [])
    -- a plain final 1021, and a final that is no letter
    ∷ (syllable 0x1000 no_medial no_vowel (plain 0x1021) no_tone ∷ [])
    ∷ (syllable 0x1000 no_medial no_vowel (plain 0x1025) no_tone ∷ [])
    -- a second final that is no final letter, a first that is none, and two finals of a head that carries none
    ∷ (syllable 0x1000 no_medial no_vowel (plain_pair 0x1000 0x1021) no_tone ∷ [])
    ∷ (syllable 0x1000 no_medial no_vowel (plain_pair 0x1021 0x1000) no_tone ∷ [])
    ∷ (syllable 0x1000 no_medial no_vowel (plain_pair 0x1000 0x1025) visarga ∷ [])
    ∷ (syllable 0x1040 no_medial no_vowel (plain_pair 0x1000 0x1005) no_tone ∷ [])
    ∷ (syllable 0x104C no_medial no_vowel (plain_pair 0x1000 0x1005) no_tone ∷ [])
    -- a stacked 1004, and a stacked 1021
    ∷ (syllable 0x1000 no_medial no_vowel (stacked 0x1004) no_tone ∷ bare 0x1000 ∷ [])
    ∷ (syllable 0x1000 no_medial no_vowel (stacked 0x1021) no_tone ∷ bare 0x1000 ∷ [])
    -- a tone after a stacked final, kinzi or before 103F
    ∷ (syllable 0x1000 no_medial no_vowel (stacked 0x1000) dot ∷ bare 0x1000 ∷ [])
    ∷ (syllable 0x1000 no_medial no_vowel kinzi visarga ∷ bare 0x1000 ∷ [])
    ∷ (syllable 0x1000 no_medial no_vowel great_sa dot ∷ bare 0x101E ∷ [])
    ∷ (syllable 0x1023 no_medial no_vowel great_sa visarga ∷ bare 0x101E ∷ [])
    -- a stacked final, kinzi or 103F at the end
    ∷ (syllable 0x1000 no_medial no_vowel (stacked 0x1000) no_tone ∷ [])
    ∷ (syllable 0x1000 no_medial no_vowel kinzi no_tone ∷ [])
    ∷ (syllable 0x1000 no_medial no_vowel great_sa no_tone ∷ [])
    -- a stacked final or kinzi before 1021, an I, a sign, a digit
    ∷ (syllable 0x1000 no_medial no_vowel (stacked 0x1000) no_tone ∷ bare 0x1021 ∷ [])
    ∷ (syllable 0x1000 no_medial no_vowel kinzi no_tone ∷ bare 0x1025 ∷ [])
    ∷ (syllable 0x1000 no_medial no_vowel (stacked 0x1000) no_tone ∷ syllable 0x1025 no_medial no_vowel no_final visarga ∷ [])
    ∷ (syllable 0x1025 no_medial no_vowel (stacked 0x1000) no_tone ∷ bare 0x104E ∷ [])
    ∷ (syllable 0x1000 no_medial no_vowel (stacked 0x1000) no_tone ∷ bare 0x1040 ∷ [])
    -- 103F begins a syllable with the head 101E alone, and follows a syllable that carries a final alone
    ∷ (syllable 0x1000 no_medial no_vowel great_sa no_tone ∷ bare 0x1000 ∷ [])
    ∷ (syllable 0x1040 no_medial no_vowel great_sa no_tone ∷ bare 0x101E ∷ [])
    ∷ []

broken_right : T (every (λ (row : Row). not (is_row_after no_final row)) broken)
unfolding broken carries_marks carries_final
broken_right = tt

-- values that are no medial group, no vowel and no tone: Y with R, an order other than Y R W H, a member twice; 103A after AA without
-- 1031, AA before E, two vowels; two tones
unwritten : List (List ℕ)
unwritten =
    (0x103B ∷ 0x103C ∷ [])
    ∷ (0x103C ∷ 0x103B ∷ [])
    ∷ (0x103D ∷ 0x103B ∷ [])
    ∷ (0x103E ∷ 0x103D ∷ [])
    ∷ (0x103B ∷ 0x103B ∷ [])
    ∷ (0x102C ∷ 0x103A ∷ [])
    ∷ (0x102C ∷ 0x1031 ∷ [])
    ∷ (0x102C ∷ 0x102D ∷ [])
    ∷ (0x102F ∷ 0x102D ∷ [])
    ∷ (0x1037 ∷ 0x1038 ∷ [])
    ∷ (0x1038 ∷ 0x1038 ∷ [])
    ∷ []

abbrev is_unwritten : List ℕ → Bool
is_unwritten text =
    every (λ (g : MedialGroup). not (same_list (medial_text g) text)) medial_groups
    && (every (λ (v : Vowel). not (same_list (vowel_text v) text)) vowels && every (λ (t : ToneMark). not (same_list (tone_text t) text)) tone_marks)

unwritten_right : T (every is_unwritten unwritten)
unfolding unwritten
unwritten_right = tt
