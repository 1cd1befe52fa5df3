-- Document 01, "The letters": the 75 admitted values by class, and the kind of every value.
-- Assumes nothing.
use Rattle.std.specs.Prelude.{Bool, ◌&&◌, ◌||◌, ℕ, eqb, leb}
use Rattle.letters.specs.Choice.{pick}
use Rattle.letters.specs.declared.kind.Kind.{Kind}
use Rattle.letters.specs.declared.kind.Kind.TheVariants.{Consonant, IndependentVowel, Medial, VowelMark, Tone, Killer, Stacker, GreatSa, Digit, Stop, Sign, Foreign}

-- x is one of the values from a to b
abbrev pub within : ℕ → ℕ → ℕ → Bool
within a b x = leb a x && leb x b

-- "C, 34 letters: 1000 to 1021."
abbrev pub is_consonant : ℕ → Bool
is_consonant x = within 0x1000 0x1021 x

-- "I, independent vowels: 1023 to 1027, 1029, 102A."
abbrev pub is_independent_vowel : ℕ → Bool
is_independent_vowel x = within 0x1023 0x1027 x || within 0x1029 0x102A x

-- "Medials: 103B (Y), 103C (R), 103D (W), 103E (H)."
abbrev pub is_medial : ℕ → Bool
is_medial x = within 0x103B 0x103E x

-- "Vowel marks: 102B (tall AA), 102C (AA), 102D (I), 102E (II), 102F (U), 1030 (UU), 1031 (E), 1032, 1036 (AM)."
abbrev pub is_vowel_mark : ℕ → Bool
is_vowel_mark x = within 0x102B 0x1032 x || eqb x 0x1036

-- "Tones: 1037 (dot), 1038 (visarga)."
abbrev pub is_tone : ℕ → Bool
is_tone x = within 0x1037 0x1038 x

-- "Killer: 103A. Stacker: 1039. Great sa: 103F."
abbrev pub is_killer : ℕ → Bool
is_killer x = eqb x 0x103A

abbrev pub is_stacker : ℕ → Bool
is_stacker x = eqb x 0x1039

abbrev pub is_great_sa : ℕ → Bool
is_great_sa x = eqb x 0x103F

-- "N, digits: 1040 to 1049. P, stops: 104A, 104B. S, signs: 104C to 104F."
abbrev pub is_digit : ℕ → Bool
is_digit x = within 0x1040 0x1049 x

abbrev pub is_stop : ℕ → Bool
is_stop x = within 0x104A 0x104B x

abbrev pub is_sign : ℕ → Bool
is_sign x = within 0x104C 0x104F x

-- the class that has the value; "Everything else is foreign"
abbrev pub kind_of : ℕ → Kind
kind_of x =
    pick (is_consonant x) Consonant
    (pick (is_independent_vowel x) IndependentVowel
    (pick (is_medial x) Medial
    (pick (is_vowel_mark x) VowelMark
    (pick (is_tone x) Tone
    (pick (is_killer x) Killer
    (pick (is_stacker x) Stacker
    (pick (is_great_sa x) GreatSa
    (pick (is_digit x) Digit
    (pick (is_stop x) Stop
    (pick (is_sign x) Sign Foreign))))))))))

-- the value has one of the eleven classes
abbrev pub is_admitted : ℕ → Bool
is_admitted x =
    is_consonant x || (is_independent_vowel x || (is_medial x || (is_vowel_mark x || (is_tone x || (is_killer x || (is_stacker x || (is_great_sa x || (is_digit x || (is_stop x || is_sign x)))))))))
