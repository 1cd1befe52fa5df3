-- Document 01, "Syllable records", and document 02, E5: the tests that tell a record from other bytes, by the bytes themselves.
-- Assumes nothing.
use Rattle.std.specs.Prelude.{Bool, ◌&&◌, ◌||◌, List, [], ◌∷◌, ℕ, ◌+◌, eqb, leb, get_or}
use Rattle.letters.specs.Choice.{pick}
use Rattle.letters.specs.Weights.{is_head, is_final_letter}
use Rattle.formula.specs.Syllable.{carries_marks, carries_final}
use Rattle.formula.specs.Record.{link_place}
use Rattle.syllable_record.specs.declared.Record.{Record}

-- the bytes in their order
abbrev pub bytes_of : Record → List ℕ
bytes_of r = r.head ∷ r.medial ∷ r.vowel ∷ r.tall ∷ r.letter ∷ r.second_letter ∷ r.link ∷ r.tone ∷ []

-- a vowel's weight, and "1 for a tall AA, else 0"
unfoldable pub is_vowel_numbers : ℕ → ℕ → Bool
is_vowel_numbers weight tall = leb weight 12 && (eqb tall 0 || (eqb tall 1 && (eqb weight 1 || eqb weight 8 || eqb weight 9)))

-- a final letter's number and its link, which are both 0 or neither; great sa is a final 101E
unfoldable pub is_final_numbers : ℕ → ℕ → Bool
is_final_numbers letter link =
    (eqb link 0 && eqb letter 0) || (leb 1 link && leb link 2 && leb 1 letter && leb letter 33) || (eqb link 3 && eqb letter 31)

-- the number of a second final, or 0; "a syllable with a plain final may take" one
unfoldable pub is_second_final_number : ℕ → ℕ → Bool
is_second_final_number second link = pick (eqb link 1) (leb second 33) (eqb second 0)

-- a tone's weight; links 2 and 3 "take no tone"
unfoldable pub is_tone_number : ℕ → ℕ → Bool
is_tone_number link tone = leb tone 2 && (leb link 1 || eqb tone 0)

-- what a link asks of the next syllable's head
unfoldable pub link_admits : ℕ → ℕ → Bool
link_admits link head = leb link 1 || (eqb link 2 && is_final_letter head) || (eqb link 3 && eqb head 0x101E)

-- bytes that are a syllable's record. "For an I, N, P or S the last six are 0", but document 02, E2, lets those of an I and 104E "carry final, link
-- and tone", and E5 a second final with them
unfoldable pub is_record : List ℕ → Bool
is_record bytes =
    is_head (0x1000 + get_or bytes 0 0)
    && leb (get_or bytes 1 0) 11
    && is_vowel_numbers (get_or bytes 2 0) (get_or bytes 3 0)
    && is_final_numbers (get_or bytes 4 0) (get_or bytes link_place 0)
    && is_second_final_number (get_or bytes 5 0) (get_or bytes link_place 0)
    && is_tone_number (get_or bytes link_place 0) (get_or bytes 7 0)
    && (carries_marks (0x1000 + get_or bytes 0 0) || (eqb (get_or bytes 1 0) 0 && eqb (get_or bytes 2 0) 0))
    && (carries_final (0x1000 + get_or bytes 0 0) || (eqb (get_or bytes link_place 0) 0 && eqb (get_or bytes 7 0) 0))

-- a record that stands behind one with the link
unfoldable pub may_follow : ℕ → List ℕ → Bool
may_follow link bytes = link_admits link (0x1000 + get_or bytes 0 0) && is_record bytes
