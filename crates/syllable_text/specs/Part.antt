-- A syllable's part behind one with a link: how many values it has, and how it is written to an output.
-- Assumes nothing.
use Rattle.std.specs.Prelude.{◌≡◌, List, ◌∷◌, ◌++◌, ℕ, ◌+◌, ◌≤◌, eqb, length, take, drop}
use Rattle.letters.specs.Choice.{pick}
use Rattle.letters.specs.Marks.{medial_text, vowel_text, tone_text}
use Rattle.formula.specs.Syllable.{no_final, Syllable, syllable, final_text, part}
use Rattle.syllable_record.specs.Decode.{syllable_of}

-- "103F is at once a final 101E of the syllable before and the head 101E of its own."
unfoldable pub head_after : ℕ → ℕ → ℕ
head_after link h = pick (eqb link 3) 0x103F h

-- the part of a syllable behind one with the link
unfoldable pub part_after : ℕ → Syllable → List ℕ
part_after link (syllable h m v f t) = head_after link h ∷ (medial_text m ++ (vowel_text v ++ (final_text f ++ tone_text t)))

-- the output with these values from a place on, the rest untouched
abbrev pub overwritten : List ℕ → ℕ → List ℕ → List ℕ
overwritten before at values = take at before ++ values ++ drop (at + length values) before

-- the part stands in the output from the place on, and the place behind it is given
pub record PartPut (before after : List ℕ) (at : ℕ) (part : List ℕ) (behind : ℕ) : Type 0 where
  pub put : after ≡ overwritten before at part
  pub behind_it : behind ≡ at + length part

-- the size of a syllable's part, whatever stands before it; so small that a sum of two fits
pub record PartSize (bytes : List ℕ) (size : ℕ) : Type 0 where
  pub counted : size ≡ length (part no_final (syllable_of bytes))
  pub small : size ≤ 12
