-- Document 02's labels in the program `labels`: what is printed for a line behind its number.
-- Assumes nothing.
use Rattle.std.specs.Prelude.{◌≡◌, List, ◌∷◌, ℕ}
use Rattle.lines.specs.Line.{Decodes, LineRefused}
use Rattle.labelling.specs.Labelling.{IsLabel, LabelRefusedWith, skeleton}
use Rattle.key_text.specs.Text.{values_text}
use Rattle.answer_text.specs.Answer.{refused_text}

-- OK, and the values of a skeleton
unfoldable pub skeleton_text : List ℕ → List ℕ
skeleton_text values = 0x4F ∷ 0x4B ∷ 0x20 ∷ values_text values

-- what is printed for a word: "Each label has a skeleton", and what is no label is refused
pub data WordLabelText (word text : List ℕ) : Type 0 where
  is_label : {n : ℕ} → IsLabel word n → text ≡ skeleton_text (skeleton word) → WordLabelText word text
  no_label : {number place : ℕ} → LabelRefusedWith word number place → text ≡ refused_text number place → WordLabelText word text

-- what is printed for a line: that of its word, or the refusal of the line
pub data LabelText (line text : List ℕ) : Type 0 where
  of_word : {word : List ℕ} → Decodes line word → WordLabelText word text → LabelText line text
  line_refused : {number place : ℕ} → LineRefused line number place → text ≡ refused_text number place → LabelText line text
