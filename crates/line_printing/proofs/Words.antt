-- The whole output of document 01's example, with six weights a syllable, and a line of the program `labels`: what is printed for each line, byte by byte.
-- Assumes nothing.
use mathlib.Core.Path.{◌≡◌, refl}
use mathlib.Core.List.{List, [], ◌∷◌, ◌++◌}
use Prim.Native.Nat.{ℕ}
use Rattle.letters.specs.Choice.{pick}
use Rattle.key_text.specs.Text.{digit_of, decimal_of, syllable_text, value_text, value_text_at}
use Rattle.answer_text.specs.Answer.{refused_text}
use Rattle.printing.specs.Output.{accepted_text}
use Rattle.label_printing.specs.Output.{skeleton_text}
use Rattle.line_printing.specs.Printed.{printed}

-- the weights of 1010 1000 1039 1000 101E 102D 102F 101C 103A
abbrev key : List ℕ
key = 0x1D ∷ 0 ∷ 1 ∷ 0 ∷ 0 ∷ 0 ∷ 0x0D ∷ 0 ∷ 0 ∷ 0 ∷ 0 ∷ 0 ∷ 0x2B ∷ 0 ∷ 0x1D ∷ 0 ∷ 0x0B ∷ 0 ∷ []

-- "1 OK 3 1D0001000000-0D0000000000-2B001D000B00", "2 NO 3 1" and "3 OK 0 -", each with 0A behind it
pub example_printed :
    printed 1 (accepted_text 3 key) ++ (printed 2 (refused_text 3 1) ++ printed 3 (accepted_text 0 []))
    ≡ 0x31 ∷ 0x20 ∷ 0x4F ∷ 0x4B ∷ 0x20 ∷ 0x33 ∷ 0x20
    ∷ 0x31 ∷ 0x44 ∷ 0x30 ∷ 0x30 ∷ 0x30 ∷ 0x31 ∷ 0x30 ∷ 0x30 ∷ 0x30 ∷ 0x30 ∷ 0x30 ∷ 0x30 ∷ 0x2D
    ∷ 0x30 ∷ 0x44 ∷ 0x30 ∷ 0x30 ∷ 0x30 ∷ 0x30 ∷ 0x30 ∷ 0x30 ∷ 0x30 ∷ 0x30 ∷ 0x30 ∷ 0x30 ∷ 0x2D
    ∷ 0x32 ∷ 0x42 ∷ 0x30 ∷ 0x30 ∷ 0x31 ∷ 0x44 ∷ 0x30 ∷ 0x30 ∷ 0x30 ∷ 0x42 ∷ 0x30 ∷ 0x30 ∷ 0x0A
    ∷ 0x32 ∷ 0x20 ∷ 0x4E ∷ 0x4F ∷ 0x20 ∷ 0x33 ∷ 0x20 ∷ 0x31 ∷ 0x0A
    ∷ 0x33 ∷ 0x20 ∷ 0x4F ∷ 0x4B ∷ 0x20 ∷ 0x30 ∷ 0x20 ∷ 0x2D ∷ 0x0A ∷ []
unfolding printed accepted_text refused_text decimal_of syllable_text digit_of pick
example_printed = refl

-- "12 OK 101E-103C", the skeleton of 1029
pub label_printed :
    printed 12 (skeleton_text (0x101E ∷ 0x103C ∷ []))
    ≡ 0x31 ∷ 0x32 ∷ 0x20 ∷ 0x4F ∷ 0x4B ∷ 0x20 ∷ 0x31 ∷ 0x30 ∷ 0x31 ∷ 0x45 ∷ 0x2D ∷ 0x31 ∷ 0x30 ∷ 0x33 ∷ 0x43 ∷ 0x0A ∷ []
unfolding printed skeleton_text decimal_of value_text value_text_at digit_of pick
label_printed = refl
