-- The lines of two of document 01's example, of an input whose last line has no 0A behind it, and of none: cut from their bytes. And the first number.
-- Assumes nothing.
use mathlib.Core.Path.{◌≡◌, refl}
use mathlib.Core.List.{List, [], ◌∷◌, map}
use Prim.Native.Nat.{ℕ}
use lib.ListN.{take}
use Rattle.letters.specs.Choice.{pick}
use Rattle.key_text.specs.Text.{digit_of, decimal_of}
use Rattle.line_printing.specs.Printed.{printed}
use Rattle.line_splitting.specs.Lines.{cut_from, lines_of}
use Rattle.line_splitting.specs.Taken.{Prints, more}
use Rattle.line_splitting.specs.Following.{Follows}

-- an input and its lines
unfoldable pub inputs : List (List ℕ × List (List ℕ))
inputs =
    -- 1000 1039, and an empty line: "all ended by 0A"
    (
      0xE1 ∷ 0x80 ∷ 0x80 ∷ 0xE1 ∷ 0x80 ∷ 0xB9 ∷ 0x0A ∷ 0x0A ∷ [],
      (0xE1 ∷ 0x80 ∷ 0x80 ∷ 0xE1 ∷ 0x80 ∷ 0xB9 ∷ []) ∷ [] ∷ [],
    )
    -- "a last line without it counts if it has a byte"; 0D ends none, nor does 00
    ∷ (0x0D ∷ 0x0A ∷ 0x00 ∷ [], (0x0D ∷ []) ∷ (0x00 ∷ []) ∷ [])
    ∷ ([], [])
    ∷ []

pub inputs_cut : map (λ (i : List ℕ × List (List ℕ)). lines_of i.0) inputs ≡ map (λ (i : List ℕ × List (List ℕ)). i.1) inputs
unfolding inputs cut_from pick
inputs_cut = refl

-- "line number from 1": what is printed for a first line, here an empty one, begins with "1 "
pub first_numbered : (Answers : List ℕ → List ℕ → Type 0) (pending text : List ℕ) (held number : ℕ) → Follows Answers (0x0A ∷ []) pending held number text → take 2 text ≡ 0x31 ∷ 0x20 ∷ []
unfolding cut_from pick printed decimal_of digit_of
first_numbered Answers pending text held number f = go f.prints
  where
    go : {printed_text : List ℕ} → Prints Answers 1 ([] ∷ []) printed_text → take 2 printed_text ≡ 0x31 ∷ 0x20 ∷ []
    go (more answer right rest) = refl
