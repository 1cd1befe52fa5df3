-- One three of a line, as the code reads it; `Line.antt` says what the whole line is.
-- Assumes nothing.
use Rattle.std.specs.Prelude.{List, [], ◌∷◌, ℕ}
use Rattle.letters.specs.Choice.{pick}
use Rattle.lines.specs.Line.{is_three, value_of}
use Rattle.std.specs.declared.option.Option.{Option}
use Rattle.std.specs.declared.option.Option.TheVariants.{None, Some}

-- three bytes: their value, or that they are no three
unfoldable pub three_of : ℕ → ℕ → ℕ → Option ℕ
three_of a b c = pick (is_three a b c) (Some (value_of b c)) None

-- the value of what is cut from a line, three bytes or what is left of it; "or is short"
abbrev pub value_in : List ℕ → Option ℕ
value_in [] = None
value_in (a ∷ []) = None
value_in (a ∷ b ∷ []) = None
value_in (a ∷ b ∷ c ∷ []) = three_of a b c
value_in (a ∷ b ∷ c ∷ d ∷ bytes) = None
