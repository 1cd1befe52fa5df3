-- Document 02: "Each label has a skeleton": the values of its stored form, those that look like others replaced.
-- Assumes nothing.
use Rattle.std.specs.Prelude.{Bool, ◌||◌, List, [], ◌∷◌, ◌++◌, ℕ, zero, suc, ◌+◌, ◌-◌, ◌*◌, min, max, eqb}
use Rattle.letters.specs.Choice.{pick}
use Rattle.formula.specs.Limits.{limit, label_limit}

-- "1040 becomes 101D, 1047 becomes 101B, 1025 becomes 1009, and 1029 becomes 101E 103C"
unfoldable pub replaced : ℕ → List ℕ
replaced x =
    pick (eqb x 0x1040) (0x101D ∷ [])
    (pick (eqb x 0x1047) (0x101B ∷ [])
    (pick (eqb x 0x1025) (0x1009 ∷ [])
    (pick (eqb x 0x1029) (0x101E ∷ 0x103C ∷ [])
    (x ∷ []))))

-- value by value
abbrev pub skeleton_of : List ℕ → List ℕ
skeleton_of [] = []
skeleton_of (x ∷ word) = replaced x ++ skeleton_of word

-- the four values that are replaced
unfoldable pub is_replaced : ℕ → Bool
is_replaced x = eqb x 0x1040 || (eqb x 0x1047 || (eqb x 0x1025 || eqb x 0x1029))

-- the most values of the skeleton of a label with at most so many values and so many syllables that begin with 1029: such a syllable has at most six
-- values and one more in the skeleton, any other has at most twelve, and there are no more syllables than a label's
abbrev pub skeleton_most : ℕ → ℕ → ℕ
skeleton_most most doubled = min most (6 * doubled + 12 * (label_limit - doubled)) + doubled

-- the largest that a function has up to a number
abbrev pub largest : (ℕ → ℕ) → ℕ → ℕ
largest f zero = f zero
largest f (suc n) = max (f (suc n)) (largest f n)

-- the most values of a skeleton, where a word has at most so many
abbrev pub skeleton_limit_within : ℕ → ℕ
skeleton_limit_within most = largest (skeleton_most most) label_limit

abbrev pub skeleton_limit : ℕ
skeleton_limit = skeleton_limit_within limit
