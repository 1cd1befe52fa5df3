-- Document 01, "The syllable": a row spelled out.
-- Assumes nothing.
use Rattle.std.specs.Prelude.{List, [], ◌∷◌, ◌++◌, ℕ}
use Rattle.letters.specs.Marks.{medial_text, vowel_text, tone_text}
use Rattle.formula.specs.Syllable.{Final, no_final, plain, plain_pair, stacked, kinzi, great_sa, Syllable, syllable}
use Rattle.formula.specs.Row.{Row}

-- "a stacked final or kinzi becomes the letter and 103A, and 103F becomes 101E 103A, a boundary, 101E"
abbrev pub spelled_final : Final → List ℕ
spelled_final no_final = []
spelled_final (plain c) = c ∷ 0x103A ∷ []
spelled_final (plain_pair c d) = c ∷ 0x103A ∷ d ∷ 0x103A ∷ []
spelled_final (stacked c) = c ∷ 0x103A ∷ []
spelled_final kinzi = 0x1004 ∷ 0x103A ∷ []
spelled_final great_sa = 0x101E ∷ 0x103A ∷ []

abbrev pub spelled_of : Syllable → List ℕ
spelled_of (syllable h m v f t) = h ∷ (medial_text m ++ (vowel_text v ++ (spelled_final f ++ tone_text t)))

-- the spelled syllables of a row, in its order
abbrev pub spelled : Row → List (List ℕ)
spelled [] = []
spelled (s ∷ row) = spelled_of s ∷ spelled row
