-- Document 02: "A label is a word that also meets three rules. [..] The word is normalised first." Each rule is a test over the stored form of a word.
-- Assumes nothing.
use Rattle.std.specs.Prelude.{◌≡◌, ◌<◌, ◌≤◌, MatchOption, Bool, false, not, ◌&&◌, ◌||◌, List, ℕ, zero, suc, eqb, ltb, length, get_or, slice_get, Option, Some, None}
use Rattle.letters.specs.Choice.{pick}
use Rattle.letters.specs.Letters.{is_digit, is_stop, is_sign}
use Rattle.formula.specs.Limits.{label_limit}
use Rattle.refusals.specs.Outcome.{Outcome, accepts, refuses}

-- the first place at which a test passes, of so many from a place on; the place behind them where there is none
abbrev pub first_from : (ℕ → Bool) → ℕ → ℕ → ℕ
first_from test place zero = place
first_from test place (suc count) = pick (test place) place (first_from test (suc place) count)

-- what a search answers: that place, or that there is none
abbrev pub IsFirst : (ℕ → Bool) → ℕ → Option ℕ → Type 0
IsFirst test size found =
    MatchOption found (size ≤ first_from test 0 size) (λ place. (place < size) × (place ≡ first_from test 0 size))

-- "It has no stop and no sign.": the value at a place is one
unfoldable pub is_stop_or_sign : List ℕ → ℕ → Bool
is_stop_or_sign word place = is_stop (get_or word place 0) || is_sign (get_or word place 0)

-- the digits that look like a letter
unfoldable pub looks_like_letter : ℕ → Bool
looks_like_letter x = eqb x 0x1040 || eqb x 0x1047

-- "a value that isn't a digit"; past an end of the word stands none
unfoldable pub is_other : Option ℕ → Bool
is_other None = false
is_other (Some x) = not (is_digit x)

-- what stands before a place
abbrev pub value_before : List ℕ → ℕ → Option ℕ
value_before word zero = None
value_before word (suc place) = slice_get word place

-- "No 1040 or 1047 stands next to a value that isn't a digit.": the value at a place does
unfoldable pub is_confusable : List ℕ → ℕ → Bool
is_confusable word place = looks_like_letter (get_or word place 0) && (is_other (value_before word place) || is_other (slice_get word (suc place)))

-- "the first stop or sign", or the word's length
abbrev pub first_stop_or_sign : List ℕ → ℕ
first_stop_or_sign word = first_from (is_stop_or_sign word) 0 (length word)

-- "the first such digit", or the word's length
abbrev pub first_confusable : List ℕ → ℕ
first_confusable word = first_from (is_confusable word) 0 (length word)

-- "21 for the first stop or sign and 22 for the first such digit, both with its place in the normalised word, and 23 with place 10, the limit, for too
-- many syllables": what is answered to a stored form of so many syllables
unfoldable pub label_of : List ℕ → ℕ → Outcome
label_of word syllables =
    pick (ltb (first_stop_or_sign word) (length word)) (refuses 21 (first_stop_or_sign word))
    (pick (ltb (first_confusable word) (length word)) (refuses 22 (first_confusable word))
    (pick (ltb label_limit syllables) (refuses 23 label_limit) (accepts syllables)))
