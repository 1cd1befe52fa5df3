-- Document 01, "The program `wordlist`": numbers and keys as text, in bytes; and values as the program `labels` prints them.
-- Assumes nothing.
use Rattle.std.specs.Prelude.{List, [], ◌∷◌, ◌++◌, ℕ, zero, suc, ◌+◌, ◌*◌, ◌-◌, ◌/◌, ◌%◌, ltb, length, get_or}
use Rattle.letters.specs.Choice.{pick}
use Rattle.formula.specs.Limits.{limit, weight_count}
use Rattle.weighing.specs.Keys.{used_bytes}

-- "upper-case": the byte of a digit below 16, 0 to 9 and then A to F
unfoldable pub digit_of : ℕ → ℕ
digit_of value = pick (ltb value 10) (0x30 + value) (0x41 + (value - 10))

-- the digits of a number in decimal, as many as the first number allows: the digits of the tenth part, and then the last
abbrev pub decimal_within : ℕ → ℕ → List ℕ
decimal_within zero number = []
decimal_within (suc most) number =
    pick (ltb number 10) (digit_of number ∷ []) (decimal_within most (number / 10) ++ (digit_of (number % 10) ∷ []))

-- a number in decimal, without leading zeros; it never has more digits than the number itself and one
unfoldable pub decimal_of : ℕ → List ℕ
decimal_of number = decimal_within (suc number) number

-- a byte "in upper-case hexadecimal", two digits
abbrev pub hexadecimal_of : ℕ → List ℕ
hexadecimal_of byte = digit_of (byte / 16) ∷ digit_of (byte % 16) ∷ []

-- so many bytes of a list from a place on, one behind the other
abbrev pub hexadecimals_of : ℕ → List ℕ → ℕ → List ℕ
hexadecimals_of zero bytes from = []
hexadecimals_of (suc count) bytes from = hexadecimals_of count bytes from ++ hexadecimal_of (get_or bytes (from + count) 0)

-- the weights of a syllable of a key
unfoldable pub syllable_text : List ℕ → ℕ → List ℕ
syllable_text key syllable = hexadecimals_of weight_count key (used_bytes syllable)

-- a value in upper-case hexadecimal, four digits: those of its high byte, and then of its low one
unfoldable pub value_text : ℕ → List ℕ
value_text value = hexadecimal_of (value / 256) ++ hexadecimal_of (value % 256)

-- the value at a place of a list
unfoldable pub value_text_at : List ℕ → ℕ → List ℕ
value_text_at values place = value_text (get_or values place 0)

-- the elements behind the first, as many as the number says, each behind a hyphen
abbrev pub further_text : (ℕ → List ℕ) → ℕ → List ℕ
further_text element zero = []
further_text element (suc count) = further_text element count ++ (0x2D ∷ element (suc count))

-- the texts of so many elements "with hyphens between" them "(one hyphen for none)"
abbrev pub hyphenated : (ℕ → List ℕ) → ℕ → List ℕ
hyphenated element zero = 0x2D ∷ []
hyphenated element (suc count) = element 0 ++ further_text element count

-- "with hyphens between syllables (one hyphen for none)"
abbrev pub key_text : ℕ → List ℕ → List ℕ
key_text count key = hyphenated (syllable_text key) count

-- values with hyphens between them, and one hyphen for none
abbrev pub values_text : List ℕ → List ℕ
values_text values = hyphenated (value_text_at values) (length values)

-- the most digits of a number of 64 bits in decimal
abbrev pub decimal_limit : ℕ
decimal_limit = 20

-- the bytes of a syllable's text: two digits for each weight
abbrev pub syllable_text_size : ℕ
syllable_text_size = 2 * weight_count

-- the most bytes of a key's text: for each syllable its weights and a hyphen
abbrev pub key_text_limit : ℕ
key_text_limit = suc syllable_text_size * limit

-- the bytes of a value's text: two digits for each byte
abbrev pub value_text_size : ℕ
value_text_size = 4
