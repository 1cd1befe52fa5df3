-- Document 01: "At most 64 code values make a word." The limit stands here and in the associated constants of the word type.
-- Assumes nothing.
use Rattle.std.specs.Prelude.{ℕ, ◌*◌}

-- the most values of a word
abbrev pub limit : ℕ
limit = 64

-- the most bytes of a line: three for each value
abbrev pub line_limit : ℕ
line_limit = 3 * limit

-- Document 02, E6: a label "has at most ten syllables"
abbrev pub label_limit : ℕ
label_limit = 10

-- Document 02, E5: "A record gains a second final weight after the first, eight bytes in all"
abbrev pub record_size : ℕ
record_size = 8

-- "Five weights a syllable", and "A key gains a sixth weight": a byte of a key each
abbrev pub weight_count : ℕ
weight_count = 6
