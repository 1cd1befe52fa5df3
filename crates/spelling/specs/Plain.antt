-- A syllable with its final made plain, and how a packed syllable is spelled. The laws and the inner contracts cite it.
-- Assumes nothing.
use Rattle.std.specs.Prelude.{List, map, ℕ, min, get_or, set}
use Rattle.formula.specs.Syllable.{Final, no_final, plain, plain_pair, stacked, kinzi, great_sa, Syllable, syllable, part}
use Rattle.formula.specs.Record.{link_place}
use Rattle.reading.specs.Records.{bytes_by}
use Rattle.syllable_record.specs.Decode.{syllable_of}

-- the plain final with the same letter, or the two with the same letters
abbrev pub plain_final : Final → Final
plain_final no_final = no_final
plain_final (plain c) = plain c
plain_final (plain_pair c d) = plain_pair c d
plain_final (stacked c) = plain c
plain_final kinzi = plain 0x1004
plain_final great_sa = plain 0x101E

-- the syllable with the same head, medial group, vowel and tone, and the plain final
abbrev pub plain_of : Syllable → Syllable
plain_of (syllable h m v f t) = syllable h m v (plain_final f) t

-- the link of a plain final where there is a final
abbrev pub plain_link : ℕ → ℕ
plain_link link = min link 1

-- the record with a plain link
abbrev pub plain_bytes : List ℕ → List ℕ
plain_bytes bytes = set bytes link_place (plain_link (get_or bytes link_place 0))

-- how a packed syllable is spelled
unfoldable pub spelled_by : ℕ → List ℕ
spelled_by packed = part no_final (syllable_of (plain_bytes (bytes_by packed)))

-- packed syllables, each spelled
abbrev pub spelled_each : List ℕ → List (List ℕ)
spelled_each syllables = map spelled_by syllables
