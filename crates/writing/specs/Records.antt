-- Document 01, "Syllable records", and document 02, E5: the tests that tell the records of a row from other bytes, and the row that they are read as.
-- Assumes nothing.
use Rattle.std.specs.Prelude.{Bool, ◌&&◌, List, [], ◌∷◌, map, ℕ, ◌/◌, ◌%◌, eqb, leb, length, get_or}
use Rattle.std.specs.Simd.{first_chunks}
use Rattle.formula.specs.Limits.{record_size}
use Rattle.formula.specs.Row.{Row}
use Rattle.formula.specs.Record.{link_place}
use Rattle.syllable_record.specs.Decode.{syllable_of}
use Rattle.syllable_record.specs.Record.{may_follow}

-- "a writer's row has eight bytes a syllable", in word order: the records
unfoldable pub records_of : List ℕ → List (List ℕ)
records_of bytes = first_chunks record_size (length bytes / record_size) bytes

-- the syllables of the records
unfoldable pub row_of : List ℕ → Row
row_of bytes = map syllable_of (records_of bytes)

-- behind a record with the link: each may follow the one before it, and the last waits for none
abbrev pub each_follows : ℕ → List (List ℕ) → Bool
each_follows link [] = leb link 1
each_follows link (next ∷ records) = may_follow link next && each_follows (get_or next link_place 0) records

-- the bytes are the records of a row after a syllable with the link; a list whose length is no multiple of eight is no such row
unfoldable pub are_records : ℕ → List ℕ → Bool
are_records link bytes = eqb (length bytes % record_size) 0 && each_follows link (records_of bytes)
