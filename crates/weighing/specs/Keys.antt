-- Document 01, "Weights", and document 02, E5: "A key then needs 384 bytes", of which six a syllable are used. "The rest are zero".
-- Assumes nothing.
use Rattle.std.specs.Prelude.{List, [], ◌∷◌, ◌++◌, ℕ, ◌*◌, ◌-◌, length, replicate}
use Rattle.formula.specs.Limits.{limit, weight_count}
use Rattle.formula.specs.Row.{Row}
use Rattle.formula.specs.Weighing.{weights_of}

-- the bytes of a key that are used: one for each weight of a syllable, six
abbrev pub used_bytes : ℕ → ℕ
used_bytes n = weight_count * n

-- "A key then needs 384 bytes"
abbrev pub key_limit : ℕ
key_limit = used_bytes limit

abbrev pub zeros : ℕ → List ℕ
zeros n = replicate n 0

-- the weights of a row, joined
abbrev pub key_of : Row → List ℕ
key_of [] = []
key_of (s ∷ row) = weights_of s ++ key_of row

-- and the zeros behind them
abbrev pub key_bytes : Row → List ℕ
key_bytes row = key_of row ++ zeros (key_limit - used_bytes (length row))
