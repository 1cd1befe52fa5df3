-- The record of a syllable has as many bytes as a record has, and so have the records of a row together, one behind the other.
-- Assumes nothing.
use mathlib.Core.Path.{◌≡◌, refl}
use mathlib.Core.List.{[], ◌∷◌}
use Prim.Native.Nat.{◌*◌}
use native.Mathlib.Omega.{arith}
use lib.ListN.{length, length-append}
use Rattle.formula.specs.Limits.{record_size}
use Rattle.formula.specs.Syllable.{Syllable, syllable}
use Rattle.formula.specs.Row.{Row}
use Rattle.formula.specs.Record.{record_of, record_bytes}

pub record_length : (s : Syllable) → length (record_of s) ≡ record_size
unfolding record_of
record_length (syllable h m v f t) = refl

pub records_length : (row : Row) → length (record_bytes row) ≡ record_size * length row
records_length [] = refl
records_length (s ∷ row) = omega (arith, length-append (record_of s) (record_bytes row), record_length s, records_length row)
