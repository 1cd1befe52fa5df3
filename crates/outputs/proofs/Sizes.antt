-- How much is written: a record has eight bytes, and a decoded line at most as many values as a word has, since each takes three bytes.
-- Assumes nothing.
use mathlib.Core.Path.{◌≡◌, ap, ◌∙◌}
use mathlib.Core.List.{List}
use Prim.Native.Nat.{ℕ, ◌≤◌}
use native.Mathlib.Omega.{arith}
use lib.ListN.{length, get_or}
use Rattle.formula.specs.Limits.{limit, record_size}
use Rattle.formula.specs.Syllable.{bare}
use Rattle.formula.proofs.Records.{record_length}
use Rattle.lines.specs.Line.{Decodes}
use Rattle.lines.proofs.RoundTrip.{encode_decode, length_encode}
use Rattle.reading.specs.Records.{HasRecord}

pub record_long : (word : List ℕ) (number : ℕ) (bytes : List ℕ) → HasRecord word number bytes → length bytes ≡ record_size
record_long word number bytes r = ap length r.is ∙ record_length (get_or r.row number (bare 0x1000))

pub word_short : (line word : List ℕ) → Decodes line word → length word ≤ limit
word_short line word d = let short = d.short in omega (arith, length_encode word, ap length (encode_decode 0 line word d.into))
