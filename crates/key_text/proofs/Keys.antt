-- The text of a key: how long that of a syllable is, and of all.
-- Assumes nothing.
use mathlib.Core.Path.{◌≡◌, refl}
use mathlib.Core.List.{List}
use Prim.Native.Nat.{ℕ, zero, suc, ◌*◌, ◌≤◌}
use native.Mathlib.Omega.{arith}
use lib.ListN.{length, length-append}
use Rattle.formula.specs.Limits.{limit, weight_count}
use Rattle.weighing.specs.Keys.{used_bytes}
use Rattle.key_text.specs.Text.{hexadecimals_of, syllable_text, key_text, syllable_text_size, key_text_limit}
use Rattle.key_text.proofs.Hyphens.{hyphenated_short}

pub hexadecimals_length : (count : ℕ) (bytes : List ℕ) (from : ℕ) → length (hexadecimals_of count bytes from) ≡ 2 * count
hexadecimals_length zero bytes from = refl
hexadecimals_length (suc count) bytes from = rw length-append (omega (arith, hexadecimals_length count bytes from))

pub syllable_length : (key : List ℕ) (syllable : ℕ) → length (syllable_text key syllable) ≡ syllable_text_size
unfolding syllable_text
syllable_length key syllable = hexadecimals_length weight_count key (used_bytes syllable)

pub key_short : (count : ℕ) (key : List ℕ) → count ≤ limit → length (key_text count key) ≤ key_text_limit
key_short count key h = hyphenated_short (syllable_text key) syllable_text_size (syllable_length key) count limit (omega arith) h
