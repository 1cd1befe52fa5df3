-- The text of values: four digits each, and how long that of all is.
-- Assumes nothing.
use mathlib.Core.Path.{◌≡◌, refl}
use mathlib.Core.List.{List}
use Prim.Native.Nat.{ℕ, suc, ◌*◌, ◌≤◌}
use lib.ListN.{length}
use Rattle.key_text.specs.Text.{value_text, value_text_at, values_text, value_text_size}
use Rattle.key_text.proofs.Hyphens.{hyphenated_short}

pub value_length_at : (values : List ℕ) (place : ℕ) → length (value_text_at values place) ≡ value_text_size
unfolding value_text_at value_text
value_length_at values place = refl

pub values_short : (values : List ℕ) (most : ℕ) → 1 ≤ most → length values ≤ most → length (values_text values) ≤ suc value_text_size * most
values_short values most one h = hyphenated_short (value_text_at values) value_text_size (value_length_at values) (length values) most one h
