-- The parts of a packed syllable. Inner contracts cite it; no public promise does. Assumes nothing.
use Rattle.std.specs.Prelude.{ℕ, ◌/◌, ◌%◌}

abbrev pub head_part : ℕ → ℕ
head_part packed = packed % 0x100

abbrev pub medial_part : ℕ → ℕ
medial_part packed = packed / 0x100 % 0x10

abbrev pub final_part : ℕ → ℕ
final_part packed = packed / 0x10000 % 0x40

abbrev pub link_part : ℕ → ℕ
link_part packed = packed / 0x400000 % 4

abbrev pub vowel_part : ℕ → ℕ
vowel_part packed = packed / 0x1000000 % 0x10

abbrev pub tall_part : ℕ → ℕ
tall_part packed = packed / 0x10000000 % 0x10

abbrev pub tone_part : ℕ → ℕ
tone_part packed = packed / 0x100000000 % 0x100

abbrev pub second_final_part : ℕ → ℕ
second_final_part packed = packed / 0x1000000000000 % 0x40
