-- A syllable as the code keeps it, in one number, and the window that a reading keeps of its row.
-- Assumes nothing.
use Rattle.std.specs.Prelude.{[], ◌∷◌, ℕ, ◌+◌, ◌-◌, ◌*◌}
use Rattle.letters.specs.Weights.{medial_set, vowel_weight, vowel_tall, tone_weight}
use Rattle.formula.specs.Syllable.{Syllable, syllable}
use Rattle.formula.specs.Row.{Row}
use Rattle.formula.specs.Record.{final_number_of, second_final_number_of, link_of}
use Rattle.formula.specs.declared.Window.{Window}

-- a byte each for the head minus 1000, the set of medials, the final, the vowel and the tone, the head's lowest, one that is 0, and one for the second
-- final; the link stands above the number of the final's letter, and the tall AA above the weight of the vowel
unfoldable pub packed : Syllable → ℕ
packed (syllable h m v f t) =
    (h - 0x1000) + 0x100 * medial_set m + 0x10000 * (final_number_of f + 0x40 * link_of f) + 0x1000000 * (vowel_weight v + 0x10 * vowel_tall v)
    + 0x100000000 * tone_weight t + 0x1000000000000 * second_final_number_of f

-- the last syllable of what is kept, last first; 0 where there is none
abbrev pub packed_top : Row → ℕ
packed_top [] = 0
packed_top (s ∷ kept) = packed s

-- no syllable read yet
abbrev pub unread : Window
unread = record { count = 0; last = 0; joined = 0 }
