-- The window of a reading: the last syllable, packed, and what a value makes of it. Inner contracts cite it; no public promise does.
-- Assumes nothing.
use Rattle.std.specs.Prelude.{◌≡◌, [], ◌∷◌, ℕ, ◌+◌, ◌-◌, ◌*◌, ◌/◌, ◌%◌, ◌^◌, ◌≤◌, ◌<◌, T, eqb, length}
use Rattle.letters.specs.Choice.{pick}
use Rattle.formula.specs.Limits.{limit}
use Rattle.formula.specs.Syllable.{syllable, final_of, is_no_final}
use Rattle.formula.specs.Row.{Row}
use Rattle.formula.specs.Packed.{packed, packed_top}
use Rattle.formula.specs.declared.Window.{Window}
use Rattle.rows.specs.Machine.{end_of, is_not_great_sa}
use Rattle.transitions.specs.Tables.{begins_by}

-- what the value x begins a syllable with, and what it makes of the syllable that it ends
unfoldable pub begun_by : ℕ → ℕ
begun_by x = pick (eqb x 0x103F) 0x1E (x - 0x1000)

unfoldable pub closed_by : ℕ → ℕ → ℕ
closed_by x last = pick (eqb x 0x103F) (last + 0xDF0000) last

-- packed syllables lie below, since the second final is at most 33
abbrev pub packed_limit : ℕ
packed_limit = 0x22000000000000

-- 1 where the link of a packed syllable is 1 or 3, else 0: of those that may still take a final, where they have a plain one
abbrev pub plain_bit : ℕ → ℕ
plain_bit packed = packed / 0x400000 % 2

-- a syllable with a head as its final, the link left out: the first; or, where there is a plain one, the second
unfoldable pub joined_by : ℕ → ℕ → ℕ
joined_by packed head = packed + (head + 1) * 2 ^ (16 + 32 * plain_bit packed)

-- the last syllable where none is begun, before a value that makes d syllables more, less 1, adds to it: the last of as many; or the last two joined
unfoldable pub last_kept : ℕ → Window → ℕ
last_kept d w = pick (eqb d 1) w.last w.joined

-- after the value x, which makes d syllables more, less 1, and adds g: one more; or as many or one fewer
unfoldable pub window_after : ℕ → ℕ → ℕ → Window → Window
window_after d g x w =
    pick (eqb d 2) (record { count = w.count + 1; last = begun_by x; joined = joined_by w.last (begun_by x) })
    (record { count = w.count + d - 1; last = last_kept d w + g; joined = w.joined })

-- the numbers fit where a value changes the window so
pub record Fit (d g x : ℕ) (w : Window) : Type 0 where
  pub room : w.count ≤ limit
  pub some_left : 1 ≤ w.count + d
  pub last : w.last < packed_limit
  pub tells : begins_by x ≡ eqb d 2
  pub begins : d ≡ 2 → (0x1000 ≤ x) × (x < 0x1100)
  pub gains : (d ≡ 2 → ⊥) → last_kept d w + g < packed_limit

-- a head joined to the syllable before it, where there is one that is not closed by 103F
abbrev pub JoinedTo : Row → ℕ → ℕ → Type 0
JoinedTo [] head n = Unit {0}
JoinedTo (s ∷ kept) head n = T (is_not_great_sa (final_of s)) → n ≡ joined_by (packed s) (head - 0x1000)

-- the last head joined so
abbrev pub LastJoined : Row → ℕ → Type 0
LastJoined [] n = Unit {0}
LastJoined (syllable h m v f t ∷ kept) n = JoinedTo kept h n

-- the window shows what is kept; what is joined is right while the last has no final
pub record WindowOf (kept : Row) (w : Window) : Type 0 where
  pub count : w.count ≡ length kept
  pub last : w.last ≡ packed_top kept
  pub joined : T (is_no_final (end_of kept)) → LastJoined kept w.joined

-- the syllables below the last
abbrev pub below_last : Row → Row
below_last [] = []
below_last (s ∷ kept) = kept
