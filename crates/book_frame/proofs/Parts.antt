-- Parts of the buffer as the loops see them: a part's length, its bytes, and the values that they stand for.
-- Assumes nothing.
use mathlib.Core.Path.{◌≡◌, refl, ap, ◌∙◌}
use mathlib.Core.List.{List, [], ◌∷◌, map}
use Prim.Native.Nat.{ℕ, zero, suc, ◌+◌, ◌≤◌, ◌<◌}
use native.Mathlib.Nat.{le_of_suc-le-suc}
use native.Mathlib.Omega.{arith}
use lib.ListN.{length, get_or, take, drop, length-map, length-drop}
use lib.Seq.{get_or-drop, get_or-take, length-take-le}
use Rattle.entries.specs.Entries.{value_of}

-- n bytes from p on
abbrev pub part : List ℕ → ℕ → ℕ → List ℕ
part b p n = take n (drop p b)

pub part_length : (b : List ℕ) (p n : ℕ) → p + n ≤ length b → length (part b p n) ≡ n
part_length b p n h = length-take-le n (drop p b) (omega (arith, length-drop p b))

pub part_at : (b : List ℕ) (p n k : ℕ) → k < n → get_or (part b p n) k 0 ≡ get_or b (p + k) 0
part_at b p n k h = get_or-take n (drop p b) k 0 h ∙ get_or-drop p b k 0

pub length_values : (b : List ℕ) (p n : ℕ) → p + n ≤ length b → length (map value_of (part b p n)) ≡ n
length_values b p n h = length-map (part b p n) value_of ∙ part_length b p n h

map_at : (l : List ℕ) (k : ℕ) → k < length l → get_or (map value_of l) k 0 ≡ value_of (get_or l k 0)
map_at [] k h = let z : ⊥ = omega arith in absurd z
map_at (x ∷ l) zero h = refl
map_at (x ∷ l) (suc k) h = map_at l k (le_of_suc-le-suc h)

pub value_at : (b : List ℕ) (p n k : ℕ) → p + n ≤ length b → k < n → get_or (map value_of (part b p n)) k 0 ≡ value_of (get_or b (p + k) 0)
value_at b p n k h l = map_at (part b p n) k (omega (arith, part_length b p n h)) ∙ ap value_of (part_at b p n k l)
