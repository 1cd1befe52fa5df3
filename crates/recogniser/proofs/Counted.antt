-- A word has at most as many syllables as values, so no more than the limit.
-- Assumes nothing.
use mathlib.Core.Path.{ap}
use mathlib.Core.List.{List, [], ◌∷◌}
use Prim.Native.Nat.{ℕ, ◌≤◌}
use native.Mathlib.Omega.{arith}
use lib.ListN.{length, length-append}
use Rattle.formula.specs.Syllable.{Final, no_final, Syllable, syllable, final_of, part}
use Rattle.formula.specs.Row.{Row, join_after}
use Rattle.recogniser.specs.Answer.{ReadsWithin}

-- each part has a value
pub part_length : (f : Final) (s : Syllable) → 1 ≤ length (part f s)
part_length f (syllable h m v g t) = omega arith

pub row_bound : (f : Final) (row : Row) → length row ≤ length (join_after f row)
row_bound f [] = omega arith
row_bound f (s ∷ row) =
    let p = part_length f s in
    let q = row_bound (final_of s) row in
    simp length-append (omega arith)

pub count_limit : {most : ℕ} (word : List ℕ) (n : ℕ) → ReadsWithin most word n → n ≤ most
count_limit word n r =
    let c = r.count in
    let s = r.admissible.short in
    omega (arith, row_bound no_final r.row, ap length r.gives.joined)
