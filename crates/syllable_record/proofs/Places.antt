-- The elements of a list, named one by one, are the list.
-- Assumes nothing.
use mathlib.Core.Path.{◌≡◌, refl, ap, ◌∙◌}
use mathlib.Core.List.{List, [], ◌∷◌}
use Prim.Native.Nat.{ℕ, zero, suc, ◌+◌, ◌≤◌, ◌<◌}
use native.Mathlib.Omega.{arith}
use lib.ListN.{length, get_or, take, drop}
use lib.Seq.{take_all, drop-cons}

-- so many elements, from a place on
abbrev elements_from : List ℕ → ℕ → ℕ → List ℕ
elements_from list at zero = []
elements_from list at (suc count) = get_or list at 0 ∷ elements_from list (suc at) count

elements_piece : (list : List ℕ) (at count : ℕ) → at + count ≤ length list → elements_from list at count ≡ take count (drop at list)
elements_piece list at zero h = refl
elements_piece list at (suc count) h =
    let below : at < length list = omega arith in
    rw (drop-cons list at 0) (ap (λ (l : List ℕ). get_or list at 0 ∷ l) (elements_piece list (suc at) count (omega arith)))

-- a list of so many elements
pub all_of : (count : ℕ) (list : List ℕ) → length list ≡ count → elements_from list 0 count ≡ list
all_of count list e = elements_piece list 0 count (omega arith) ∙ take_all count list (omega arith)
