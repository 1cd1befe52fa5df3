-- What the comparison of a mark says of the two bytes, either way.
-- Assumes nothing.
use mathlib.Core.Path.{◌≡◌, sym, subst, ◌∙◌}
use mathlib.Core.Bool.{Bool, true, false, ◌&&◌}
use Prim.Native.Nat.{ℕ}
use borrow.Author.Tests.{eq-eqb}
use lib.Dec.{T, eqb, eqb→eq}
use Rattle.letters.proofs.Tests.{of_true}
use Rattle.formula.proofs.Lists.{both, both_left, both_right}

-- the two bytes are those of the mark
pub mark_met : (first second x y : ℕ) (r : Bool) → r ≡ (eqb first x && eqb second y) → r ≡ true → (first ≡ x) × (second ≡ y)
mark_met first second x y r e t =
    let h : T (eqb first x && eqb second y) = of_true _ (sym e ∙ t) in
    (eqb→eq first x (both_left (eqb first x) (eqb second y) h), eqb→eq second y (both_right (eqb first x) (eqb second y) h))

-- they are not
pub mark_missed : (first second x y : ℕ) (r : Bool) → r ≡ (eqb first x && eqb second y) → r ≡ false → first ≡ x → second ≡ y → ⊥
mark_missed first second x y r e f p q =
    subst T (sym e ∙ f) (both (eqb first x) (eqb second y) (of_true _ (eq-eqb first x p)) (of_true _ (eq-eqb second y q)))
