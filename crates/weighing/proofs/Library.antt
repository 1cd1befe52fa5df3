-- The standard library's comparisons of numbers and of slices answer what document 01 says of two numbers and of two lists of them.
-- Assumes nothing.
use mathlib.Core.Path.{◌≡◌, refl, ap, ◌∙◌}
use mathlib.Core.List.{List, [], ◌∷◌}
use Prim.Native.Nat.{ℕ}
use Rattle.std.specs.Prelude.{Bool, true, false, cond, ltb, eqb}
use Rattle.letters.specs.Choice.{pick}
use Rattle.std.specs.Ordering.{nat_cmp, ordering_then}
use Rattle.std.specs.declared.cmp.Ordering.{Ordering}
use Rattle.std.specs.declared.cmp.Ordering.TheVariants.{Less, Equal, Greater}
use Rattle.std.specs.Cmp.Lexicographic.{slice_cmp}
use Rattle.weighing.specs.Order.{order_numbers, in_turn, lexicographic, order_values}

-- the library's choice by a test is ours
chosen : (b : Bool) (o p : Ordering) → cond b o p ≡ pick b o p
unfolding pick
chosen true o p = refl
chosen false o p = refl

pub numbers_compared : (x y : ℕ) → nat_cmp x y ≡ order_numbers x y
numbers_compared x y =
    chosen (ltb x y) Less (cond (eqb x y) Equal Greater) ∙ ap (pick (ltb x y) Less) (chosen (eqb x y) Equal Greater)

pub turns : (o p : Ordering) → ordering_then o p ≡ in_turn o p
turns Less p = refl
turns Equal p = refl
turns Greater p = refl

pub lists_compared : (xs ys : List ℕ) → slice_cmp nat_cmp xs ys ≡ order_values xs ys
unfolding order_values
lists_compared [] [] = refl
lists_compared [] (y ∷ ys) = refl
lists_compared (x ∷ xs) [] = refl
lists_compared (x ∷ xs) (y ∷ ys) =
    turns (nat_cmp x y) (slice_cmp nat_cmp xs ys)
    ∙ ap (λ (o : Ordering). in_turn o (slice_cmp nat_cmp xs ys)) (numbers_compared x y)
    ∙ ap (in_turn (order_numbers x y)) (lists_compared xs ys)
