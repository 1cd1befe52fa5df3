-- Numbers are in order: of two, exactly one is below the other, or they are the same.
-- Assumes nothing.
use mathlib.Core.Path.{◌≡◌, refl, ap, sym, ◌∙◌}
use Prim.Native.Nat.{ℕ, ◌<◌}
use native.Mathlib.Decide.{dec_lt}
use native.Mathlib.Omega.{arith}
use borrow.Author.Tests.{lt-ltb, le-ltb, eq-eqb, ne_eqb}
use Rattle.letters.specs.Choice.{pick}
use Rattle.weighing.specs.Order.{order_numbers}
use Rattle.std.specs.declared.cmp.Ordering.TheVariants.{Less, Equal, Greater}
use Rattle.weighing.proofs.Lexicographic.{opposite, IsOrder, less_not_equal, less_not_greater, greater_not_equal}

-- the three cases of two numbers
pub data Stand (x y : ℕ) : Type 0 where
  below : x < y → order_numbers x y ≡ Less → Stand x y
  level : x ≡ y → order_numbers x y ≡ Equal → Stand x y
  above : y < x → order_numbers x y ≡ Greater → Stand x y

pub less_numbers : (x y : ℕ) → x < y → order_numbers x y ≡ Less
unfolding pick
less_numbers x y h = rw (lt-ltb x y h)

pub equal_numbers : (x y : ℕ) → x ≡ y → order_numbers x y ≡ Equal
unfolding pick
equal_numbers x y e = rw (le-ltb x y (omega arith), eq-eqb x y e)

pub greater_numbers : (x y : ℕ) → y < x → order_numbers x y ≡ Greater
unfolding pick
greater_numbers x y h = rw (le-ltb x y (omega arith), ne_eqb x y (λ e. omega arith))

pub stand : (x y : ℕ) → Stand x y
stand x y = go (dec_lt x y) (dec_lt y x)
  where
    go : Dec (x < y) → Dec (y < x) → Stand x y
    go (yes l) k = below l (less_numbers x y l)
    go (no l) (yes k) = above k (greater_numbers x y k)
    go (no l) (no k) = let e : x ≡ y = omega arith in level e (equal_numbers x y e)

pub numbers_are_ordered : IsOrder ℕ order_numbers
numbers_are_ordered =
    record {
      alike = λ x. equal_numbers x x refl;
      identical = λ x y e. identical x y e (stand x y);
      turned = λ x y. turned x y (stand x y);
      transitive = λ x y z p q. less_numbers x z (let h = less x y p (stand x y) in let k = less y z q (stand y z) in omega arith);
    }
  where
    identical : (x y : ℕ) → order_numbers x y ≡ Equal → Stand x y → x ≡ y
    identical x y e (below h o) = less_not_equal (sym o ∙ e)
    identical x y e (level h o) = h
    identical x y e (above h o) = greater_not_equal (sym o ∙ e)

    turned : (x y : ℕ) → Stand x y → order_numbers y x ≡ opposite (order_numbers x y)
    turned x y (below h o) = greater_numbers y x h ∙ ap opposite (sym o)
    turned x y (level h o) = equal_numbers y x (sym h) ∙ ap opposite (sym o)
    turned x y (above h o) = less_numbers y x h ∙ ap opposite (sym o)

    less : (x y : ℕ) → order_numbers x y ≡ Less → Stand x y → x < y
    less x y e (below h o) = h
    less x y e (level h o) = less_not_equal (sym e ∙ o)
    less x y e (above h o) = less_not_greater (sym e ∙ o)
