-- A choice by a test whose outcome is known: what `search` goes by where code with branches meets a definition by `pick`.
-- Assumes nothing.
use mathlib.Core.Path.{◌≡◌, sym, ◌∙◌}
use mathlib.Core.Bool.{Bool, true, false, ◌&&◌, ◌||◌}
use Prim.Native.Nat.{ℕ, ◌+◌, ◌≤◌, ◌<◌}
use native.Mathlib.Omega.{arith}
use lib.Dec.{T, eqb, leb, ltb, leb→le}
use borrow.Author.Tests.{eq-eqb, ne_eqb, le-leb, lt-leb, le-ltb, lt-ltb}
use Rattle.letters.specs.Choice.{pick}
use Rattle.letters.proofs.Tests.{pick_true, pick_false}

pub pick_yes : {A : Type 0} (b : Bool) (x m n : A) → b ≡ true → x ≡ m → x ≡ pick b m n
pick_yes b x m n e f = f ∙ sym (pick_true b m n e)

pub pick_no : {A : Type 0} (b : Bool) (x m n : A) → b ≡ false → x ≡ n → x ≡ pick b m n
pick_no b x m n e f = f ∙ sym (pick_false b m n e)

-- the tests that are made of others
pub and_yes : (a b : Bool) → a ≡ true → b ≡ true → (a && b) ≡ true
and_yes a b e f = rw (e, f)

pub and_no_left : (a b : Bool) → a ≡ false → (a && b) ≡ false
and_no_left a b e = rw e

pub and_no_right : (a b : Bool) → b ≡ false → (a && b) ≡ false
and_no_right true b e = e
and_no_right false b e = go
  where
    go : false ≡ false
    go = search

pub or_yes_left : (a b : Bool) → a ≡ true → (a || b) ≡ true
or_yes_left a b e = rw e

pub or_yes_right : (a b : Bool) → b ≡ true → (a || b) ≡ true
or_yes_right true b e = search
or_yes_right false b e = e

pub or_no : (a b : Bool) → a ≡ false → b ≡ false → (a || b) ≡ false
or_no a b e f = rw (e, f)

pub ruleset picks = (pick_yes, pick_no, and_yes, and_no_left, and_no_right, or_yes_left, or_yes_right, or_no, eq-eqb, ne_eqb, le-leb, lt-leb, le-ltb, lt-ltb)

-- each of two tests that pass together
pub and_left : (a b : Bool) → (a && b) ≡ true → a ≡ true
and_left true b e = search
and_left false b e = e

pub and_right : (a b : Bool) → (a && b) ≡ true → b ≡ true
and_right true b e = e
and_right false b e = let z : ◌≡◌ {A = ℕ} 0 1 = cc in let n : ⊥ = omega arith in absurd n

-- a number from k on is none below k
pub from_eqb : (x a k : ℕ) → k ≤ x → T (ltb a k) → eqb x a ≡ false
from_eqb x a k l t = let h : a < k = leb→le _ k t in ne_eqb x a (λ (e : x ≡ a). let z : ⊥ = omega arith in z)

-- a range that ends below k, or begins there or above, and one that has all from j to below k: the tests of a definition by ranges where the code knows
-- on which side of a bound x is
pub above_range : (a b x k : ℕ) → k ≤ x → T (ltb b k) → (leb a x && leb x b) ≡ false
above_range a b x k l t = let h : b < k = leb→le _ k t in and_no_right (leb a x) (leb x b) (lt-leb x b (omega arith))

pub below_range : (a b x k : ℕ) → x < k → T (leb k a) → (leb a x && leb x b) ≡ false
below_range a b x k l t = let h : k ≤ a = leb→le k a t in and_no_left (leb a x) (leb x b) (lt-leb a x (omega arith))

pub in_range : (a b x j k : ℕ) → j ≤ x → T (leb a j) → x < k → T (leb k (b + 1)) → (leb a x && leb x b) ≡ true
in_range a b x j k l t m u =
    let h : a ≤ j = leb→le a j t in
    let i : k ≤ b + 1 = leb→le k (b + 1) u in
    and_yes (leb a x) (leb x b) (le-leb a x (omega arith)) (le-leb x b (omega arith))

pub ruleset ranges = (pick_yes, pick_no, or_yes_left, or_yes_right, or_no, in_range, above_range, below_range)
