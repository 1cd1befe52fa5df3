-- How far two lists are compared: what is left decides, as long as all before it is equal. Assumes nothing.
use mathlib.Core.Path.{◌≡◌, refl, ap, sym, ◌∙◌}
use mathlib.Core.List.{List, [], ◌∷◌}
use mathlib.Core.Logic.{◌⊎◌, inl, inr}
use Prim.Native.Nat.{ℕ, zero, suc, ◌+◌, ◌-◌, ◌<◌, ◌≤◌}
use native.Mathlib.Nat.{le_of_suc-le-suc, not-suc-le-zero}
use native.Mathlib.Numerals.{add-one}
use native.Mathlib.Omega.{arith}
use types.Run.{OneOf}
use denote.Enum.Declared.{tag_of}
use lib.ListN.{length, get_or, drop, length-drop}
use Rattle.weighing.specs.Order.{order_numbers, in_turn, lexicographic}
use Rattle.std.specs.declared.cmp.Ordering.{Ordering}
use Rattle.std.specs.declared.cmp.Ordering.TheVariants.{Less, Equal, Greater}
use Rattle.std.specs.contracts.cmp.Ordering.{the_type}
use Rattle.weighing.proofs.OrderOfNumbers.{Stand, below, level, above, stand, less_numbers, equal_numbers, greater_numbers}

-- the elements before `at` are equal, so the order is that of what is left
pub record AlikeTo {A : Type 0} (f : A → A → Ordering) (xs ys : List A) (at : ℕ) : Type 0 where
  pub in_first : at ≤ length xs
  pub in_second : at ≤ length ys
  pub rest : lexicographic f xs ys ≡ lexicographic f (drop at xs) (drop at ys)

-- the order of two numbers is that of what is left of them
less_of_both : (m n k : ℕ) → k ≤ m → k ≤ n → order_numbers (m - k) (n - k) ≡ order_numbers m n
less_of_both m n k h i = go (stand m n)
  where
    go : Stand m n → order_numbers (m - k) (n - k) ≡ order_numbers m n
    go (below l o) = less_numbers (m - k) (n - k) (omega arith) ∙ sym o
    go (level l o) = equal_numbers (m - k) (n - k) (omega arith) ∙ sym o
    go (above l o) = greater_numbers (m - k) (n - k) (omega arith) ∙ sym o

-- the first comparison decides where it is not equal: by its tag, as code tests it
pub decided : (o p : Ordering) → OneOf (0 ∷ 2 ∷ []) (tag_of the_type o) → in_turn o p ≡ o
decided Less p t = refl
decided Equal p (inl t) = let z : ⊥ = omega arith in absurd z
decided Equal p (inr t) = let z : ⊥ = omega arith in absurd z
decided Greater p t = refl

module _ {A : Type 0} (f : A → A → Ordering) where
  pub step_by : (xs ys : List A) (at : ℕ) (d : A) → at < length xs → at < length ys
      → lexicographic f (drop at xs) (drop at ys) ≡ in_turn (f (get_or xs at d) (get_or ys at d)) (lexicographic f (drop (suc at) xs) (drop (suc at) ys))
  step_by [] ys at d h k = absurd (not-suc-le-zero h)
  step_by (x ∷ xs) [] at d h k = absurd (not-suc-le-zero k)
  step_by (x ∷ xs) (y ∷ ys) zero d h k = refl
  step_by (x ∷ xs) (y ∷ ys) (suc at) d h k = step_by xs ys at d (le_of_suc-le-suc h) (le_of_suc-le-suc k)

  -- where one of two lists is at its end, their lengths decide
  by_lengths : (us vs : List A) → (length us ≡ 0) ⊎ (length vs ≡ 0) → lexicographic f us vs ≡ order_numbers (length us) (length vs)
  by_lengths [] [] e = sym (equal_numbers 0 0 refl)
  by_lengths [] (v ∷ vs) e = sym (less_numbers 0 (length (v ∷ vs)) (omega arith))
  by_lengths (u ∷ us) [] e = sym (greater_numbers (length (u ∷ us)) 0 (omega arith))
  by_lengths (u ∷ us) (v ∷ vs) (inl e) = let z : ⊥ = omega arith in absurd z
  by_lengths (u ∷ us) (v ∷ vs) (inr e) = let z : ⊥ = omega arith in absurd z

  module _ (xs ys : List A) where
    pub start : AlikeTo f xs ys 0
    start = record { in_first = omega arith; in_second = omega arith; rest = refl }

    pub next : (at : ℕ) (d : A) → AlikeTo f xs ys at → at < length xs → at < length ys → f (get_or xs at d) (get_or ys at d) ≡ Equal
        → AlikeTo f xs ys (at + 1)
    next at d a h k e =
        record {
          in_first = omega arith;
          in_second = omega arith;
          rest =
              a.rest ∙ step_by xs ys at d h k ∙ ap (λ (o : Ordering). in_turn o (lexicographic f (drop (suc at) xs) (drop (suc at) ys))) e
              ∙ ap (λ (n : ℕ). lexicographic f (drop n xs) (drop n ys)) (sym (add-one at));
        }

    pub differs : (at : ℕ) (d : A) → AlikeTo f xs ys at → at < length xs → at < length ys
        → (o : Ordering) → o ≡ f (get_or xs at d) (get_or ys at d) → OneOf (0 ∷ 2 ∷ []) (tag_of the_type o) → o ≡ lexicographic f xs ys
    differs at d a h k o e t =
        sym
        (a.rest ∙ step_by xs ys at d h k ∙ ap (λ (p : Ordering). in_turn p (lexicographic f (drop (suc at) xs) (drop (suc at) ys))) (sym e)
        ∙ decided o (lexicographic f (drop (suc at) xs) (drop (suc at) ys)) t)

    pub ended : (at : ℕ) → AlikeTo f xs ys at → (length xs ≤ at) ⊎ (length ys ≤ at) → order_numbers (length xs) (length ys) ≡ lexicographic f xs ys
    ended at a e =
        sym
        (a.rest ∙ by_lengths (drop at xs) (drop at ys) (left e) ∙ simp length-drop (less_of_both (length xs) (length ys) at a.in_first a.in_second))
      where
        left : (length xs ≤ at) ⊎ (length ys ≤ at) → (length (drop at xs) ≡ 0) ⊎ (length (drop at ys) ≡ 0)
        left (inl h) = inl (simp length-drop (omega arith))
        left (inr h) = inr (simp length-drop (omega arith))
