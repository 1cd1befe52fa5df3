-- A test whether two outcomes are one: each is told by a list of numbers, which gives it back.
-- Assumes nothing.
use mathlib.Core.Path.{◌≡◌, refl, ap}
use mathlib.Core.Bool.{Bool}
use mathlib.Core.List.{List, [], ◌∷◌}
use Prim.Native.Nat.{ℕ}
use lib.Dec.{T}
use Rattle.formula.proofs.Lists.{same_list, same_list_equal}
use Rattle.refusals.specs.Outcome.{Outcome, accepts, accepts_both, absent, refuses}

-- as many numbers as tell the constructor, the last of a refusal being of no use
abbrev numbers_of : Outcome → List ℕ
numbers_of (accepts n) = n ∷ []
numbers_of (accepts_both n m) = n ∷ m ∷ []
numbers_of absent = []
numbers_of (refuses n p) = n ∷ p ∷ 0 ∷ []

of_numbers : List ℕ → Outcome
of_numbers [] = absent
of_numbers (n ∷ []) = accepts n
of_numbers (n ∷ m ∷ []) = accepts_both n m
of_numbers (n ∷ p ∷ x ∷ rest) = refuses n p

of_numbers_own : (o : Outcome) → of_numbers (numbers_of o) ≡ o
unfolding of_numbers
of_numbers_own (accepts n) = refl
of_numbers_own (accepts_both n m) = refl
of_numbers_own absent = refl
of_numbers_own (refuses n p) = refl

abbrev pub same_outcome : Outcome → Outcome → Bool
same_outcome o r = same_list (numbers_of o) (numbers_of r)

pub same_outcome_lem : (o r : Outcome) → T (same_outcome o r) → o ≡ r
same_outcome_lem o r t = cc (of_numbers_own o, of_numbers_own r, ap of_numbers (same_list_equal (numbers_of o) (numbers_of r) t))
