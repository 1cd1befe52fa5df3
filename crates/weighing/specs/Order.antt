-- Document 01, "Weights": the order of words, "by their rows of weights, a row before every longer one that begins with it; equal rows
-- compare by code values in storage order". Assumes nothing.
use Rattle.std.specs.Prelude.{List, [], ◌∷◌, ℕ, zero, suc, ◌+◌, ◌*◌, ltb, eqb, get_or}
use Rattle.letters.specs.Choice.{pick}
use Rattle.formula.specs.Row.{Row}
use Rattle.formula.specs.Weighing.{weights}
use Rattle.std.specs.declared.cmp.Ordering.{Ordering}
use Rattle.std.specs.declared.cmp.Ordering.TheVariants.{Less, Equal, Greater}

abbrev pub order_numbers : ℕ → ℕ → Ordering
order_numbers x y = pick (ltb x y) Less (pick (eqb x y) Equal Greater)

-- the first of two comparisons, and the second where that finds no difference
abbrev pub in_turn : Ordering → Ordering → Ordering
in_turn Less o = Less
in_turn Equal o = o
in_turn Greater o = Greater

-- by the first that differ; a list goes "before every longer one that begins with it"
abbrev pub lexicographic : {A : Type 0} → (A → A → Ordering) → List A → List A → Ordering
lexicographic f [] [] = Equal
lexicographic f [] (y ∷ ys) = Less
lexicographic f (x ∷ xs) [] = Greater
lexicographic f (x ∷ xs) (y ∷ ys) = in_turn (f x y) (lexicographic f xs ys)

-- the order of the weights of two syllables, and of two lists of code values
unfoldable pub order_values : List ℕ → List ℕ → Ordering
order_values xs ys = lexicographic order_numbers xs ys

-- the first n bytes of a list as one number, the first highest
abbrev pub front_of : ℕ → List ℕ → ℕ
front_of zero bytes = 0
front_of (suc n) bytes = 256 * front_of n bytes + get_or bytes n 0

-- the order of two rows of weights
unfoldable pub order_weights : List (List ℕ) → List (List ℕ) → Ordering
order_weights xs ys = lexicographic order_values xs ys

-- what a word is filed by: the weights of its row, and its values in storage order
pub record Filed : Type 0 where
  pub weights : List (List ℕ)
  pub values : List ℕ

abbrev pub filed : Row → List ℕ → Filed
filed row stored = record { weights = weights row; values = stored }

-- "Words compare by their rows of weights [..]; equal rows compare by code values in storage order."
unfoldable pub order : Filed → Filed → Ordering
order a b = in_turn (order_weights a.weights b.weights) (order_values a.values b.values)
