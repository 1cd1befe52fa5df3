-- Tests over lists that compute: whether each element passes and which do, whether two lists are the same, and whether one begins with the other.
-- Assumes nothing.
use Rattle.std.specs.Prelude.{Bool, true, false, ◌&&◌, List, [], ◌∷◌, ℕ, eqb}
use Rattle.letters.specs.Choice.{pick}

-- the test f passes at each element
abbrev pub every : {A : Type 0} → (A → Bool) → List A → Bool
every f [] = true
every f (x ∷ xs) = f x && every f xs

-- the elements at which it passes, in their order
unfoldable pub filtered : {A : Type 0} → (A → Bool) → List A → List A
filtered f [] = []
filtered f (x ∷ xs) = pick (f x) (x ∷ filtered f xs) (filtered f xs)

module _ {A : Type 0} (same : A → A → Bool) where
  -- two lists whose elements pass the test pairwise
  abbrev pub same_by : List A → List A → Bool
  same_by [] [] = true
  same_by [] (y ∷ ys) = false
  same_by (x ∷ xs) [] = false
  same_by (x ∷ xs) (y ∷ ys) = same x y && same_by xs ys

  -- two lists of which the second begins with the first
  abbrev pub is_prefix_by : List A → List A → Bool
  is_prefix_by [] ys = true
  is_prefix_by (x ∷ xs) [] = false
  is_prefix_by (x ∷ xs) (y ∷ ys) = same x y && is_prefix_by xs ys

-- lists of numbers, and lists of those
abbrev pub same_list : List ℕ → List ℕ → Bool
same_list = same_by eqb

abbrev pub same_lists : List (List ℕ) → List (List ℕ) → Bool
same_lists = same_by same_list

abbrev pub is_prefix : List ℕ → List ℕ → Bool
is_prefix = is_prefix_by eqb

abbrev pub is_prefix_of_lists : List (List ℕ) → List (List ℕ) → Bool
is_prefix_of_lists = is_prefix_by same_list
