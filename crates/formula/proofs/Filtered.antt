-- The elements at which a test passes: of two lists one behind the other, of a list whose elements are replaced one by one, and by two tests that agree.
-- Assumes nothing.
use mathlib.Core.Path.{◌≡◌, refl, sym, ap, ◌∙◌}
use mathlib.Core.Bool.{Bool, true, false}
use mathlib.Core.List.{List, [], ◌∷◌, ◌++◌, map}
use Prim.Native.Nat.{suc, ◌≤◌}
use native.Mathlib.Omega.{arith}
use lib.ListN.{length}
use Rattle.letters.specs.Choice.{pick}
use Rattle.formula.specs.Lists.{filtered}
use Rattle.formula.proofs.Lists.{All}

module _ {A : Type 0} (f : A → Bool) where
  pub filtered_append : (xs ys : List A) → filtered f (xs ++ ys) ≡ filtered f xs ++ filtered f ys
  unfolding filtered pick
  filtered_append [] ys = refl
  filtered_append (x ∷ xs) ys = go (f x) (filtered_append xs ys)
    where
      go : (t : Bool) → filtered f (xs ++ ys) ≡ filtered f xs ++ filtered f ys
          → pick t (x ∷ filtered f (xs ++ ys)) (filtered f (xs ++ ys)) ≡ pick t (x ∷ filtered f xs) (filtered f xs) ++ filtered f ys
      go true h = ap (λ (l : List A). x ∷ l) h
      go false h = h

  pub filtered_few : (xs : List A) → length (filtered f xs) ≤ length xs
  unfolding filtered pick
  filtered_few [] = omega arith
  filtered_few (x ∷ xs) = go (f x) (filtered_few xs)
    where
      go : (t : Bool) → length (filtered f xs) ≤ length xs → length (pick t (x ∷ filtered f xs) (filtered f xs)) ≤ suc (length xs)
      go true h = omega arith
      go false h = omega arith

  -- what is so of each element is so of each at which the test passes
  pub filtered_each : (P : A → Type 0) (xs : List A) → All P xs → All P (filtered f xs)
  unfolding filtered pick
  filtered_each P [] a = tt
  filtered_each P (x ∷ xs) a = go (f x) (filtered_each P xs a.1)
    where
      go : (t : Bool) → All P (filtered f xs) → All P (pick t (x ∷ filtered f xs) (filtered f xs))
      go true h = (a.0, h)
      go false h = h

  -- a test that passes at the same elements
  pub filtered_alike : (g : A → Bool) (xs : List A) → All (λ (x : A). f x ≡ g x) xs → filtered f xs ≡ filtered g xs
  unfolding filtered
  filtered_alike g [] a = refl
  filtered_alike g (x ∷ xs) a = λ i. pick (a.0 i) (x ∷ filtered_alike g xs a.1 i) (filtered_alike g xs a.1 i)

  -- and one that passes everywhere
  pub filtered_all : ((x : A) → f x ≡ true) → (xs : List A) → filtered f xs ≡ xs
  unfolding filtered pick
  filtered_all e [] = refl
  filtered_all e (x ∷ xs) = (λ i. pick (e x i) (x ∷ filtered f xs) (filtered f xs)) ∙ ap (λ (l : List A). x ∷ l) (filtered_all e xs)

pub filtered_map : {A B : Type 0} (f : B → Bool) (g : A → B) (xs : List A) → filtered f (map g xs) ≡ map g (filtered (λ (x : A). f (g x)) xs)
unfolding filtered pick
filtered_map f g [] = refl
filtered_map {A = A} {B = B} f g (x ∷ xs) = go (f (g x)) (filtered_map f g xs)
  where
    go : (t : Bool) → filtered f (map g xs) ≡ map g (filtered (λ (y : A). f (g y)) xs)
        → pick t (g x ∷ filtered f (map g xs)) (filtered f (map g xs))
        ≡ map g (pick t (x ∷ filtered (λ (y : A). f (g y)) xs) (filtered (λ (y : A). f (g y)) xs))
    go true h = ap (λ (l : List B). g x ∷ l) h
    go false h = h

-- two tests, in either order
pub filtered_swap : {A : Type 0} (f g : A → Bool) (xs : List A) → filtered f (filtered g xs) ≡ filtered g (filtered f xs)
unfolding filtered pick
filtered_swap f g [] = refl
filtered_swap {A = A} f g (x ∷ xs) = go (f x) refl (g x) refl (filtered_swap f g xs)
  where
    go : (s : Bool) → f x ≡ s → (t : Bool) → g x ≡ t → filtered f (filtered g xs) ≡ filtered g (filtered f xs)
        → filtered f (pick t (x ∷ filtered g xs) (filtered g xs)) ≡ filtered g (pick s (x ∷ filtered f xs) (filtered f xs))
    go true d true e h = (λ i. pick (d i) (x ∷ filtered f (filtered g xs)) (filtered f (filtered g xs))) ∙ ap (λ (l : List A). x ∷ l) h ∙ (λ i. pick (sym e i) (x ∷ filtered g (filtered f xs)) (filtered g (filtered f xs)))
    go true d false e h = h ∙ (λ i. pick (sym e i) (x ∷ filtered g (filtered f xs)) (filtered g (filtered f xs)))
    go false d true e h = (λ i. pick (d i) (x ∷ filtered f (filtered g xs)) (filtered f (filtered g xs))) ∙ h
    go false d false e h = h
