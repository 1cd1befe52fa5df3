-- What a test over a whole list says of each element, that lists which pass the test of being the same are equal, and that one which passes the test
-- of beginning with another is that one and a rest; and what stands at a place of a list.
-- Assumes nothing.
use mathlib.Core.Path.{◌≡◌, refl, sym, ap, subst, ◌∙◌}
use mathlib.Core.Bool.{Bool, true, false, ◌&&◌}
use mathlib.Core.List.{List, [], ◌∷◌, ◌++◌}
use mathlib.Core.Option.{none, some}
use Prim.Native.Nat.{ℕ, zero, suc, ◌≤◌, ◌<◌}
use native.Mathlib.Nat.{le_of_suc-le-suc, not-suc-le-zero}
use native.Mathlib.Omega.{arith}
use lib.Dec.{T, eqb, eqb→eq, eqb_refl}
use lib.ListN.{length, get_or, get_elem?, drop}
pub use Rattle.letters.proofs.Tests.{both, both_left, both_right}
pub use Rattle.formula.specs.Lists.{every, filtered, same_by, is_prefix_by, same_list, same_lists, is_prefix, is_prefix_of_lists}

-- P holds of each element
abbrev pub All : {A : Type 0} → (A → Type 0) → List A → Type 0
All P [] = Unit {0}
All P (x ∷ xs) = P x × All P xs

pub all_map : {A : Type 0} (P Q : A → Type 0) → ((x : A) → P x → Q x) → (xs : List A) → All P xs → All Q xs
all_map P Q f [] a = tt
all_map P Q f (x ∷ xs) a = (f x a.0, all_map P Q f xs a.1)

-- a test over a whole list, turned into what it says of each element
pub every_all : {A : Type 0} (f : A → Bool) (P : A → Type 0) → ((x : A) → T (f x) → P x) → (xs : List A) → T (every f xs) → All P xs
every_all f P g [] t = tt
every_all f P g (x ∷ xs) t = (g x (both_left (f x) (every f xs) t), every_all f P g xs (both_right (f x) (every f xs) t))

-- the same by places, for numbers
pub every_at : (f : ℕ → Bool) (xs : List ℕ) → T (every f xs) → (k : ℕ) → k < length xs → T (f (get_or xs k 0))
every_at f [] t k h = absurd (not-suc-le-zero h)
every_at f (x ∷ xs) t zero h = both_left (f x) (every f xs) t
every_at f (x ∷ xs) t (suc k) h = every_at f xs (both_right (f x) (every f xs) t) k (le_of_suc-le-suc h)

pub at_every : (f : ℕ → Bool) (xs : List ℕ) → ((k : ℕ) → k < length xs → T (f (get_or xs k 0))) → T (every f xs)
at_every f [] g = tt
at_every f (x ∷ xs) g = both (f x) (every f xs) (g 0 (omega arith)) (at_every f xs (λ k h. g (suc k) (omega arith)))

and_assoc : (a b c : Bool) → (a && b) && c ≡ a && (b && c)
and_assoc true b c = refl
and_assoc false b c = refl

module _ {A : Type 0} (same : A → A → Bool) where
  pub same_by_equal : ((x y : A) → T (same x y) → x ≡ y) → (xs ys : List A) → T (same_by same xs ys) → xs ≡ ys
  same_by_equal f [] [] t = refl
  same_by_equal f [] (y ∷ ys) t = absurd t
  same_by_equal f (x ∷ xs) [] t = absurd t
  same_by_equal f (x ∷ xs) (y ∷ ys) t =
      let e : x ≡ y = f x y (both_left (same x y) (same_by same xs ys) t) in
      let d : xs ≡ ys = same_by_equal f xs ys (both_right (same x y) (same_by same xs ys) t) in
      rw (e, d)

  -- of two lists that are put behind two of one length
  pub prefix_append : (xs ys zs ws : List A) → length xs ≡ length ys
      → is_prefix_by same (xs ++ zs) (ys ++ ws) ≡ same_by same xs ys && is_prefix_by same zs ws
  prefix_append [] [] zs ws e = refl
  prefix_append [] (y ∷ ys) zs ws e = let z : ⊥ = omega arith in absurd z
  prefix_append (x ∷ xs) [] zs ws e = let z : ⊥ = omega arith in absurd z
  prefix_append (x ∷ xs) (y ∷ ys) zs ws e =
      ap (λ (b : Bool). same x y && b) (prefix_append xs ys zs ws (omega arith)) ∙ sym (and_assoc (same x y) (same_by same xs ys) (is_prefix_by same zs ws))

  -- what is put behind a list begins with it
  pub begins_append : ((x : A) → T (same x x)) → (xs rest : List A) → T (is_prefix_by same xs (xs ++ rest))
  begins_append f [] rest = tt
  begins_append f (x ∷ xs) rest = both (same x x) (is_prefix_by same xs (xs ++ rest)) (f x) (begins_append f xs rest)

  -- and nothing else does
  pub prefix_rest : ((x y : A) → T (same x y) → x ≡ y) → (xs ys : List A) → T (is_prefix_by same xs ys) → ys ≡ xs ++ drop (length xs) ys
  prefix_rest f [] ys t = refl
  prefix_rest f (x ∷ xs) [] t = absurd t
  prefix_rest f (x ∷ xs) (y ∷ ys) t =
      let e : x ≡ y = f x y (both_left (same x y) (is_prefix_by same xs ys) t) in
      let d : ys ≡ xs ++ drop (length xs) ys = prefix_rest f xs ys (both_right (same x y) (is_prefix_by same xs ys) t) in
      λ i. sym e i ∷ d i

  -- a beginning of a beginning is one
  pub prefix_transitive : ((x y : A) → T (same x y) → x ≡ y) → (xs ys zs : List A) → T (is_prefix_by same xs ys) → T (is_prefix_by same ys zs)
      → T (is_prefix_by same xs zs)
  prefix_transitive f [] ys zs t u = tt
  prefix_transitive f (x ∷ xs) [] zs t u = absurd t
  prefix_transitive f (x ∷ xs) (y ∷ ys) [] t u = absurd u
  prefix_transitive f (x ∷ xs) (y ∷ ys) (z ∷ zs) t u =
      let e : x ≡ y = f x y (both_left (same x y) (is_prefix_by same xs ys) t) in
      both (same x z) (is_prefix_by same xs zs) (subst (λ (w : A). T (same w z)) (sym e) (both_left (same y z) (is_prefix_by same ys zs) u))
      (prefix_transitive f xs ys zs (both_right (same x y) (is_prefix_by same xs ys) t) (both_right (same y z) (is_prefix_by same ys zs) u))

pub same_list_equal : (xs ys : List ℕ) → T (same_list xs ys) → xs ≡ ys
same_list_equal = same_by_equal eqb eqb→eq

pub same_list_refl : (xs : List ℕ) → T (same_list xs xs)
same_list_refl [] = tt
same_list_refl (x ∷ xs) = both (eqb x x) (same_list xs xs) (eqb_refl x) (same_list_refl xs)

pub same_lists_equal : (xs ys : List (List ℕ)) → T (same_lists xs ys) → xs ≡ ys
same_lists_equal = same_by_equal same_list same_list_equal

-- an element, where the list has so many, and none past its end
pub element_there : {A : Type 0} (l : List A) (n : ℕ) (d : A) → n < length l → get_elem? l n ≡ some (get_or l n d)
element_there [] n d h = absurd (not-suc-le-zero h)
element_there (x ∷ l) zero d h = refl
element_there (x ∷ l) (suc n) d h = element_there l n d (le_of_suc-le-suc h)

pub no_element : {A : Type 0} (l : List A) (n : ℕ) → length l ≤ n → get_elem? l n ≡ none
no_element [] n h = refl
no_element (x ∷ l) zero h = absurd (not-suc-le-zero h)
no_element (x ∷ l) (suc n) h = no_element l n (le_of_suc-le-suc h)
