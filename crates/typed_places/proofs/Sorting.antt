-- The places of a word are sorted as its values are: inserting compares values alone, so it goes the same way with both.
-- Assumes nothing.
use mathlib.Core.Path.{◌≡◌, refl, sym, ap, ◌∙◌}
use mathlib.Core.Bool.{Bool}
use mathlib.Core.List.{List, [], ◌∷◌, map}
use Prim.Native.Nat.{ℕ, zero, suc, ◌+◌, ◌≤◌, ◌<◌}
use native.Mathlib.Decide.{ℕ_discrete}
use native.Mathlib.Omega.{arith}
use borrow.Author.Tests.{eq-eqb, ne_eqb}
use lib.Dec.{T, eqb, ltb, lt→ltb}
use lib.ListN.{length, drop, get_or, length-map, drop_of_length-le}
use lib.Seq.{drop-cons}
use Rattle.letters.specs.Counting.{up_from, count}
use Rattle.letters.specs.Weights.{bit_if}
use Rattle.formula.proofs.Lists.{every, both, both_left, both_right}
use Rattle.storage.specs.Stored.{insert_by, sort_runs_by, itself, insert, sort_runs}
use Rattle.storage.proofs.Inserting.{insert_behind, insert_here, on_insert, insert_every, insert_count}
use Rattle.storage.proofs.Runs.{sort_length}
use Rattle.typed_places.specs.Typed.{typed_at, sorted_places}

module _ {A : Type 0} (value : A → ℕ) where
  insert_values : (x : A) (sorted : List A) → map value (insert_by value x sorted) ≡ insert (value x) (map value sorted)
  insert_values x sorted =
      on_insert value x (λ (l r : List A). map value r ≡ insert (value x) (map value l)) refl
      (λ y l h p. ap (λ (r : List ℕ). value y ∷ r) p ∙ sym (insert_behind itself (value x) (value y) (map value l) h))
      (λ y l h. sym (insert_here itself (value x) (value y) (map value l) h)) sorted

  sort_values : (list : List A) → map value (sort_runs_by value list) ≡ sort_runs (map value list)
  sort_values [] = refl
  sort_values (x ∷ list) = insert_values x (sort_runs_by value list) ∙ ap (insert (value x)) (sort_values list)

  pub sort_every : (f : A → Bool) (list : List A) → T (every f list) → T (every f (sort_runs_by value list))
  sort_every f [] t = tt
  sort_every f (x ∷ list) t =
      insert_every value f x (sort_runs_by value list) (both_left (f x) (every f list) t) (sort_every f list (both_right (f x) (every f list) t))

sort_count : (value : ℕ → ℕ) (f : ℕ → Bool) (list : List ℕ) → count f (sort_runs_by value list) ≡ count f list
sort_count value f [] = refl
sort_count value f (x ∷ list) = insert_count value f x (sort_runs_by value list) ∙ ap (λ (n : ℕ). bit_if (f x) 1 + n) (sort_count value f list)

-- the values at the places from k on
pub places_values : (word : List ℕ) (k n : ℕ) → k + n ≡ length word → map (typed_at word) (up_from k n) ≡ drop k word
unfolding typed_at
places_values word k zero e = let h : length word ≤ k = omega arith in sym (drop_of_length-le word h)
places_values word k (suc n) e =
    ap (λ (l : List ℕ). get_or word k 0 ∷ l) (places_values word (suc k) n (omega arith)) ∙ sym (drop-cons word k 0 (omega arith))

-- the values at the sorted places are the sorted values
pub sorted_values : (word : List ℕ) → map (typed_at word) (sorted_places word) ≡ sort_runs word
sorted_values word = sort_values (typed_at word) (up_from 0 (length word)) ∙ ap sort_runs (places_values word 0 (length word) (omega arith))

pub sorted_length : (word : List ℕ) → length (sorted_places word) ≡ length word
sorted_length word = sym (length-map (sorted_places word) (typed_at word)) ∙ ap length (sorted_values word) ∙ sort_length word

-- each is a place of the word
below_every : (most k n : ℕ) → k + n ≤ most → T (every (λ (p : ℕ). ltb p most) (up_from k n))
below_every most k zero h = tt
below_every most k (suc n) h = both (ltb k most) _ (lt→ltb k most (omega arith)) (below_every most (suc k) n (omega arith))

pub sorted_within : (word : List ℕ) → T (every (λ (p : ℕ). ltb p (length word)) (sorted_places word))
sorted_within word =
    sort_every (typed_at word) (λ (p : ℕ). ltb p (length word)) (up_from 0 (length word)) (below_every (length word) 0 (length word) (omega arith))

-- and each place of the word stands there once
none_below : (p k n : ℕ) → p < k → count (eqb p) (up_from k n) ≡ 0
none_below p k zero h = refl
none_below p k (suc n) h = rw (ne_eqb p k (λ e. omega arith), none_below p (suc k) n (omega arith))

one_from : (p k n : ℕ) → k ≤ p → p < k + n → count (eqb p) (up_from k n) ≡ 1
one_from p k zero h l = let z : ⊥ = omega arith in absurd z
one_from p k (suc n) h l = go (ℕ_discrete p k) (λ d. one_from p (suc k) n (omega arith) (omega arith))
  where
    go : Dec (p ≡ k) → ((p ≡ k → ⊥) → count (eqb p) (up_from (suc k) n) ≡ 1) → count (eqb p) (up_from k (suc n)) ≡ 1
    go (yes e) f = rw (eq-eqb p k e, none_below p (suc k) n (omega arith))
    go (no d) f = rw (ne_eqb p k d, f d)

pub sorted_once : (word : List ℕ) (p : ℕ) → p < length word → count (eqb p) (sorted_places word) ≡ 1
sorted_once word p h = sort_count (typed_at word) (eqb p) (up_from 0 (length word)) ∙ one_from p 0 (length word) (omega arith) (omega arith)
