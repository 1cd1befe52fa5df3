-- Inserting by value: what it goes behind and what it stays before decide all that is said of it.
-- Assumes nothing.
use mathlib.Core.Path.{◌≡◌, refl, ap, ◌∙◌}
use mathlib.Core.Bool.{Bool, true, false}
use mathlib.Core.List.{List, [], ◌∷◌, ◌++◌, append-nil}
use Prim.Native.Nat.{ℕ, zero, suc}
use native.Mathlib.Omega.{arith}
use lib.Dec.{T}
use lib.ListN.{length, replicate}
use Rattle.letters.specs.Choice.{pick}
use Rattle.letters.proofs.Counted.{count}
use Rattle.formula.proofs.Lists.{every, both, both_left, both_right}
use Rattle.storage.specs.Stored.{is_run_mark, goes_behind, insert_by}
use Rattle.storage.proofs.Ranks.{behind_none, behind_apart}

module _ {A : Type 0} (value : A → ℕ) where
  -- inserting, by the outcome of its test
  pub insert_behind : (x y : A) (sorted : List A) → goes_behind (value x) (value y) ≡ true
      → insert_by value x (y ∷ sorted) ≡ y ∷ insert_by value x sorted
  unfolding pick
  insert_behind x y sorted e = rw e

  pub insert_here : (x y : A) (sorted : List A) → goes_behind (value x) (value y) ≡ false → insert_by value x (y ∷ sorted) ≡ x ∷ y ∷ sorted
  unfolding pick
  insert_here x y sorted e = rw e

  -- what holds of inserting x, by those that it goes behind and the one that it stays before
  module _ (x : A) (P : List A → List A → Type 0) (alone : P [] (x ∷ []))
      (behind : (y : A) (sorted : List A) → goes_behind (value x) (value y) ≡ true → P sorted (insert_by value x sorted)
      → P (y ∷ sorted) (y ∷ insert_by value x sorted))
      (here : (y : A) (sorted : List A) → goes_behind (value x) (value y) ≡ false → P (y ∷ sorted) (x ∷ y ∷ sorted))
    where
      step : (y : A) (sorted : List A) (b : Bool) → goes_behind (value x) (value y) ≡ b → P sorted (insert_by value x sorted)
          → P (y ∷ sorted) (insert_by value x (y ∷ sorted))
      step y sorted true e p = rw (insert_behind x y sorted e) (behind y sorted e p)
      step y sorted false e p = rw (insert_here x y sorted e) (here y sorted e)

      pub on_insert : (sorted : List A) → P sorted (insert_by value x sorted)
      on_insert [] = alone
      on_insert (y ∷ sorted) = step y sorted (goes_behind (value x) (value y)) refl (on_insert sorted)

  -- what is no mark stays in front
  pub insert_none : (x : A) (sorted : List A) → is_run_mark (value x) ≡ false → insert_by value x sorted ≡ x ∷ sorted
  insert_none x [] e = refl
  insert_none x (y ∷ sorted) e = insert_here x y sorted (behind_none (value x) (value y) e)

  -- a run ends before a value that is no mark
  pub insert_run : (x y : A) (run rest : List A) → is_run_mark (value y) ≡ false → insert_by value x (run ++ (y ∷ rest)) ≡ insert_by value x run ++ (y ∷ rest)
  insert_run x y run rest e =
      on_insert x (λ (l r : List A). insert_by value x (l ++ (y ∷ rest)) ≡ r ++ (y ∷ rest)) (insert_here x y rest (behind_apart (value x) (value y) e))
      (λ z l h p. insert_behind x z (l ++ (y ∷ rest)) h ∙ ap (λ (r : List A). z ∷ r) p) (λ z l h. insert_here x z (l ++ (y ∷ rest)) h) run

  -- and so it does before any number of them
  pub insert_filled : (x filler : A) (run : List A) (n : ℕ) → is_run_mark (value filler) ≡ false
      → insert_by value x (run ++ replicate n filler) ≡ insert_by value x run ++ replicate n filler
  insert_filled x filler run zero e = rw (append-nil run, append-nil (insert_by value x run))
  insert_filled x filler run (suc n) e = insert_run x filler run (replicate n filler) e

  -- one more
  pub insert_length : (x : A) (sorted : List A) → length (insert_by value x sorted) ≡ suc (length sorted)
  insert_length x sorted = on_insert x (λ (l r : List A). length r ≡ suc (length l)) refl (λ y l h p. ap suc p) (λ y l h. refl) sorted

  -- a test that each passes
  pub insert_every : (f : A → Bool) (x : A) (sorted : List A) → T (f x) → T (every f sorted) → T (every f (insert_by value x sorted))
  insert_every f x sorted t =
      on_insert x (λ (l r : List A). T (every f l) → T (every f r)) (λ u. both (f x) true t tt)
      (λ y l h p u. both (f y) (every f (insert_by value x l)) (both_left (f y) (every f l) u) (p (both_right (f y) (every f l) u)))
      (λ y l h u. both (f x) (every f (y ∷ l)) t u) sorted

pub insert_count : (value : ℕ → ℕ) (f : ℕ → Bool) (x : ℕ) (sorted : List ℕ) → count f (insert_by value x sorted) ≡ count f (x ∷ sorted)
insert_count value f x sorted =
    on_insert value x (λ (l r : List ℕ). count f r ≡ count f (x ∷ l)) refl (λ y l h p. omega arith) (λ y l h. refl) sorted
