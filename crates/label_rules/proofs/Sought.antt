-- A place that is sought from the front: at what is found the test passes, and before it nowhere; and a place of which that is so is what is found.
-- Assumes nothing.
use Rattle.std.specs.Prelude.{◌≡◌, ℕ, zero, suc, ◌+◌, ◌≤◌, ◌<◌, Bool, true, false, Option, Some, None, MatchOption, List, length, get_or}
use Rattle.std.specs.List.{AllWithin, HoldsAt}
use Rattle.std.proofs.Common.{refl, sym, ap, ◌∙◌, arith}
use native.Mathlib.Decide.{ℕ_discrete, dec_lt}
use Rattle.letters.specs.Choice.{pick}
use Rattle.label_rules.specs.Rules.{first_from, IsFirst}

module _ (test : ℕ → Bool) where
  -- what is found is the first: at it the test passes, and before it nowhere
  pub first_within : (place count : ℕ) → first_from test place count ≤ place + count
  unfolding pick
  first_within place zero = omega arith
  first_within place (suc count) = go (test place) (first_within (suc place) count)
    where
      go : (t : Bool) → first_from test (suc place) count ≤ suc place + count → pick t place (first_from test (suc place) count) ≤ place + suc count
      go true h = omega arith
      go false h = omega arith

  pub first_passes : (place count : ℕ) → first_from test place count < place + count → test (first_from test place count) ≡ true
  unfolding pick
  first_passes place zero h = let z : ⊥ = omega arith in absurd z
  first_passes place (suc count) h = go (test place) refl (first_passes (suc place) count) h
    where
      go : (t : Bool) → t ≡ test place → (first_from test (suc place) count < suc place + count → test (first_from test (suc place) count) ≡ true)
          → pick t place (first_from test (suc place) count) < place + suc count → test (pick t place (first_from test (suc place) count)) ≡ true
      go true e later k = sym e
      go false e later k = later (omega arith)

  pub first_before : (place count k : ℕ) → place ≤ k → k < first_from test place count → test k ≡ false
  unfolding pick
  first_before place zero k h l = let z : ⊥ = omega arith in absurd z
  first_before place (suc count) k h l = go (test place) refl (first_before (suc place) count k) (ℕ_discrete place k) l
    where
      go : (t : Bool) → t ≡ test place → (suc place ≤ k → k < first_from test (suc place) count → test k ≡ false) → Dec (place ≡ k)
          → k < pick t place (first_from test (suc place) count) → test k ≡ false
      go true e later d m = let z : ⊥ = omega arith in absurd z
      go false e later (yes same) m = ap test (sym same) ∙ sym e
      go false e later (no other) m = later (omega arith) m

  -- a place at which it passes, and before it nowhere, is what is found
  first_at : (size place : ℕ) → place < size → test place ≡ true → ((k : ℕ) → k < place → test k ≡ false) → place ≡ first_from test 0 size
  first_at size place h t n = go (dec_lt (first_from test 0 size) place) (dec_lt place (first_from test 0 size))
    where
      go : Dec (first_from test 0 size < place) → Dec (place < first_from test 0 size) → place ≡ first_from test 0 size
      go (yes below) d = let passes = first_passes 0 size (omega arith) in let fails = n _ below in cc
      go (no below) (yes above) = let fails = first_before 0 size place (omega arith) above in cc
      go (no below) (no above) = omega arith

  first_nowhere : (size : ℕ) → ((k : ℕ) → k < size → test k ≡ false) → size ≤ first_from test 0 size
  first_nowhere size n = go (dec_lt (first_from test 0 size) size)
    where
      go : Dec (first_from test 0 size < size) → size ≤ first_from test 0 size
      go (yes h) = let passes = first_passes 0 size (omega arith) in let fails = n _ h in let z : ⊥ = cc in absurd z
      go (no h) = omega arith

  -- what a search of the places answers
  pub first_place : (size : ℕ) (found : Option ℕ)
      → MatchOption found ((k : ℕ) → 0 ≤ k → k < size → test k ≡ false)
      (λ place. (0 ≤ place) × (place < size) × (test place ≡ true) × ((k : ℕ) → 0 ≤ k → k < place → test k ≡ false))
      → IsFirst test size found
  first_place size None n = first_nowhere size (λ k h. n k (omega arith) h)
  first_place size (Some place) h = (h.1, first_at size place h.1 h.2 (λ k below. h.3 k (omega arith) below))

-- and what one of the values of a list answers
pub first_value : (test : ℕ → Bool) (xs : List ℕ) (found : Option ℕ)
    → MatchOption found (AllWithin (λ x. test x ≡ false) xs 0 (length xs))
    (λ place. (place < length xs) × HoldsAt (λ x. test x ≡ true) xs place × AllWithin (λ x. test x ≡ false) xs 0 place)
    → IsFirst (λ place. test (get_or xs place 0)) (length xs) found
first_value test xs None n = first_place _ (length xs) None (λ k h below. n k 0 h below)
first_value test xs (Some place) h =
    first_place _ (length xs) (Some place) (omega arith, h.0, h.1 0, λ k low below. h.2 k 0 low below)
