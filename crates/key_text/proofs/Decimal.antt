-- The decimal digits of a number: how the definition goes from the tenth part of a number to the number, and how many digits there are.
-- Assumes nothing.
use mathlib.Core.Path.{◌≡◌, refl, ap}
use mathlib.Core.List.{List, [], ◌∷◌, ◌++◌}
use Prim.Native.Nat.{ℕ, zero, suc, ◌*◌, ◌/◌, ◌%◌, ◌≤◌, ◌<◌, ◌^◌}
use native.Mathlib.Decide.{dec_lt}
use native.Mathlib.Nat.{not-suc-le-zero}
use native.Mathlib.Omega.{arith}
use lib.Dec.{ltb}
use lib.ListN.{length, length-append}
use borrow.Author.Tests.{lt-ltb, le-ltb}
use Rattle.letters.specs.Choice.{pick}
use Rattle.key_text.specs.Text.{digit_of, decimal_within, decimal_of, decimal_limit}

-- any two bounds above the number give the same digits
within_same : (f g n : ℕ) → n < f → n < g → decimal_within f n ≡ decimal_within g n
unfolding pick
within_same zero g n h k = absurd (not-suc-le-zero h)
within_same (suc f) zero n h k = absurd (not-suc-le-zero k)
within_same (suc f) (suc g) n h k = go (dec_lt n 10) λ l. within_same f g (n / 10) (omega arith) (omega arith)
  where
    go : Dec (n < 10) → ((n < 10 → ⊥) → decimal_within f (n / 10) ≡ decimal_within g (n / 10)) → decimal_within (suc f) n ≡ decimal_within (suc g) n
    go (yes l) same = rw (lt-ltb n 10 l) refl
    go (no l) same = ap (λ (digits : List ℕ). pick (ltb n 10) (digit_of n ∷ []) (digits ++ (digit_of (n % 10) ∷ []))) (same l)

pub decimal_one : (n : ℕ) → n < 10 → decimal_of n ≡ digit_of n ∷ []
unfolding decimal_of pick
decimal_one n h = rw (lt-ltb n 10 h) refl

pub decimal_more : (n : ℕ) → 10 ≤ n → decimal_of n ≡ decimal_of (n / 10) ++ (digit_of (n % 10) ∷ [])
unfolding decimal_of pick
decimal_more n h =
    rw (le-ltb n 10 h)
    (ap (λ (l : List ℕ). l ++ (digit_of (n % 10) ∷ [])) (within_same n (suc (n / 10)) (n / 10) (omega arith) (omega arith)))

-- ten, and ten times as much at each step
abbrev tens : ℕ → ℕ
tens zero = 10
tens (suc k) = 10 * tens k

short_within : (k n : ℕ) → n < tens k → length (decimal_of n) ≤ suc k
short_within zero n h = rw (decimal_one n h) (omega arith)
short_within (suc k) n h = go (dec_lt n 10) (short_within k (n / 10) (omega arith))
  where
    go : Dec (n < 10) → length (decimal_of (n / 10)) ≤ suc k → length (decimal_of n) ≤ suc (suc k)
    go (yes l) s = rw (decimal_one n l) (omega arith)
    go (no l) s = rw (decimal_more n (omega arith), length-append) (omega arith)

-- a number of 64 bits has at most twenty digits
pub decimal_short : (n : ℕ) → n < 2 ^ 64 → length (decimal_of n) ≤ decimal_limit
decimal_short n h = short_within 19 n (omega arith)

-- and its tenth part one less
pub decimal_shorter : (n : ℕ) → n < 2 ^ 64 → length (decimal_of (n / 10)) < decimal_limit
decimal_shorter n h = omega (arith, short_within 18 (n / 10) (omega arith))
