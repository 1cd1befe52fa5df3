-- Two tests that agree at each byte, and at each pair of small numbers, by computing both at every one of them.
-- Assumes nothing.
use mathlib.Core.Path.{◌≡◌}
use mathlib.Core.Bool.{Bool}
use Prim.Native.Nat.{ℕ, ◌<◌}
use lib.Dec.{T}
use Rattle.letters.proofs.Table.{up_to, below}
use Rattle.letters.proofs.Tests.{same, same_equal}

-- tests that agree at each byte
pub on_bytes : (f g : ℕ → Bool) → T (up_to (λ (n : ℕ). same (f n) (g n)) 256) → (n : ℕ) → n < 256 → f n ≡ g n
on_bytes f g t n small = same_equal (f n) (g n) (below (λ (k : ℕ). same (f k) (g k)) 256 t n small)

-- a test that passes at each pair of numbers below two bounds
pub on_pairs : (f : ℕ → ℕ → Bool) (m n : ℕ) → T (up_to (λ (a : ℕ). up_to (f a) n) m) → (a b : ℕ) → a < m → b < n → T (f a b)
on_pairs f m n t a b p q = below (f a) n (below (λ (k : ℕ). up_to (f k) n) m t a p) b q
