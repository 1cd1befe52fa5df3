-- What takes the place of a value: one of four is replaced, any other stays, and 1029 alone becomes two.
-- Assumes nothing.
use mathlib.Core.Path.{◌≡◌, refl}
use mathlib.Core.Bool.{false}
use mathlib.Core.List.{List, [], ◌∷◌}
use Prim.Native.Nat.{ℕ, ◌≤◌}
use native.Mathlib.Decide.{ℕ_discrete}
use native.Mathlib.Omega.{arith}
use borrow.Author.Tests.{ne_eqb}
use lib.ListN.{length, get_or}
use Rattle.letters.specs.Choice.{pick}
use Rattle.skeletons.specs.Skeleton.{replaced, is_replaced}
use Rattle.skeletons.specs.Parts.{first_of}

-- a value is one of the four, or it stays
pub data Replacing : ℕ → List ℕ → Type 0 where
  zero_digit : Replacing 0x1040 (0x101D ∷ [])
  seven_digit : Replacing 0x1047 (0x101B ∷ [])
  letter_u : Replacing 0x1025 (0x1009 ∷ [])
  letter_o : Replacing 0x1029 (0x101E ∷ 0x103C ∷ [])
  stays : (x : ℕ) → is_replaced x ≡ false → Replacing x (x ∷ [])

pub replacing : (x : ℕ) → Replacing x (replaced x)
unfolding replaced is_replaced pick
replacing x = go (ℕ_discrete x 0x1040) (ℕ_discrete x 0x1047) (ℕ_discrete x 0x1025) (ℕ_discrete x 0x1029)
  where
    go : Dec (x ≡ 0x1040) → Dec (x ≡ 0x1047) → Dec (x ≡ 0x1025) → Dec (x ≡ 0x1029) → Replacing x (replaced x)
    go (yes e) b c d = rw e zero_digit
    go (no a) (yes e) c d = rw e seven_digit
    go (no a) (no b) (yes e) d = rw e letter_u
    go (no a) (no b) (no c) (yes e) = rw e letter_o
    go (no a) (no b) (no c) (no d) =
        rw (ne_eqb x 0x1040 a, ne_eqb x 0x1047 b, ne_eqb x 0x1025 c, ne_eqb x 0x1029 d)
        (stays x (rw (ne_eqb x 0x1040 a, ne_eqb x 0x1047 b, ne_eqb x 0x1025 c, ne_eqb x 0x1029 d) refl))

-- what a value becomes, by the tests of the code
pub four_apart : (x : ℕ) → (x ≡ 0x1040 → ⊥) → (x ≡ 0x1047 → ⊥) → (x ≡ 0x1025 → ⊥) → (x ≡ 0x1029 → ⊥) → x ≡ first_of x
unfolding first_of replaced pick
four_apart x a b c d = rw (ne_eqb x 0x1040 a, ne_eqb x 0x1047 b, ne_eqb x 0x1025 c, ne_eqb x 0x1029 d) refl

pub two_values : (x : ℕ) → x ≡ 0x1029 → replaced x ≡ first_of x ∷ 0x103C ∷ []
unfolding first_of replaced pick
two_values x e = rw e refl

pub one_value : (x : ℕ) → (x ≡ 0x1029 → ⊥) → replaced x ≡ first_of x ∷ []
unfolding first_of
one_value x n = go x (replaced x) n (replacing x)
  where
    go : (y : ℕ) (l : List ℕ) → (y ≡ 0x1029 → ⊥) → Replacing y l → l ≡ get_or l 0 0 ∷ []
    go y l m zero_digit = refl
    go y l m seven_digit = refl
    go y l m letter_u = refl
    go y l m letter_o = absurd (m refl)
    go y l m (stays z e) = refl

-- one value or two
sized : (x : ℕ) → (1 ≤ length (replaced x)) × (length (replaced x) ≤ 2)
sized x = go x (replaced x) (replacing x)
  where
    go : (y : ℕ) (l : List ℕ) → Replacing y l → (1 ≤ length l) × (length l ≤ 2)
    go y l zero_digit = (omega arith, omega arith)
    go y l seven_digit = (omega arith, omega arith)
    go y l letter_u = (omega arith, omega arith)
    go y l letter_o = (omega arith, omega arith)
    go y l (stays z e) = (omega arith, omega arith)

pub some_value : (x : ℕ) → 1 ≤ length (replaced x)
some_value x = (sized x).0

pub two_at_most : (x : ℕ) → length (replaced x) ≤ 2
two_at_most x = (sized x).1
