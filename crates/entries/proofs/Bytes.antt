-- A word and its bytes: each goes back to the other, since a readable word has only values of the chart.
-- Assumes nothing.
use mathlib.Core.Path.{◌≡◌, refl}
use mathlib.Core.List.{List, [], ◌∷◌, map}
use Prim.Native.Nat.{ℕ, zero, suc, ◌≤◌, ◌<◌, suc-le-suc, zero-le}
use native.Mathlib.Decide.{dec_lt}
use native.Mathlib.Omega.{arith}
use lib.Dec.{T}
use lib.ListN.{length, get_or}
use Rattle.letters.specs.Letters.{is_admitted}
use Rattle.letters.proofs.Counted.{below_foreign, above_foreign, foreign_unadmitted}
use Rattle.recogniser.specs.Answer.{Readable}
use Rattle.entries.specs.Entries.{value_of}
use Rattle.entries.specs.Book.{byte_of}

-- a list of bytes
abbrev pub Bytes : List ℕ → Type 0
Bytes list = (place : ℕ) → get_or list place 0 < 256

-- the byte of a byte's value
pub byte_value : (l : List ℕ) → map byte_of (map value_of l) ≡ l
byte_value [] = refl
byte_value (x ∷ l) =
    let own : byte_of (value_of x) ≡ x = omega arith in
    let rest : map byte_of (map value_of l) ≡ l = byte_value l in
    λ i. own i ∷ rest i

-- the value of a value's byte, where each value is from 1000 on
pub value_byte : (l : List ℕ) → ((k : ℕ) → k < length l → 0x1000 ≤ get_or l k 0) → map value_of (map byte_of l) ≡ l
value_byte [] h = refl
value_byte (x ∷ l) h =
    let least : 0x1000 ≤ x = h zero (suc-le-suc zero-le) in
    let own : value_of (byte_of x) ≡ x = omega arith in
    let rest : map value_of (map byte_of l) ≡ l = value_byte l (λ k b. h (suc k) (suc-le-suc b)) in
    λ i. own i ∷ rest i

-- an admitted value is on the chart
pub admitted_within : (x : ℕ) → T (is_admitted x) → (0x1000 ≤ x) × (x ≤ 0x104F)
admitted_within x t = (least (dec_lt x 0x1000), most (dec_lt 0x104F x))
  where
    least : Dec (x < 0x1000) → 0x1000 ≤ x
    least (yes h) = absurd (rw (foreign_unadmitted x (below_foreign x h)) at t)
    least (no h) = omega arith

    most : Dec (0x104F < x) → x ≤ 0x104F
    most (yes h) = absurd (rw (foreign_unadmitted x (above_foreign x h)) at t)
    most (no h) = omega arith

pub readable_within : (w : List ℕ) → Readable w → (k : ℕ) → k < length w → (0x1000 ≤ get_or w k 0) × (get_or w k 0 ≤ 0x104F)
readable_within w r k h = admitted_within (get_or w k 0) (r.admissible.admitted k h)
