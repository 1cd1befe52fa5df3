-- Two lists compare by their first eight bytes, each as one number, and then by what is left.
-- Assumes nothing.
use mathlib.Core.Path.{◌≡◌, refl, ap, sym, ◌∙◌}
use mathlib.Core.List.{List, [], ◌∷◌}
use Prim.Native.Nat.{ℕ, zero, suc, ◌≤◌, ◌<◌}
use native.Mathlib.Nat.{le_of_suc-le-suc}
use native.Mathlib.Omega.{arith}
use lib.ListN.{length, get_or, take, drop, drop_of_length-le}
use Rattle.std.specs.Int.{w64, from_be_bytes}
use Rattle.weighing.specs.Order.{order_numbers, in_turn, order_values, front_of}
use Rattle.std.specs.declared.cmp.Ordering.{Ordering}
use Rattle.std.specs.declared.cmp.Ordering.TheVariants.{Less, Equal, Greater}
use Rattle.weighing.proofs.Front.{by_front}

-- the library's number of eight bytes
pub big_endian : (bytes : List ℕ) → from_be_bytes w64 bytes ≡ front_of 8 bytes
big_endian bytes = omega arith

nothing_left : (o : Ordering) → in_turn o Equal ≡ o
nothing_left Less = refl
nothing_left Equal = refl
nothing_left Greater = refl

-- two lists of eight bytes
pub fronts_told : (xs ys : List ℕ) → length xs ≡ 8 → length ys ≡ 8 → ((at : ℕ) → get_or xs at 0 < 256) → ((at : ℕ) → get_or ys at 0 < 256)
    → order_numbers (front_of 8 xs) (front_of 8 ys) ≡ order_values xs ys
unfolding order_values
fronts_told xs ys h k s t =
    let o : Ordering = order_numbers (front_of 8 xs) (front_of 8 ys) in
    sym
    (by_front xs ys 8 (omega arith) (omega arith) (λ at l. s at) (λ at l. t at)
    ∙ (λ i. in_turn o (order_values (drop_of_length-le xs {i = 8} (omega arith) i) (drop_of_length-le ys {i = 8} (omega arith) i))) ∙ nothing_left o)

grouped : (a b c : Ordering) → in_turn a (in_turn b c) ≡ in_turn (in_turn a b) c
grouped Less b c = refl
grouped Equal b c = refl
grouped Greater b c = refl

-- two lists in two parts, of which the first are as long
pub parts_told : (n : ℕ) (xs ys : List ℕ) → n ≤ length xs → n ≤ length ys
    → in_turn (order_values (take n xs) (take n ys)) (order_values (drop n xs) (drop n ys)) ≡ order_values xs ys
unfolding order_values
parts_told zero xs ys h k = refl
parts_told (suc n) [] ys h k = let z : ⊥ = omega (arith, h) in absurd z
parts_told (suc n) (x ∷ xs) [] h k = let z : ⊥ = omega (arith, k) in absurd z
parts_told (suc n) (x ∷ xs) (y ∷ ys) h k =
    sym (grouped (order_numbers x y) (order_values (take n xs) (take n ys)) (order_values (drop n xs) (drop n ys)))
    ∙ ap (in_turn (order_numbers x y)) (parts_told n xs ys (le_of_suc-le-suc h) (le_of_suc-le-suc k))
