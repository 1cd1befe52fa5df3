-- Two lists compare by the first of their bytes at once, and then by what is left.
-- Assumes nothing.
use mathlib.Core.Path.{◌≡◌, refl, ap, sym, ◌∙◌}
use mathlib.Core.List.{List}
use Prim.Native.Nat.{ℕ, zero, suc, ◌+◌, ◌*◌, ◌≤◌, ◌<◌}
use native.Mathlib.Omega.{arith}
use lib.ListN.{length, get_or, drop}
use Rattle.weighing.specs.Order.{order_numbers, in_turn, lexicographic, front_of}
use Rattle.std.specs.declared.cmp.Ordering.{Ordering}
use Rattle.std.specs.declared.cmp.Ordering.TheVariants.{Less, Equal, Greater}
use Rattle.weighing.proofs.OrderOfNumbers.{Stand, below, level, above, stand, less_numbers, equal_numbers, greater_numbers}
use Rattle.weighing.proofs.Passing.{step_by}

-- one comparison after two others, or two after one
grouped : (a b c : Ordering) → in_turn a (in_turn b c) ≡ in_turn (in_turn a b) c
grouped Less b c = refl
grouped Equal b c = refl
grouped Greater b c = refl

-- numbers with one digit more compare by what they were, and then by the digit
digit_more : (x y d e : ℕ) → d < 256 → e < 256 → in_turn (order_numbers x y) (order_numbers d e) ≡ order_numbers (256 * x + d) (256 * y + e)
digit_more x y d e h k = go (stand x y) (stand d e)
  where
    turn : (o p : Ordering) → order_numbers x y ≡ o → order_numbers d e ≡ p → in_turn (order_numbers x y) (order_numbers d e) ≡ in_turn o p
    turn o p i j = rw (i, j) refl

    go : Stand x y → Stand d e → in_turn (order_numbers x y) (order_numbers d e) ≡ order_numbers (256 * x + d) (256 * y + e)
    go (below l o) (below m p) = turn Less Less o p ∙ sym (less_numbers (256 * x + d) (256 * y + e) (omega arith))
    go (below l o) (level m p) = turn Less Equal o p ∙ sym (less_numbers (256 * x + d) (256 * y + e) (omega arith))
    go (below l o) (above m p) = turn Less Greater o p ∙ sym (less_numbers (256 * x + d) (256 * y + e) (omega arith))
    go (level l o) (below m p) = turn Equal Less o p ∙ sym (less_numbers (256 * x + d) (256 * y + e) (omega arith))
    go (level l o) (level m p) = turn Equal Equal o p ∙ sym (equal_numbers (256 * x + d) (256 * y + e) (omega arith))
    go (level l o) (above m p) = turn Equal Greater o p ∙ sym (greater_numbers (256 * x + d) (256 * y + e) (omega arith))
    go (above l o) (below m p) = turn Greater Less o p ∙ sym (greater_numbers (256 * x + d) (256 * y + e) (omega arith))
    go (above l o) (level m p) = turn Greater Equal o p ∙ sym (greater_numbers (256 * x + d) (256 * y + e) (omega arith))
    go (above l o) (above m p) = turn Greater Greater o p ∙ sym (greater_numbers (256 * x + d) (256 * y + e) (omega arith))

module _ (xs ys : List ℕ) where
  pub by_front : (n : ℕ) → n ≤ length xs → n ≤ length ys → ((at : ℕ) → at < n → get_or xs at 0 < 256) → ((at : ℕ) → at < n → get_or ys at 0 < 256)
      → lexicographic order_numbers xs ys ≡ in_turn (order_numbers (front_of n xs) (front_of n ys)) (lexicographic order_numbers (drop n xs) (drop n ys))
  by_front zero h k s t = ap (λ (o : Ordering). in_turn o (lexicographic order_numbers xs ys)) (sym (equal_numbers 0 0 refl))
  by_front (suc n) h k s t =
      by_front n (omega arith) (omega arith) (λ at l. s at (omega arith)) (λ at l. t at (omega arith))
      ∙ ap (in_turn (order_numbers (front_of n xs) (front_of n ys))) (step_by order_numbers xs ys n 0 (omega arith) (omega arith))
      ∙ grouped (order_numbers (front_of n xs) (front_of n ys)) (order_numbers (get_or xs n 0) (get_or ys n 0)) _
      ∙ ap (λ (o : Ordering). in_turn o (lexicographic order_numbers (drop (suc n) xs) (drop (suc n) ys)))
      (digit_more (front_of n xs) (front_of n ys) (get_or xs n 0) (get_or ys n 0) (s n (omega arith)) (t n (omega arith)))
