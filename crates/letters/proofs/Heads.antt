-- Document 01, "Weights": the head weight of every value. Those of the chart are ranges in a row, which antt computes; a value off the chart weighs 0,
-- and a value weighs something just where it is a head. Assumes nothing.
use mathlib.Core.Path.{◌≡◌, refl}
use mathlib.Core.Bool.{Bool, true, false, ◌||◌}
use mathlib.Core.List.{◌∷◌, ◌++◌, map}
use Prim.Native.Nat.{ℕ, ◌+◌, ◌-◌, ◌≤◌}
use native.Mathlib.Omega.{arith}
use lib.Dec.{T, leb, ltb, leb→le}
use lib.ListN.{replicate}
use borrow.Author.Tests.{lt-ltb}
use Rattle.letters.specs.Choice.{pick}
use Rattle.letters.specs.Counting.{up_from}
use Rattle.letters.specs.Letters.{within}
use Rattle.letters.specs.Weights.{is_head, head_weight, independent_vowel_weight}
use Rattle.letters.proofs.Counted.{chart, off_chart}
use Rattle.letters.proofs.Picks.{ranges}
use Rattle.letters.proofs.Tests.{both_right}

-- C 13 to 46; 1023 to 1027, and 1029 and 102A, 46; digits 3 to 12; 104A 1, 104B 2; S 47 to 50; 0 for 1022, 1028 and from 102B to 103F
pub chart_weights :
    map head_weight chart
    ≡ up_from 13 34 ++ (0 ∷ replicate 5 46 ++ (0 ∷ replicate 2 46 ++ (replicate 21 0 ++ (up_from 3 10 ++ (up_from 1 2 ++ up_from 47 4)))))
unfolding pick
chart_weights = refl

pub off_chart_weighs_nothing : (x : ℕ) → within 0x1000 0x104F x ≡ false → 0 ≡ head_weight x
off_chart_weighs_nothing x = off_chart x (λ l. search (ranges, tt) depth 20 fits 20000) (λ h. search (ranges, tt) depth 20 fits 20000)

-- a sum with a weight in it is a weight, and a choice of weights is one where a test passes
some : (k n : ℕ) → T (ltb 0 n) → ltb 0 (k + n) ≡ true
some k n t = let h : 1 ≤ n = leb→le 1 n t in lt-ltb 0 (k + n) (omega arith)

weighs_choice : (b rest : Bool) (n m : ℕ) → ltb 0 n ≡ true → ltb 0 m ≡ rest → ltb 0 (pick b n m) ≡ (b || rest)
unfolding pick
weighs_choice true rest n m e f = e
weighs_choice false rest n m e f = f

weighs_last : (b : Bool) (n : ℕ) → ltb 0 n ≡ true → ltb 0 (pick b n 0) ≡ b
unfolding pick
weighs_last true n e = e
weighs_last false n e = refl

-- "0 for what is no head" is no head's weight
pub heads_alone_weigh : (x : ℕ) → ltb 0 (head_weight x) ≡ is_head x
heads_alone_weigh x = search (weighs_choice, weighs_last, some, tt) depth 20

-- the vowel weight of an independent vowel is at most that of 102A
pub independent_vowel_limit : (x : ℕ) → independent_vowel_weight x ≤ 9
unfolding pick
independent_vowel_limit x = go (within 0x1023 0x1027 x) (within 0x1029 0x102A x) (upper 0x1023 0x1027 x) (upper 0x1029 0x102A x)
  where
    upper : (a b x : ℕ) → T (within a b x) → x ≤ b
    upper a b x t = leb→le x b (both_right (leb a x) (leb x b) t)

    go : (early late : Bool) → (T early → x ≤ 0x1027) → (T late → x ≤ 0x102A)
        → pick early (x - 0x1023 + 2) (pick late (x - 0x1029 + 8) 0) ≤ 9
    go true late l k = let h = l tt in omega arith
    go false true l k = let h = k tt in omega arith
    go false false l k = omega arith
