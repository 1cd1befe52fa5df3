-- A list in two parts: each in order, put back and merged, is the whole in order.
-- Assumes nothing.
use mathlib.Core.Path.{◌≡◌, refl, ap, ◌∙◌}
use mathlib.Core.Bool.{Bool, true, false}
use mathlib.Core.List.{List, [], ◌∷◌, ◌++◌, append-nil}
use Prim.Native.Nat.{ℕ, ◌-◌, ◌≤◌}
use native.Mathlib.Omega.{arith}
use lib.ListN.{length, take, drop, length-append, length-drop, take-append-drop, drop_of_length-le}
use lib.Seq.{length-take-le, take_all, take_at, drop_at}
use borrow.Rule.Slice.PartMut.{put_mid, post_of}
use Rattle.entries.specs.Rank.{insert}
use Rattle.sorting.specs.Sorting.{in_order_onto, in_order, merged}
use Rattle.sorting.proofs.Merges.{length_in_order, length_merged, merged_parts}

module _ (less : ℕ → ℕ → Bool) (starts : List ℕ) (middle : ℕ) (parted : middle ≤ length starts) where
  -- both parts in order, one behind the other
  abbrev pub halves : List ℕ
  halves = in_order less (take middle starts) ++ in_order less (drop middle starts)

  first_long : length (in_order less (take middle starts)) ≡ middle
  first_long = length_in_order less (take middle starts) ∙ length-take-le middle starts parted

  pub halves_long : length halves ≡ length starts
  halves_long =
      omega (
        arith,
        length-append (in_order less (take middle starts)) (in_order less (drop middle starts)),
        first_long,
        length_in_order less (drop middle starts),
        length-drop middle starts,
      )

  pub first_half : take middle halves ≡ in_order less (take middle starts)
  first_half = take_at (in_order less (take middle starts)) (in_order less (drop middle starts)) middle first_long

  -- the merging of both parts, from the front of where it is written
  pub front_merged : (rest : List ℕ)
      → take (length starts) (merged less (take middle starts) (drop middle starts) ++ rest) ≡ merged less (take middle starts) (drop middle starts)
  front_merged rest =
      take_at (merged less (take middle starts) (drop middle starts)) rest (length starts)
      (omega (arith, length_merged less (take middle starts) (drop middle starts), length-take-le middle starts parted, length-drop middle starts))

  -- after the first part is sorted
  module _ {p : List ℕ} (e : p ≡ in_order less (take middle starts)) where
    part_long : length p ≡ middle
    part_long = ap length e ∙ first_long

    pub once_long : length (p ++ drop middle starts) ≡ length starts
    once_long = omega (arith, length-append p (drop middle starts), part_long, length-drop middle starts)

    -- the second part is as it was
    pub second_part : take (length (p ++ drop middle starts) - middle) (drop middle (p ++ drop middle starts)) ≡ drop middle starts
    second_part =
        ap (take (length (p ++ drop middle starts) - middle)) (drop_at p (drop middle starts) middle part_long)
        ∙ take_all (length (p ++ drop middle starts) - middle) (drop middle starts) (omega (arith, once_long, length-drop middle starts))

    -- after it is sorted too
    pub put_back : {q : List ℕ} → q ≡ in_order less (take (length (p ++ drop middle starts) - middle) (drop middle (p ++ drop middle starts)))
        → put_mid middle (length (p ++ drop middle starts) - middle) (p ++ drop middle starts) q ≡ halves
    put_back {q} f =
        let n : ℕ = length (p ++ drop middle starts) - middle in
        let none : post_of middle n (p ++ drop middle starts) ≡ [] =
        ap (drop n) (drop_at p (drop middle starts) middle part_long)
        ∙ drop_of_length-le (drop middle starts) {i = n} (omega (arith, once_long, length-drop middle starts)) in
        (λ i. take_at p (drop middle starts) middle part_long i ++ (q ++ none i)) ∙ (λ i. e i ++ append-nil q i)
        ∙ ap (λ (l : List ℕ). in_order less (take middle starts) ++ l) (f ∙ ap (in_order less) second_part)

  module _ (transitive : (x y z : ℕ) → less x y ≡ true → less y z ≡ true → less x z ≡ true)
      (level : (x y z : ℕ) → less x y ≡ false → less y z ≡ false → less x z ≡ false) where
    pub halves_merged : merged less (take middle halves) (drop middle halves) ≡ in_order less starts
    halves_merged =
        (λ i. merged less (take_at (in_order less (take middle starts)) (in_order less (drop middle starts)) middle first_long i)
        (drop_at (in_order less (take middle starts)) (in_order less (drop middle starts)) middle first_long i))
        ∙ merged_parts less transitive level (take middle starts) (drop middle starts)
        ∙ ap (in_order less) (take-append-drop middle starts)

-- a list of one start or none is in order
pub few_in_order : (less : ℕ → ℕ → Bool) (l : List ℕ) → length l ≤ 1 → l ≡ in_order less l
unfolding in_order_onto insert
few_in_order less [] h = refl
few_in_order less (x ∷ []) h = refl
few_in_order less (x ∷ y ∷ l) h = let z : ⊥ = omega arith in absurd z
