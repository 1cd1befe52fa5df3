-- The order of words is a strict total order: each comparison that it makes in turn is one. A second final decides before vowel and tone.
-- Keys compare as rows of weights do, since each syllable has six bytes of them. Assumes nothing.
use mathlib.Core.Path.{◌≡◌, refl, ap, ◌∙◌}
use mathlib.Core.List.{List, [], ◌∷◌}
use Prim.Native.Nat.{ℕ, ◌-◌, ◌≤◌, ◌<◌}
use native.Mathlib.Omega.{arith}
use lib.ListN.{length, length-append, length-replicate}
use Rattle.letters.specs.Marks.{MedialGroup, Vowel, ToneMark}
use Rattle.letters.specs.Weights.{head_weight, medial_weight}
use Rattle.formula.specs.Limits.{limit}
use Rattle.formula.specs.Syllable.{Final, plain, plain_pair, syllable}
use Rattle.formula.specs.Row.{Row}
use Rattle.formula.specs.Weighing.{final_weight_of, second_final_weight_of, weights_of, weights}
use Rattle.weighing.specs.Order.{order_numbers, in_turn, lexicographic, order_values, order_weights, Filed, order}
use Rattle.std.specs.declared.cmp.Ordering.TheVariants.{Less}
use Rattle.weighing.specs.Keys.{used_bytes, key_limit, zeros, key_of, key_bytes}
use Rattle.weighing.proofs.Lexicographic.{IsOrder, lexicographic_is_order, in_turn_is_order, over_append}
use Rattle.weighing.proofs.OrderOfNumbers.{less_numbers, numbers_are_ordered}

pub values_are_ordered : IsOrder (List ℕ) order_values
unfolding order_values
values_are_ordered = lexicographic_is_order order_numbers numbers_are_ordered

pub weights_are_ordered : IsOrder (List (List ℕ)) order_weights
unfolding order_weights
weights_are_ordered = lexicographic_is_order order_values values_are_ordered

same_filed : (x y : Filed) → x.weights ≡ y.weights → x.values ≡ y.values → x ≡ y
same_filed x y p q = rw (p, q)

-- the order of words: irreflexive, transitive, and exactly one of less, equal and greater; equal are only identical words
pub words_are_ordered : IsOrder Filed order
unfolding order
words_are_ordered =
    in_turn_is_order order_weights order_values (λ (a : Filed). a.weights) (λ (a : Filed). a.values) weights_are_ordered values_are_ordered
    (λ x y p q. same_filed x y p q)

-- "a sixth weight, which stands and is compared straight after the first final": of two syllables that are alike up to there, whatever follows
module _ (head : ℕ) (medial : MedialGroup) (vowel other_vowel : Vowel) (tone other_tone : ToneMark) where
  pub second_final_decides : (low high : Final) → final_weight_of low ≡ final_weight_of high → second_final_weight_of low < second_final_weight_of high
      → order_values (weights_of (syllable head medial vowel low tone)) (weights_of (syllable head medial other_vowel high other_tone)) ≡ Less
  unfolding order_values weights_of
  second_final_decides low high e less =
      rw (
        numbers_are_ordered.alike (head_weight head),
        numbers_are_ordered.alike (medial_weight medial),
        e,
        numbers_are_ordered.alike (final_weight_of high),
        less_numbers (second_final_weight_of low) (second_final_weight_of high) less,
      )

  -- so a syllable with one final stands before the same with a second
  pub one_final_before_two : (letter further : ℕ)
      → order_values (weights_of (syllable head medial vowel (plain letter) tone)) (weights_of (syllable head medial other_vowel (plain_pair letter further) other_tone)) ≡ Less
  one_final_before_two letter further = second_final_decides (plain letter) (plain_pair letter further) refl (omega arith)

-- the used bytes of two keys, compared byte by byte, are in the order of the rows of weights
pub keys_order : (r s : Row) → order_values (key_of r) (key_of s) ≡ order_weights (weights r) (weights s)
unfolding order_values order_weights weights_of
keys_order [] [] = refl
keys_order [] (syllable h m v f t ∷ s) = refl
keys_order (syllable h m v f t ∷ r) [] = refl
keys_order (syllable h m v f t ∷ r) (syllable i n w g u ∷ s) =
    over_append order_numbers (weights_of (syllable h m v f t)) (weights_of (syllable i n w g u)) (key_of r) (key_of s) refl
    ∙ ap (in_turn (lexicographic order_numbers (weights_of (syllable h m v f t)) (weights_of (syllable i n w g u)))) (keys_order r s)

-- a row's weights are six bytes a syllable
pub key_used : (row : Row) → length (key_of row) ≡ used_bytes (length row)
unfolding weights_of
key_used [] = refl
key_used (syllable h m v f t ∷ row) = let e = key_used row in omega arith

-- so a key has as many bytes as it is held in
pub key_length : (row : Row) → length row ≤ limit → length (key_bytes row) ≡ key_limit
key_length row few = omega (arith, key_used row, length-append (key_of row) (zeros (key_limit - used_bytes (length row))), length-replicate {A = ℕ} (key_limit - used_bytes (length row)) 0)
