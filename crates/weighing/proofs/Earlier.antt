-- Words of an earlier edition stand in the order in which they stood, and begin with each other as they did: their syllables have no second final, and
-- a zero in its weight changes no comparison. Assumes nothing.
use mathlib.Core.Path.{◌≡◌, refl, sym, ap, ◌∙◌}
use mathlib.Core.Bool.{Bool, ◌&&◌, ◌||◌}
use mathlib.Core.List.{List, [], ◌∷◌}
use Prim.Native.Nat.{ℕ}
use lib.Dec.{T}
use borrow.Author.Tests.{eq-eqb}
use Rattle.letters.specs.Letters.{is_consonant}
use Rattle.letters.specs.Weights.{is_head}
use Rattle.formula.specs.Syllable.{Final, no_final, plain, plain_pair, stacked, kinzi, great_sa, Syllable, syllable, head_of, final_of, is_no_medial, is_no_vowel, is_no_final, is_no_tone, is_syllable, follows}
use Rattle.formula.specs.Row.{Row, is_row_of}
use Rattle.formula.specs.Weighing.{second_final_weight_of, weights_of, weights}
use Rattle.formula.specs.Earlier.{Edition, base, independent_finals, is_single, is_syllable_in, IsRowIn, five_weights_of, five_weights}
use Rattle.formula.proofs.Weighing.{final_weighs}
use Rattle.formula.proofs.Lists.{every, same_list, is_prefix_of_lists, both, both_left, both_right}
use Rattle.weighing.specs.Order.{in_turn, order_values, order_weights, filed, order}
use Rattle.std.specs.declared.cmp.Ordering.{Ordering}
use Rattle.weighing.specs.Prefix.{begins_with}
use Rattle.weighing.specs.Earlier.{filed_by_five}
use Rattle.weighing.proofs.OrderOfNumbers.{equal_numbers}

-- the syllable has at most one final
abbrev has_one_final : Syllable → Bool
has_one_final s = is_single (final_of s)

syllable_single : (edition : Edition) (s : Syllable) → T (is_syllable_in edition s) → T (has_one_final s)
unfolding is_syllable_in
syllable_single base (syllable h m v f t) i =
    both_left (is_single f) _
    (both_right (is_consonant h || (is_no_medial m && (is_no_vowel v && (is_no_final f && is_no_tone t)))) _ (both_right (is_head h) _ i))
syllable_single independent_finals s i = both_right (is_syllable s) (has_one_final s) i

row_single : (edition : Edition) (f : Final) (row : Row) → T (is_row_of (is_syllable_in edition) f row) → T (every has_one_final row)
row_single edition f [] q = tt
row_single edition f (s ∷ row) q =
    let rest : T (is_syllable_in edition s && is_row_of (is_syllable_in edition) (final_of s) row) = both_right (follows f (head_of s)) _ q in
    both (has_one_final s) (every has_one_final row) (syllable_single edition s (both_left (is_syllable_in edition s) _ rest))
    (row_single edition (final_of s) row (both_right (is_syllable_in edition s) _ rest))

-- "is 0 in 01's and E2's worked cases", and wherever there is one final at most
pub no_second : (f : Final) → T (is_single f) → second_final_weight_of f ≡ 0
no_second no_final i = refl
no_second (plain c) i = refl
no_second (plain_pair c d) i = absurd i
no_second (stacked c) i = refl
no_second kinzi i = refl
no_second great_sa i = refl

second_alike : (f g : Final) → T (is_single f) → T (is_single g) → second_final_weight_of f ≡ second_final_weight_of g
second_alike f g i j = no_second f i ∙ sym (no_second g j)

-- two equal weights decide nothing, in a comparison and in a test of being the same
syllables_order : (s t : Syllable) → T (has_one_final s) → T (has_one_final t) → order_values (five_weights_of s) (five_weights_of t) ≡ order_values (weights_of s) (weights_of t)
unfolding order_values weights_of five_weights_of
syllables_order (syllable h m v f t) (syllable k n w g u) i j =
    rw (equal_numbers (second_final_weight_of f) (second_final_weight_of g) (second_alike f g i j), final_weighs f, final_weighs g)

syllables_same : (s t : Syllable) → T (has_one_final s) → T (has_one_final t) → same_list (five_weights_of s) (five_weights_of t) ≡ same_list (weights_of s) (weights_of t)
unfolding weights_of five_weights_of
syllables_same (syllable h m v f t) (syllable k n w g u) i j =
    rw (eq-eqb (second_final_weight_of f) (second_final_weight_of g) (second_alike f g i j), final_weighs f, final_weighs g)

rows_order : (r s : Row) → T (every has_one_final r) → T (every has_one_final s) → order_weights (five_weights r) (five_weights s) ≡ order_weights (weights r) (weights s)
unfolding order_weights
rows_order [] [] i j = refl
rows_order [] (t ∷ s) i j = refl
rows_order (q ∷ r) [] i j = refl
rows_order (q ∷ r) (t ∷ s) i j =
    rw (syllables_order q t (both_left (has_one_final q) _ i) (both_left (has_one_final t) _ j))
    (ap (in_turn (order_values (weights_of q) (weights_of t))) (rows_order r s (both_right (has_one_final q) _ i) (both_right (has_one_final t) _ j)))

rows_begin : (q r : Row) → T (every has_one_final q) → T (every has_one_final r) → is_prefix_of_lists (five_weights q) (five_weights r) ≡ begins_with r q
rows_begin [] r i j = refl
rows_begin (s ∷ q) [] i j = refl
rows_begin (s ∷ q) (t ∷ r) i j =
    rw (syllables_same s t (both_left (has_one_final s) _ i) (both_left (has_one_final t) _ j))
    (ap (λ (b : Bool). same_list (weights_of s) (weights_of t) && b) (rows_begin q r (both_right (has_one_final s) _ i) (both_right (has_one_final t) _ j)))

module _ (edition : Edition) (r s : Row) (i : IsRowIn edition r) (j : IsRowIn edition s) where
  -- the weights of two rows of the edition are in the order of the five that they had
  pub earlier_weights : order_weights (five_weights r) (five_weights s) ≡ order_weights (weights r) (weights s)
  earlier_weights = rows_order r s (row_single edition no_final r i) (row_single edition no_final s j)

  -- so words of theirs stand as they stood
  pub earlier_order : (x y : List ℕ) → order (filed_by_five r x) (filed_by_five s y) ≡ order (filed r x) (filed s y)
  unfolding order
  earlier_order x y = ap (λ (o : Ordering). in_turn o (order_values x y)) earlier_weights

  -- and one begins with the other as it did
  pub earlier_begins : is_prefix_of_lists (five_weights s) (five_weights r) ≡ begins_with r s
  earlier_begins = rows_begin s r (row_single edition no_final s j) (row_single edition no_final r i)
