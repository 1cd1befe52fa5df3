-- Two filed keys compare as the rows of weights do, and bytes of words as their values; so the records are in word order.
-- Assumes nothing.
use mathlib.Core.Path.{◌≡◌, refl, sym, ap, subst, ◌∙◌}
use mathlib.Core.Bool.{true, false, true≢false}
use mathlib.Core.List.{List, [], ◌∷◌, map}
use Prim.Native.Nat.{ℕ}
use native.Mathlib.Omega.{arith}
use Rattle.std.specs.Ordering.{is_lt, is_ne, nat_cmp, ordering_then}
use Rattle.std.specs.Cmp.{IsTotalOrder, IsStrictWeakOrder}
use Rattle.std.specs.Cmp.Lexicographic.{slice_cmp}
use Rattle.std.proofs.lemmas.Cmp.{on_total, then_total, nat_list_cmp_total}
use Rattle.std.proofs.lemmas.List.Sorted.{ranks_by}
use Rattle.weighing.specs.Order.{order_numbers, in_turn, order_values, order}
use Rattle.std.specs.declared.cmp.Ordering.{Ordering}
use Rattle.std.specs.declared.cmp.Ordering.TheVariants.{Less, Equal, Greater}
use Rattle.weighing.proofs.OrderOfNumbers.{Stand, below, level, above, stand, less_numbers, equal_numbers, greater_numbers}
use Rattle.weighing.proofs.Library.{turns, lists_compared}
use Rattle.weighing.proofs.Laws.{keys_order}
use Rattle.entries.specs.Entries.{value_of, word_at, entry_at}
use Rattle.book_keys.specs.Filing.{row_of, weights_at, HasKey}
use Rattle.book_keys.proofs.Rows.{keyed_weights}
use Rattle.book_order.specs.Order.{file_of, is_less, bytes_at, filed_order}

-- a byte's value is 1000 more than the byte
order_of_value : (x y : ℕ) → order_numbers (value_of x) (value_of y) ≡ order_numbers x y
order_of_value x y = go (stand x y)
  where
    go : Stand x y → order_numbers (value_of x) (value_of y) ≡ order_numbers x y
    go (below h o) = less_numbers (value_of x) (value_of y) (omega arith) ∙ sym o
    go (level h o) = equal_numbers (value_of x) (value_of y) (omega arith) ∙ sym o
    go (above h o) = greater_numbers (value_of x) (value_of y) (omega arith) ∙ sym o

-- bytes are in the order of their values
pub order_of_values : (xs ys : List ℕ) → order_values (map value_of xs) (map value_of ys) ≡ order_values xs ys
unfolding order_values
order_of_values [] [] = refl
order_of_values [] (y ∷ ys) = refl
order_of_values (x ∷ xs) [] = refl
order_of_values (x ∷ xs) (y ∷ ys) = λ i. in_turn (order_of_value x y i) (order_of_values xs ys i)

-- the records at two starts whose keys are filed are in the order of what they are filed by
pub ordered_words : (b keys : List ℕ) (first second : ℕ) → HasKey b keys first → HasKey b keys second
    → filed_order b keys first second ≡ order (file_of (entry_at b first)) (file_of (entry_at b second))
unfolding order
ordered_words b keys first second one other =
    (λ i. in_turn (order_values (keyed_weights b keys first one i) (keyed_weights b keys second other i))
    (sym (order_of_values (bytes_at b first) (bytes_at b second)) i))
    ∙ ap (λ (w : Ordering). in_turn w (order_values (word_at b first) (word_at b second))) (keys_order (row_of (word_at b first)) (row_of (word_at b second)))

-- the order of pairs of lists, the first of them first
abbrev pairs : List ℕ × List ℕ → List ℕ × List ℕ → Ordering
pairs p q = ordering_then (slice_cmp nat_cmp p.0 q.0) (slice_cmp nat_cmp p.1 q.1)

pairs_total : IsTotalOrder pairs
pairs_total = then_total (on_total (λ (p : List ℕ × List ℕ). p.0) nat_list_cmp_total) (on_total (λ (p : List ℕ × List ℕ). p.1) nat_list_cmp_total)

-- which of any two starts is less, whatever stands there, is an order
pub starts_ordered : (b keys : List ℕ) → IsStrictWeakOrder (λ (x y : ℕ). is_lt (filed_order b keys x y))
starts_ordered b keys =
    subst IsStrictWeakOrder
    (λ i (x y : ℕ). is_lt ((turns (slice_cmp nat_cmp (weights_at keys x) (weights_at keys y)) (slice_cmp nat_cmp (bytes_at b x) (bytes_at b y))
    ∙ (λ j. in_turn (lists_compared (weights_at keys x) (weights_at keys y) j) (lists_compared (bytes_at b x) (bytes_at b y) j))) i))
    (ranks_by pairs_total (λ (x : ℕ). (weights_at keys x, bytes_at b x)))

-- the library's test is that of the definition
pub less_told : (o : Ordering) → is_lt o ≡ is_less o
less_told Less = refl
less_told Equal = refl
less_told Greater = refl

-- one comparison decides, or another does
pub by_first : (o w p : Ordering) → o ≡ w → is_ne o ≡ true → o ≡ in_turn w p
by_first o Less p e t = e
by_first o Equal p e t = absurd (true≢false (sym t ∙ ap is_ne e))
by_first o Greater p e t = e

pub by_second : (o w p : Ordering) → o ≡ w → is_ne o ≡ false → p ≡ in_turn w p
by_second o Less p e f = absurd (true≢false (sym (ap is_ne e) ∙ f))
by_second o Equal p e f = refl
by_second o Greater p e f = absurd (true≢false (sym (ap is_ne e) ∙ f))
