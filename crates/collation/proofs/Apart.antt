-- The first heads of two rows tell their order where they weigh differently: the head's weight is the first that is compared.
-- Assumes nothing.
use mathlib.Core.Path.{◌≡◌, refl, ap, sym, subst, ◌∙◌}
use mathlib.Core.Bool.{true}
use mathlib.Core.List.{List, [], ◌∷◌}
use Prim.Native.Nat.{ℕ}
use native.Mathlib.Omega.{arith}
use lib.Dec.{T}
use lib.ListN.{length}
use Rattle.formula.specs.Syllable.{syllable}
use Rattle.formula.specs.Row.{Row, Gives, join}
use Rattle.formula.specs.Weighing.{weights_of}
use Rattle.std.specs.Ordering.{nat_cmp, is_ne}
use Rattle.recogniser.specs.Answer.{RowTest}
use Rattle.storage.specs.Stored.{stored_form}
use Rattle.storage.proofs.Rows.{gives_stored}
use Rattle.normaliser.proofs.Storing.{readable_stores}
use Rattle.weighing.specs.Order.{in_turn, order_numbers, order_values, order_weights, filed, order}
use Rattle.std.specs.declared.cmp.Ordering.{Ordering}
use Rattle.std.specs.declared.cmp.Ordering.TheVariants.{Less, Equal, Greater}
use Rattle.weighing.proofs.Lexicographic.{less_not_equal, greater_not_equal}
use Rattle.weighing.proofs.OrderOfNumbers.{Stand, below, level, above, stand, equal_numbers}
use Rattle.weighing.proofs.Library.{numbers_compared}
use Rattle.collation.specs.Comparison.{Ordered, first_head}
use Rattle.collation.proofs.Laws.{ordered_by}

-- an order that is not equal is not
apart : {A : Type 0} (o : Ordering) → T (is_ne o) → o ≡ Equal → A
apart Less t e = less_not_equal e
apart Greater t e = greater_not_equal e
apart Equal t e = elim t [ ]

-- it decides, and so does the first of four
decided : (o p : Ordering) → T (is_ne o) → in_turn o p ≡ o
decided Less p t = refl
decided Equal p t = elim t [ ]
decided Greater p t = refl

decides : (o : Ordering) → T (is_ne o) → (w x y z : Ordering) → w ≡ o → in_turn (in_turn (in_turn w x) y) z ≡ o
decides o t w x y z e =
    ap (λ (u : Ordering). in_turn (in_turn (in_turn u x) y) z) e
    ∙ ap (λ (u : Ordering). in_turn (in_turn u y) z) (decided o x t) ∙ ap (λ (u : Ordering). in_turn u z) (decided o y t) ∙ decided o z t

module _ (a b : List ℕ) where
  heads_order : (row other : Row) → (o : Ordering) → T (is_ne o)
      → o ≡ order_numbers (first_head (join row)) (first_head (join other)) → order (filed row a) (filed other b) ≡ o
  unfolding order order_weights order_values weights_of
  heads_order [] [] o t e = apart o t (e ∙ equal_numbers 0 0 refl)
  heads_order [] (s ∷ other) o t e = go (stand 0 (first_head (join (s ∷ other))))
    where
      go : Stand 0 (first_head (join (s ∷ other))) → Less ≡ o
      go (below l d) = sym (e ∙ d)
      go (level l d) = apart o t (e ∙ d)
      go (above l d) = let z : ⊥ = omega arith in absurd z
  heads_order (s ∷ row) [] o t e = go (stand (first_head (join (s ∷ row))) 0)
    where
      go : Stand (first_head (join (s ∷ row))) 0 → Greater ≡ o
      go (below l d) = let z : ⊥ = omega arith in absurd z
      go (level l d) = apart o t (e ∙ d)
      go (above l d) = sym (e ∙ d)
  heads_order (syllable h m v f g ∷ row) (syllable k n u i j ∷ other) o t e = decides o t _ _ _ _ (sym e)

-- so two rows whose first heads weigh differently are in the order of the heads
pub heads_tell : (one other : List ℕ) → RowTest one true → RowTest other true → is_ne (nat_cmp (first_head one) (first_head other)) ≡ true
    → Ordered one other (nat_cmp (first_head one) (first_head other))
heads_tell one other r s t =
    ordered_by one other (length r.row) (length s.row) (readable_stores one r) (readable_stores other s) r.row s.row
    (subst (Gives r.row) (sym (gives_stored r.row one r.gives)) r.gives)
    (subst (Gives s.row) (sym (gives_stored s.row other s.gives)) s.gives) (nat_cmp (first_head one) (first_head other))
    (heads_order (stored_form one) (stored_form other) r.row s.row (nat_cmp (first_head one) (first_head other)) (subst T (sym t) tt)
    (numbers_compared (first_head one) (first_head other) ∙ ap (λ (w : List ℕ). order_numbers (first_head w) (first_head other)) (sym r.gives.joined)
    ∙ ap (λ (w : List ℕ). order_numbers (first_head (join r.row)) (first_head w)) (sym s.gives.joined)))
