-- The order of records by their words: what goes before, and what does not, carries over.
-- Assumes nothing.
use mathlib.Core.Path.{◌≡◌, refl, sym, ap, ◌∙◌}
use mathlib.Core.Bool.{true, false}
use mathlib.Core.List.{List}
use Prim.Native.Nat.{ℕ}
use native.Mathlib.Omega.{arith}
use Rattle.weighing.specs.Order.{Filed, order}
use Rattle.std.specs.declared.cmp.Ordering.{Ordering}
use Rattle.std.specs.declared.cmp.Ordering.TheVariants.{Less, Equal, Greater}
use Rattle.weighing.proofs.Lexicographic.{opposite}
use Rattle.weighing.proofs.Laws.{words_are_ordered}
use Rattle.entries.specs.Entries.{entry_at}
use Rattle.book_order.specs.Order.{file_of, is_less, before}
use Rattle.sorting.specs.Sorting.{goes_before}

pub true_not_false : {A : Type 0} → true ≡ false → A
true_not_false e = let z : ◌≡◌ {A = ℕ} 0 1 = cc in let n : ⊥ = omega arith in absurd n

less_is : (o : Ordering) → is_less o ≡ true → o ≡ Less
less_is Less e = refl
less_is Equal e = true_not_false (sym e)
less_is Greater e = true_not_false (sym e)

filed_transitive : (x y z : Filed) → is_less (order x y) ≡ true → is_less (order y z) ≡ true → is_less (order x z) ≡ true
filed_transitive x y z p q = ap is_less (words_are_ordered.transitive x y z (less_is (order x y) p) (less_is (order y z) q))

-- where neither goes before the next, the first does not go before the last
filed_level : (x y z : Filed) → is_less (order x y) ≡ false → is_less (order y z) ≡ false → is_less (order x z) ≡ false
filed_level x y z p q = go (order x z) refl (order x y) refl
  where
    go : (o : Ordering) → order x z ≡ o → (u : Ordering) → order x y ≡ u → is_less (order x z) ≡ false
    go Equal e u d = ap is_less e
    go Greater e u d = ap is_less e
    go Less e Less d = true_not_false (sym (ap is_less d) ∙ p)
    go Less e Equal d =
        true_not_false (sym (ap is_less (sym (ap (λ (w : Filed). order w z) (words_are_ordered.identical x y d)) ∙ e)) ∙ q)
    go Less e Greater d =
        true_not_false
        (sym (ap is_less (words_are_ordered.transitive y x z (words_are_ordered.turned x y ∙ ap opposite d) e)) ∙ q)

pub goes_transitive : (bytes : List ℕ) (x y z : ℕ) → goes_before bytes x y ≡ true → goes_before bytes y z ≡ true → goes_before bytes x z ≡ true
unfolding goes_before before
goes_transitive bytes x y z p q = filed_transitive (file_of (entry_at bytes x)) (file_of (entry_at bytes y)) (file_of (entry_at bytes z)) p q

pub goes_level : (bytes : List ℕ) (x y z : ℕ) → goes_before bytes x y ≡ false → goes_before bytes y z ≡ false → goes_before bytes x z ≡ false
unfolding goes_before before
goes_level bytes x y z p q = filed_level (file_of (entry_at bytes x)) (file_of (entry_at bytes y)) (file_of (entry_at bytes z)) p q

pub goes_asymmetric : (bytes : List ℕ) (x y : ℕ) → goes_before bytes x y ≡ true → goes_before bytes y x ≡ false
unfolding goes_before before
goes_asymmetric bytes x y p =
    let first : Filed = file_of (entry_at bytes x) in
    let second : Filed = file_of (entry_at bytes y) in
    ap is_less (words_are_ordered.turned first second ∙ ap opposite (less_is (order first second) p))
