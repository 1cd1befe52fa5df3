-- Records stand in word order: before is irreflexive and transitive, and of two different words one stands before the other.
-- Assumes nothing.
use mathlib.Core.Path.{◌≡◌, refl, sym, ap, subst, ◌∙◌}
use mathlib.Core.Logic.{◌⊎◌, inl, inr}
use lib.Dec.{T}
use Rattle.weighing.specs.Order.{Filed, order}
use Rattle.std.specs.declared.cmp.Ordering.{Ordering}
use Rattle.std.specs.declared.cmp.Ordering.TheVariants.{Less, Equal, Greater}
use Rattle.weighing.proofs.Lexicographic.{opposite}
use Rattle.weighing.proofs.Laws.{words_are_ordered}
use Rattle.entries.specs.Entries.{Entry}
use Rattle.book_order.specs.Order.{file_of, is_less, before}

less_is : (o : Ordering) → T (is_less o) → o ≡ Less
less_is Less t = refl
less_is Equal t = absurd t
less_is Greater t = absurd t

is_less_lem : (o : Ordering) → o ≡ Less → T (is_less o)
is_less_lem o e = subst (λ (p : Ordering). T (is_less p)) (sym e) tt

pub before_irreflexive : (x : Entry) → T (before x x) → ⊥
unfolding before
before_irreflexive x t = subst (λ (o : Ordering). T (is_less o)) (words_are_ordered.alike (file_of x)) t

pub before_transitive : (x y z : Entry) → T (before x y) → T (before y z) → T (before x z)
unfolding before
before_transitive x y z s t =
    is_less_lem (order (file_of x) (file_of z))
    (words_are_ordered.transitive (file_of x) (file_of y) (file_of z) (less_is (order (file_of x) (file_of y)) s)
    (less_is (order (file_of y) (file_of z)) t))

-- two entries with different words
pub before_total : (x y : Entry) → (x.word ≡ y.word → ⊥) → T (before x y) ⊎ T (before y x)
unfolding before
before_total x y n = go (order (file_of x) (file_of y)) refl
  where
    go : (o : Ordering) → order (file_of x) (file_of y) ≡ o → T (is_less (order (file_of x) (file_of y))) ⊎ T (is_less (order (file_of y) (file_of x)))
    go Less e = inl (is_less_lem (order (file_of x) (file_of y)) e)
    go Equal e = absurd (n (ap (λ (f : Filed). f.values) (words_are_ordered.identical (file_of x) (file_of y) e)))
    go Greater e = inr (is_less_lem (order (file_of y) (file_of x)) (words_are_ordered.turned (file_of x) (file_of y) ∙ ap opposite e))
