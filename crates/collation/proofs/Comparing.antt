-- A comparison is right: the bytes of the keys decide where they differ, and the values of the stored forms where they do not.
-- Assumes nothing.
use mathlib.Core.Path.{◌≡◌, refl, ap, sym, subst, ◌∙◌}
use mathlib.Core.List.{List}
use Prim.Native.Nat.{ℕ}
use lib.ListN.{take}
use Rattle.std.specs.Ordering.{MatchOrdering, nat_cmp}
use Rattle.std.specs.Cmp.Lexicographic.{slice_cmp}
use Rattle.std.specs.declared.cmp.Ordering.{Ordering}
use Rattle.std.specs.declared.cmp.Ordering.TheVariants.{Less, Equal, Greater}
use Rattle.storage.specs.Stored.{stored_form}
use Rattle.weighing.specs.Keys.{used_bytes}
use Rattle.weighing.specs.Order.{in_turn, order_values}
use Rattle.weighing.proofs.Library.{lists_compared}
use Rattle.collation.specs.Comparison.{order_number, Ordered, Compares}
use Rattle.collation.specs.Keyed.{HasKey}
use Rattle.collation.specs.declared.key.Key.{Key}
use Rattle.collation.proofs.Laws.{by_keys, keys_compare}

-- two words in an order, told of them
pub order_told : (first second : List ℕ) (is : Ordering) → Ordered first second is → Compares first second (order_number is)
order_told first second is o = record { is = is; ordered = o; numbered = refl }

-- the first of two comparisons, and the second where that finds no difference
turned : (o p told : Ordering) → MatchOrdering o (told ≡ Less) (told ≡ p) (told ≡ Greater) → in_turn o p ≡ told
turned Less p told e = sym e
turned Equal p told e = sym e
turned Greater p told e = sym e

pub keys_told : (first second : List ℕ) (one other : Key) → HasKey first one → HasKey second other
    → (o : Ordering) → o ≡ slice_cmp nat_cmp (take (used_bytes one.count) one.bytes) (take (used_bytes other.count) other.bytes)
    → (told : Ordering) → MatchOrdering o (told ≡ Less) (told ≡ order_values (stored_form first) (stored_form second)) (told ≡ Greater)
    → Compares first second (order_number told)
keys_told first second one other right other_right o e told m =
    let forms = order_values (stored_form first) (stored_form second) in
    let keys : o ≡ by_keys first one right second other other_right = e ∙ lists_compared _ _ in
    order_told first second told
    (subst (Ordered first second) (ap (λ (p : Ordering). in_turn p forms) (sym keys) ∙ turned o forms told m)
    (keys_compare first one right second other other_right))
