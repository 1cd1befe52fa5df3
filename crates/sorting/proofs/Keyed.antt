-- Starts whose keys are filed: so are those of each part, of both parts together, and of the same starts in order.
-- Assumes nothing.
use mathlib.Core.Bool.{Bool, true, false}
use mathlib.Core.List.{List, [], ◌∷◌, ◌++◌}
use Prim.Native.Nat.{ℕ, zero, suc}
use lib.ListN.{take, drop}
use Rattle.letters.specs.Choice.{pick}
use Rattle.entries.specs.Rank.{insert}
use Rattle.book_keys.specs.Filing.{HasKey, AllKeyed}
use Rattle.sorting.specs.Sorting.{in_order_onto, in_order, Sortable}

module _ (bytes keys : List ℕ) where
  pub keyed_take : (n : ℕ) (l : List ℕ) → AllKeyed bytes keys l → AllKeyed bytes keys (take n l)
  keyed_take zero l a = tt
  keyed_take (suc n) [] a = tt
  keyed_take (suc n) (x ∷ l) a = (a.0, keyed_take n l a.1)

  pub keyed_drop : (n : ℕ) (l : List ℕ) → AllKeyed bytes keys l → AllKeyed bytes keys (drop n l)
  keyed_drop zero l a = a
  keyed_drop (suc n) [] a = tt
  keyed_drop (suc n) (x ∷ l) a = keyed_drop n l a.1

  pub keyed_append : (l m : List ℕ) → AllKeyed bytes keys l → AllKeyed bytes keys m → AllKeyed bytes keys (l ++ m)
  keyed_append [] m a b = b
  keyed_append (x ∷ l) m a b = (a.0, keyed_append l m a.1 b)

  module _ (less : ℕ → ℕ → Bool) where
    keyed_insert : (e : ℕ) (l : List ℕ) → HasKey bytes keys e → AllKeyed bytes keys l → AllKeyed bytes keys (insert less e l)
    unfolding insert pick
    keyed_insert e [] k a = (k, tt)
    keyed_insert e (x ∷ l) k a = go (less e x) (keyed_insert e l k a.1)
      where
        go : (t : Bool) → AllKeyed bytes keys (insert less e l) → AllKeyed bytes keys (pick t (e ∷ x ∷ l) (x ∷ insert less e l))
        go true h = (k, a)
        go false h = (a.0, h)

    keyed_onto : (d l : List ℕ) → AllKeyed bytes keys d → AllKeyed bytes keys l → AllKeyed bytes keys (in_order_onto less d l)
    unfolding in_order_onto
    keyed_onto d [] a b = a
    keyed_onto d (x ∷ l) a b = keyed_onto (insert less x d) l (keyed_insert x d b.0 a) b.1

    pub keyed_in_order : (l : List ℕ) → AllKeyed bytes keys l → AllKeyed bytes keys (in_order less l)
    keyed_in_order l a = keyed_onto [] l tt a

    -- both parts in order, one behind the other
    pub keyed_halves : (n : ℕ) (l : List ℕ) → AllKeyed bytes keys l → AllKeyed bytes keys (in_order less (take n l) ++ in_order less (drop n l))
    keyed_halves n l a =
        keyed_append (in_order less (take n l)) (in_order less (drop n l)) (keyed_in_order (take n l) (keyed_take n l a))
        (keyed_in_order (drop n l) (keyed_drop n l a))

-- other starts whose keys are filed in the same place
pub part_sortable : {bytes keys l m : List ℕ} → Sortable bytes keys l → AllKeyed bytes keys m → Sortable bytes keys m
part_sortable s a = record { short = s.short; keyed = a }
