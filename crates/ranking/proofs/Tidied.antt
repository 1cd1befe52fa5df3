-- Rank and order after tidying: "every rank shows the same word", at the start that its record then has. Assumes nothing.
use mathlib.Core.Path.{◌≡◌, refl, ap, ◌∙◌}
use mathlib.Core.List.{List, [], ◌∷◌, map}
use mathlib.Core.Option.{Option, none, some}
use Prim.Native.Nat.{ℕ, zero, suc}
use lib.ListN.{get_elem?}
use Rattle.entries.specs.Entries.{Entry, Entries, entries}
use Rattle.entries.specs.Book.{GoodAfter}
use Rattle.entries.specs.Map.{live_count}
use Rattle.entries.specs.Rank.{sorted}
use Rattle.entries.specs.Tidy.{bytes_tidied, tidied, start_tidied, start_after}
use Rattle.entries.specs.Outcome.{start_moved}
use Rattle.entries.proofs.Bytes.{Bytes}
use Rattle.entries.proofs.Tidied.{on_tidied}
use Rattle.entries.proofs.Moved.{moved, placed_one, count_tidied}
use Rattle.book_keys.specs.Filing.{start_of}
use Rattle.book_order.specs.Order.{before}
use Rattle.sorting.proofs.Tidied.{order_tidied, starts_moved_lem}
use Rattle.ranking.specs.Rank.{rank_of_entry, rank_of, starts_in_order}

element_moved : (list es : List Entry) (r : ℕ) → get_elem? (map (moved list) es) r ≡ placed_one (λ entry. start_tidied list entry.start) (get_elem? es r)
element_moved list [] r = refl
element_moved list (x ∷ es) zero = refl
element_moved list (x ∷ es) (suc r) = element_moved list es r

pub rank_tidied : (b : List ℕ) → Bytes b → (r : ℕ) → rank_of (entries (bytes_tidied b)) r ≡ start_moved (start_after (entries b)) (rank_of (entries b) r)
rank_tidied b small r =
    on_tidied b small (λ (x y : Entries). rank_of y r ≡ start_moved (start_after x) (rank_of x r))
    (λ list free k.
    (λ i. rank_of_entry (get_elem? (order_tidied list k.good i) r) (count_tidied list k.good i))
    ∙ ap (λ (o : Option Entry). rank_of_entry o (live_count list)) (element_moved list (sorted before list) r)
    ∙ ranked list (get_elem? (sorted before list) r))
    (λ place. refl)
  where
    ranked : (list : List Entry) (o : Option Entry)
        → rank_of_entry (placed_one (λ entry. start_tidied list entry.start) o) (live_count list) ≡ start_moved (start_tidied list) (rank_of_entry o (live_count list))
    ranked list none = refl
    ranked list (some entry) = refl

pub starts_in_order_tidied : (list : List Entry) → GoodAfter 0 [] list → starts_in_order (tidied list) ≡ map (start_tidied list) (starts_in_order list)
starts_in_order_tidied list g = ap (map start_of) (order_tidied list g) ∙ starts_moved_lem list g (sorted before list)
