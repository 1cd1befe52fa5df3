-- What a book answers after tidying: as before, at the start that the record then has. A buffer that is no book is refused as before.
-- Assumes nothing.
use mathlib.Core.Path.{◌≡◌, refl, ap, ◌∙◌}
use mathlib.Core.List.{List}
use mathlib.Core.Option.{Option, none, some}
use Prim.Native.Nat.{ℕ}
use Rattle.refusals.specs.Outcome.{accepts}
use Rattle.entries.specs.Entries.{Entry, Entries, entries}
use Rattle.entries.specs.Map.{lookup}
use Rattle.entries.specs.Tidy.{bytes_tidied, start_tidied, start_after}
use Rattle.entries.proofs.Bytes.{Bytes}
use Rattle.entries.proofs.Tidied.{on_tidied}
use Rattle.entries.proofs.Moved.{placed_one, lookup_tidied, count_tidied}
use Rattle.entries.specs.Outcome.{start_moved, check_of, find_of_entry, find_of, remove_of_entry, remove_of}

module _ (b : List ℕ) (small : Bytes b) where
  pub check_tidied : check_of (entries (bytes_tidied b)) ≡ check_of (entries b)
  check_tidied =
      on_tidied b small (λ (x y : Entries). check_of y ≡ check_of x)
      (λ list free k. ap accepts (count_tidied list k.good))
      (λ place. refl)

  pub find_tidied : (w : List ℕ) → find_of (entries (bytes_tidied b)) w ≡ start_moved (start_after (entries b)) (find_of (entries b) w)
  find_tidied w =
      on_tidied b small (λ (x y : Entries). find_of y w ≡ start_moved (start_after x) (find_of x w))
      (λ list free k. ap find_of_entry (lookup_tidied list k.good w) ∙ found list (lookup list w))
      (λ place. refl)
    where
      found : (list : List Entry) (o : Option Entry)
          → find_of_entry (placed_one (λ entry. start_tidied list entry.start) o) ≡ start_moved (start_tidied list) (find_of_entry o)
      found list none = refl
      found list (some entry) = refl

  pub remove_tidied : (w : List ℕ) → remove_of (entries (bytes_tidied b)) w ≡ start_moved (start_after (entries b)) (remove_of (entries b) w)
  remove_tidied w =
      on_tidied b small (λ (x y : Entries). remove_of y w ≡ start_moved (start_after x) (remove_of x w))
      (λ list free k. ap remove_of_entry (lookup_tidied list k.good w) ∙ found list (lookup list w))
      (λ place. refl)
    where
      found : (list : List Entry) (o : Option Entry)
          → remove_of_entry (placed_one (λ entry. start_tidied list entry.start) o) ≡ start_moved (start_tidied list) (remove_of_entry o)
      found list none = refl
      found list (some entry) = refl
