-- The starts in order are those of the live entries in order: each start is that of the entry which is read there.
-- Assumes nothing.
use mathlib.Core.Path.{◌≡◌, refl, sym, ap, ◌∙◌}
use mathlib.Core.List.{List, [], ◌∷◌, map}
use mathlib.Core.Option.{none, some}
use Prim.Native.Nat.{ℕ, zero, suc, ◌≤◌, ◌<◌}
use native.Mathlib.Nat.{not-suc-le-zero, le_of_suc-le-suc}
use native.Mathlib.Omega.{arith}
use lib.ListN.{length, get_or, take, get_elem?, length-map, get_or-map}
use lib.Seq.{get_or-take, length-take-le}
use Rattle.formula.specs.Lists.{filtered}
use Rattle.formula.proofs.Filtered.{filtered_all}
use Rattle.formula.proofs.Lists.{no_element}
use Rattle.entries.specs.Entries.{Entry, entry_at}
use Rattle.entries.specs.Book.{IsBook}
use Rattle.entries.specs.Map.{live_count, live_ones}
use Rattle.entries.specs.Rank.{sorted}
use Rattle.entries.proofs.Live.{live_count_lem}
use Rattle.book_keys.specs.Filing.{start_of}
use Rattle.book_order.specs.Order.{before}
use Rattle.book_fitting.specs.Fitting.{fits_key}
use Rattle.sorting.specs.Passing.{starts_passing}
use Rattle.sorting.proofs.InOrder.{passing_there, passing_count}
use Rattle.ranking.specs.Rank.{starts_in_order}

-- every entry begins with no weights, so all are sorted
pub all_begin : (l : List Entry) → filtered (fits_key []) l ≡ l
all_begin l = filtered_all (fits_key []) (λ e. refl) l

-- and their starts are those of all
pub all_in_order : (list : List Entry) → starts_passing (fits_key []) list ≡ starts_in_order list
all_in_order list = ap (map start_of) (all_begin (sorted before list))

module _ (bytes : List ℕ) (list : List Entry) (k : IsBook bytes list) where
  -- each entry in order is the one that is read at its start
  pub sorted_read : map (entry_at bytes) (starts_in_order list) ≡ sorted before list
  sorted_read = ap (map (entry_at bytes)) (sym (all_in_order list)) ∙ passing_there bytes list k (fits_key []) ∙ all_begin (sorted before list)

  pub read_there : (r : ℕ) → entry_at bytes (start_of (get_or (sorted before list) r (entry_at bytes 0))) ≡ get_or (sorted before list) r (entry_at bytes 0)
  read_there r =
      ap (entry_at bytes) (sym (get_or-map start_of (sorted before list) r (entry_at bytes 0)))
      ∙ sym (get_or-map (entry_at bytes) (starts_in_order list) r 0)
      ∙ ap (λ (l : List Entry). get_or l r (entry_at bytes 0)) sorted_read

  -- as many are in order as are live
  pub starts_count : length (starts_in_order list) ≡ live_count list
  starts_count =
      ap length (sym (all_in_order list)) ∙ passing_count bytes list k (fits_key []) ∙ length-map (filtered (fits_key []) (live_ones list)) start_of
      ∙ ap length (all_begin (live_ones list)) ∙ live_count_lem list

  pub sorted_length : length (sorted before list) ≡ live_count list
  sorted_length = sym (length-map (sorted before list) start_of) ∙ starts_count

at_map : (f : ℕ → Entry) (l : List ℕ) (n : ℕ) → n < length l → get_elem? (map f l) n ≡ some (f (get_or l n 0))
at_map f [] n h = absurd (not-suc-le-zero h)
at_map f (x ∷ l) zero h = refl
at_map f (x ∷ l) (suc n) h = at_map f l n (le_of_suc-le-suc h)

module _ (bytes : List ℕ) (list : List Entry) (k : IsBook bytes list) (number : ℕ) where
  -- the entry at a number below the live count is read at the start there
  pub entry_there : (starts : List ℕ) (count : ℕ) → count ≡ live_count list → count ≤ length starts
      → take count starts ≡ starts_in_order list → number < live_count list
      → get_elem? (sorted before list) number ≡ some (entry_at bytes (get_or starts number 0))
  entry_there starts count c fits e h =
      let long : length (take count starts) ≡ count = length-take-le count starts fits in
      ap (λ (l : List Entry). get_elem? l number) (sym (sorted_read bytes list k) ∙ ap (map (entry_at bytes)) (sym e))
      ∙ at_map (entry_at bytes) (take count starts) number (omega (arith, long))
      ∙ ap (λ (s : ℕ). some (entry_at bytes s)) (get_or-take count starts number 0 (omega arith))

  pub none_there : live_count list ≤ number → get_elem? (sorted before list) number ≡ none
  none_there h = no_element (sorted before list) number (omega (arith, sorted_length bytes list k))
