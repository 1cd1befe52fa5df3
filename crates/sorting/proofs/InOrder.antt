-- The starts of the live entries that pass a test, sorted, are those of the sorted entries that pass it.
-- Assumes nothing.
use mathlib.Core.Path.{◌≡◌, refl, sym, ap, subst, ◌∙◌}
use mathlib.Core.Bool.{Bool, true, false}
use mathlib.Core.List.{List, [], ◌∷◌, map}
use Prim.Native.Nat.{ℕ, ◌≤◌}
use native.Mathlib.Omega.{arith}
use lib.ListN.{length, get_or, drop, length-map}
use Rattle.letters.specs.Choice.{pick}
use Rattle.letters.proofs.Tests.{is_true}
use Rattle.formula.specs.Lists.{filtered}
use Rattle.formula.proofs.Lists.{All}
use Rattle.formula.proofs.Filtered.{filtered_each, filtered_few, filtered_swap}
use Rattle.entries.specs.Entries.{Entry, entry_at}
use Rattle.entries.specs.Book.{IsBook}
use Rattle.entries.specs.Map.{live_count, live_ones}
use Rattle.entries.specs.Rank.{insert, sorted_onto, sorted}
use Rattle.entries.proofs.Ranked.{AllLive}
use Rattle.entries.proofs.Passing.{filtered_of_book}
use Rattle.entries.proofs.Live.{live_count_lem, live_all, sorted_live}
use Rattle.book_keys.specs.Filing.{start_of}
use Rattle.book_keys.proofs.Live.{entries_back}
use Rattle.book_order.specs.Order.{before}
use Rattle.book_order.proofs.Laws.{before_irreflexive, before_transitive, before_total}
use Rattle.sorting.specs.Sorting.{in_order_onto, in_order, goes_before}
use Rattle.sorting.proofs.Merges.{length_in_order}
use Rattle.sorting.specs.Passing.{starts_passing}

map_insert : (bytes : List ℕ) (s : ℕ) (l : List ℕ)
    → map (entry_at bytes) (insert (goes_before bytes) s l) ≡ insert before (entry_at bytes s) (map (entry_at bytes) l)
unfolding insert goes_before pick
map_insert bytes s [] = refl
map_insert bytes s (x ∷ l) = go (before (entry_at bytes s) (entry_at bytes x)) (map_insert bytes s l)
  where
    go : (t : Bool) → map (entry_at bytes) (insert (goes_before bytes) s l) ≡ insert before (entry_at bytes s) (map (entry_at bytes) l)
        → map (entry_at bytes) (pick t (s ∷ x ∷ l) (x ∷ insert (goes_before bytes) s l))
        ≡ pick t (entry_at bytes s ∷ entry_at bytes x ∷ map (entry_at bytes) l)
        (entry_at bytes x ∷ insert before (entry_at bytes s) (map (entry_at bytes) l))
    go true h = refl
    go false h = ap (λ (r : List Entry). entry_at bytes x ∷ r) h

map_onto : (bytes d l : List ℕ) → AllLive (map (entry_at bytes) l)
    → map (entry_at bytes) (in_order_onto (goes_before bytes) d l) ≡ sorted_onto before (map (entry_at bytes) d) (map (entry_at bytes) l)
unfolding in_order_onto sorted_onto pick
map_onto bytes d [] a = refl
map_onto bytes d (x ∷ l) a =
    let e : Entry = entry_at bytes x in
    let m : List Entry = map (entry_at bytes) d in
    map_onto bytes (insert (goes_before bytes) x d) l a.1
    ∙ ap (λ (r : List Entry). sorted_onto before r (map (entry_at bytes) l)) (map_insert bytes x d)
    ∙ ap (λ (t : Bool). sorted_onto before (pick t (insert before e m) m) (map (entry_at bytes) l)) (sym (is_true e.live a.0))

starts_back : (bytes l : List ℕ) → map start_of (map (entry_at bytes) l) ≡ l
starts_back bytes [] = refl
starts_back bytes (x ∷ l) = ap (λ (r : List ℕ). x ∷ r) (starts_back bytes l)

-- the entry is the one that is read at its start
abbrev Read : List ℕ → Entry → Type 0
Read bytes entry = entry_at bytes entry.start ≡ entry

each_read : (bytes : List ℕ) (l : List Entry) → map (entry_at bytes) (map start_of l) ≡ l → All (Read bytes) l
each_read bytes [] e = tt
each_read bytes (x ∷ l) e = (ap (λ (m : List Entry). get_or m 0 x) e, each_read bytes l (ap (drop 1) e))

read_each : (bytes : List ℕ) (l : List Entry) → All (Read bytes) l → map (entry_at bytes) (map start_of l) ≡ l
read_each bytes [] a = refl
read_each bytes (x ∷ l) a = λ i. a.0 i ∷ read_each bytes l a.1 i

live_passing : (test : Entry → Bool) (l : List Entry) → AllLive l → AllLive (filtered test l)
unfolding filtered pick
live_passing test [] a = tt
live_passing test (x ∷ l) a = go (test x) (live_passing test l a.1)
  where
    go : (t : Bool) → AllLive (filtered test l) → AllLive (pick t (x ∷ filtered test l) (filtered test l))
    go true h = (a.0, h)
    go false h = h

module _ (bytes : List ℕ) (list : List Entry) (k : IsBook bytes list) (test : Entry → Bool) where
  abbrev passing : List Entry
  passing = filtered test (live_ones list)

  passing_read : map (entry_at bytes) (map start_of passing) ≡ passing
  passing_read = read_each bytes passing (filtered_each test (Read bytes) (live_ones list) (each_read bytes (live_ones list) (entries_back bytes list k)))

  -- the entries that pass, sorted, are the sorted ones that pass
  sorted_passing : sorted before passing ≡ filtered test (sorted before list)
  sorted_passing =
      ap (sorted before) (filtered_swap test (λ (e : Entry). e.live) list) ∙ sorted_live before [] (filtered test list)
      ∙ sym (filtered_of_book before test before_irreflexive before_transitive before_total bytes list k)

  entries_passing : map (entry_at bytes) (in_order (goes_before bytes) (map start_of passing)) ≡ filtered test (sorted before list)
  entries_passing =
      map_onto bytes [] (map start_of passing) (subst AllLive (sym passing_read) (live_passing test (live_ones list) (live_all list)))
      ∙ ap (sorted_onto before []) passing_read ∙ sorted_passing

  pub passing_in_order : in_order (goes_before bytes) (map start_of passing) ≡ starts_passing test list
  passing_in_order = sym (starts_back bytes (in_order (goes_before bytes) (map start_of passing))) ∙ ap (map start_of) entries_passing

  -- each of them is read at its start
  pub passing_there : map (entry_at bytes) (starts_passing test list) ≡ filtered test (sorted before list)
  passing_there = ap (map (entry_at bytes)) (sym passing_in_order) ∙ entries_passing

  -- and so many are there
  pub passing_count : length (starts_passing test list) ≡ length (map start_of passing)
  passing_count = ap length (sym passing_in_order) ∙ length_in_order (goes_before bytes) (map start_of passing)

  -- no more than are live
  pub passing_few : length (starts_passing test list) ≤ live_count list
  passing_few =
      omega (
        arith,
        passing_count,
        length-map passing start_of,
        filtered_few test (live_ones list),
        live_count_lem list,
      )
