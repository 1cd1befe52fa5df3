-- Document 01, "The word book": "Rank r gives start and stock number of the live record with exactly r live records before it in word order."
-- Assumes nothing.
use Rattle.std.specs.Prelude.{◌≡◌, ◌⊎◌, List, [], ◌∷◌, map, ℕ, T}
use Rattle.std.proofs.Math.Option.{Option, none, some}
use Rattle.std.proofs.Math.ListN.{get_elem?}
use Rattle.refusals.specs.Outcome.{Outcome, refuses}
use Rattle.entries.specs.Entries.{Entry, Entries, book, wrong, entries}
use Rattle.entries.specs.Map.{live_count}
use Rattle.entries.specs.Rank.{sorted, live_before}
use Rattle.entries.specs.Outcome.{finds}
use Rattle.book_keys.specs.Filing.{start_of}
use Rattle.book_order.specs.Order.{before}

-- the entry's "start and stock number"; 15 where there is none: "rank not below the live count", with the live count
abbrev pub rank_of_entry : Option Entry → ℕ → Outcome
rank_of_entry none live = refuses 15 live
rank_of_entry (some entry) live = finds entry.start entry.stock

abbrev pub rank_of : Entries → ℕ → Outcome
rank_of (book list free) number = rank_of_entry (get_elem? (sorted before list) number) (live_count list)
rank_of (wrong place) number = refuses 11 place

-- the starts of the live records, in word order
abbrev pub starts_in_order : List Entry → List ℕ
starts_in_order list = map start_of (sorted before list)

-- the entry is one of the list
abbrev pub Among : Entry → List Entry → Type 0
Among entry [] = ⊥
Among entry (first ∷ rest) = (entry ≡ first) ⊎ Among entry rest

-- rank r gives a live entry of the list with exactly r live entries before it; the laws cite it
pub record HasRank (bytes : List ℕ) (list : List Entry) (r : ℕ) : Type 0 where
  pub entry : Entry
  pub found : rank_of (entries bytes) r ≡ finds entry.start entry.stock
  pub among : Among entry list
  pub live : T entry.live
  pub exact : live_before before list entry ≡ r
