-- Starts in the order of their records, by insertion, and the merging of two lists of starts. Inner contracts cite it; `proofs/Merges.antt`
-- shows that merging two parts in order gives the whole in order. Assumes nothing.
use Rattle.std.specs.Prelude.{◌≡◌, Bool, true, false, List, [], ◌∷◌, ◌++◌, ℕ, ◌≤◌, ◌<◌, ◌&&◌, length, take, drop}
use Rattle.std.proofs.Math.Seq.{slice}
use Rattle.letters.specs.Choice.{pick}
use Rattle.formula.proofs.Lists.{All}
use Rattle.entries.specs.Limits.{book_limit}
use Rattle.entries.specs.Entries.{entry_at}
use Rattle.entries.specs.Rank.{insert}
use Rattle.book_keys.specs.Filing.{AllKeyed}
use Rattle.book_order.specs.Order.{before}

module _ (less : ℕ → ℕ → Bool) where
  -- starts put one after the other among those that are in order already
  unfoldable pub in_order_onto : List ℕ → List ℕ → List ℕ
  in_order_onto done [] = done
  in_order_onto done (start ∷ starts) = in_order_onto (insert less start done) starts

  abbrev pub in_order : List ℕ → List ℕ
  in_order starts = in_order_onto [] starts

  -- two lists into one: the first of the second list is taken where it goes before the first of the first list
  unfoldable pub merged : List ℕ → List ℕ → List ℕ
  merged [] ys = ys
  merged (x ∷ xs) [] = x ∷ xs
  merged (x ∷ xs) (y ∷ ys) = pick (less y x) (y ∷ merged (x ∷ xs) ys) (x ∷ merged xs (y ∷ ys))

  -- whether merging takes the first of the second list
  abbrev pub takes_second : List ℕ → List ℕ → Bool
  takes_second [] ys = true
  takes_second (x ∷ xs) [] = false
  takes_second (x ∷ xs) (y ∷ ys) = less y x

  -- none goes before one that stands before it
  abbrev pub Rises : List ℕ → Type 0
  Rises [] = Unit {0}
  Rises (x ∷ xs) = All (λ (z : ℕ). less z x ≡ false) xs × Rises xs

  -- each goes before the one that it follows
  abbrev pub falls_behind : ℕ → List ℕ → Bool
  falls_behind x [] = true
  falls_behind x (y ∷ ys) = less y x && falls_behind y ys

  abbrev pub falls : List ℕ → Bool
  falls [] = true
  falls (x ∷ xs) = falls_behind x xs

-- the record at one start goes before the record at another
unfoldable pub goes_before : List ℕ → ℕ → ℕ → Bool
goes_before bytes first second = before (entry_at bytes first) (entry_at bytes second)

-- whether merging takes the next of the second part, from two places on
abbrev pub takes_next : List ℕ → List ℕ → ℕ → ℕ → ℕ → Bool
takes_next bytes starts first middle second = takes_second (goes_before bytes) (slice first middle starts) (drop second starts)

-- the two parts of a list of starts, merged
abbrev pub parts_merged : List ℕ → List ℕ → ℕ → List ℕ
parts_merged bytes starts middle = merged (goes_before bytes) (take middle starts) (drop middle starts)

-- a list that begins with them, as many as there are starts
abbrev pub merged_front : List ℕ → List ℕ → ℕ → List ℕ → List ℕ
merged_front bytes starts middle room = parts_merged bytes starts middle ++ drop (length starts) room

-- starts of records whose keys are filed
pub record Sortable (bytes keys starts : List ℕ) : Type 0 where
  pub short : length bytes ≤ book_limit
  pub keyed : AllKeyed bytes keys starts

-- such starts, in two parts
pub record Mergeable (bytes keys starts : List ℕ) (middle : ℕ) : Type 0 where
  pub sortable : Sortable bytes keys starts
  pub parted : middle ≤ length starts

-- and places in both
pub record MergeReady (bytes keys starts : List ℕ) (first middle second : ℕ) : Type 0 where
  pub mergeable : Mergeable bytes keys starts middle
  pub in_first : first ≤ middle
  pub in_second : middle ≤ second
  pub within : second ≤ length starts

-- such starts in two parts, neither without a start, of which the first is in order
pub record Joinable (bytes keys starts : List ℕ) (middle : ℕ) : Type 0 where
  pub mergeable : Mergeable bytes keys starts middle
  pub first_there : 0 < middle
  pub second_there : middle < length starts
  pub rises : Rises (goes_before bytes) (take middle starts)
