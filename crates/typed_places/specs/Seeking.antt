-- Sorted places in an array, as the code goes through them. Contracts of inner functions cite it; `Typed.antt` says where a value was typed.
-- Assumes nothing.
use Rattle.std.specs.Prelude.{◌≡◌, List, ℕ, ◌+◌, ◌≤◌, ◌<◌, length, get_or}
use Rattle.letters.specs.Choice.{pick}
use Rattle.formula.specs.Limits.{limit}
use Rattle.storage.specs.Stored.{makes_long_vowel}
use Rattle.storage.specs.Putting.{rank_table}
use Rattle.typed_places.specs.Typed.{typed_at}

-- a place of the array, and the ranks
pub record PlaceRoom (ranks places : List ℕ) (at : ℕ) : Type 0 where
  pub table : ranks ≡ rank_table
  pub long : length places ≡ limit
  pub within : at < limit

-- a word that the array has room for
pub record Filled (word places : List ℕ) : Type 0 where
  pub short : length word ≤ limit
  pub long : length places ≡ limit

-- and a place of the array
pub record SortedRoom (word places : List ℕ) (at : ℕ) : Type 0 where
  pub filled : Filled word places
  pub within : at < limit

-- behind a place among the sorted ones, the next whose value stays
abbrev pub next_kept : List ℕ → List ℕ → ℕ → ℕ
next_kept word places at =
    pick (makes_long_vowel (typed_at word (get_or places at limit)) (typed_at word (get_or places (at + 1) limit))) (at + 2) (at + 1)
