-- A stored form with one more value in front of it, as the code makes it; `Stored.antt` says what the stored form of a word is.
-- Assumes nothing.
use Rattle.std.specs.Prelude.{◌≡◌, true, List, [], ◌∷◌, map, ℕ, ◌+◌, ◌≤◌, ◌<◌, length, drop}
use Rattle.letters.specs.Choice.{pick}
use Rattle.letters.specs.Counting.{up_from}
use Rattle.formula.specs.Limits.{limit}
use Rattle.storage.specs.Stored.{is_run_mark, rank, insert, makes_long_vowel, makes_letter}
use Rattle.storage.specs.declared.Front.{Front}

-- a value that is no mark
abbrev pub join_front : ℕ → List ℕ → List ℕ
join_front x [] = x ∷ []
join_front x (y ∷ values) = pick (makes_long_vowel x y) (0x1026 ∷ values) (pick (makes_letter x y) 0x1009 x ∷ y ∷ values)

-- any value: a mark is sorted into the first run
unfoldable pub put_front : ℕ → List ℕ → List ℕ
put_front x values = pick (is_run_mark x) (insert x values) (join_front x values)

-- the rank of the first value; 16 where there is none, as for what is no mark
abbrev pub first_rank : List ℕ → ℕ
first_rank [] = 16
first_rank (x ∷ values) = rank x

-- the ranks of the values 1000 to 103F, among which are all marks
abbrev pub rank_table : List ℕ
rank_table = map rank (up_from 0x1000 64)

-- the array has room for one more value before a place
pub record Room (values : List ℕ) (place : ℕ) : Type 0 where
  pub long : length values ≡ limit
  pub some : 0 < place
  pub within : place ≤ limit

-- and the first of the values from there on has this rank
pub record FrontRoom (ranks values : List ℕ) (front : Front) : Type 0 where
  pub table : ranks ≡ rank_table
  pub room : Room values front.place
  pub ranked : front.rank ≡ first_rank (drop front.place values)

-- the values from a place on with x put before them, and where they begin then: at that place or one before
pub record FrontPut (before after : List ℕ) (place x : ℕ) (front : Front) : Type 0 where
  pub long : length after ≡ limit
  pub put : drop front.place after ≡ put_front x (drop place before)
  pub ranked : front.rank ≡ first_rank (drop front.place after)
  pub no_later : front.place ≤ place
  pub no_earlier : place ≤ front.place + 1

-- a mark, and a place of the array
pub record MarkRoom (ranks values : List ℕ) (place mark : ℕ) : Type 0 where
  pub table : ranks ≡ rank_table
  pub long : length values ≡ limit
  pub within : place < limit
  pub is_mark : is_run_mark mark ≡ true

-- a part of the array
pub record PartRoom (values : List ℕ) (front end : ℕ) : Type 0 where
  pub long : length values ≡ limit
  pub rising : front ≤ end
  pub within : end ≤ limit
