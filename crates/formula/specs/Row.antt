-- Document 01, "The syllable": rows of syllables, the list of values that a row gives, and what can be continued to one.
-- A description: no reader stands here. Assumes nothing.
use Rattle.std.specs.Prelude.{◌≡◌, Bool, ◌&&◌, List, [], ◌∷◌, ◌++◌, ℕ, ◌≤◌, ◌<◌, T, length, take}
use Rattle.formula.specs.Syllable.{Final, no_final, Syllable, head_of, final_of, is_closed, is_syllable, follows, part}

-- a list of syllables, "of any length or empty"
abbrev pub Row : Type 0
Row = List Syllable

-- the list is a row of syllables that pass the test, where a syllable with the final f stands before it
module _ (is_one : Syllable → Bool) where
  abbrev pub is_row_of : Final → Row → Bool
  is_row_of f [] = is_closed f
  is_row_of f (s ∷ row) = follows f (head_of s) && (is_one s && is_row_of (final_of s) row)

abbrev pub is_row_after : Final → Row → Bool
is_row_after = is_row_of is_syllable

-- Document 01: "A row of syllables is a list of syllables under these rules".
abbrev pub IsRow : Row → Type 0
IsRow row = T (is_row_after no_final row)

-- the parts of a row after a syllable with the final f
abbrev pub parts_after : Final → Row → List (List ℕ)
parts_after f [] = []
parts_after f (s ∷ row) = part f s ∷ parts_after (final_of s) row

abbrev pub parts : Row → List (List ℕ)
parts row = parts_after no_final row

abbrev pub join_after : Final → Row → List ℕ
join_after f [] = []
join_after f (s ∷ row) = part f s ++ join_after (final_of s) row

-- "Joined in order, with a 103F that is final and head written once"
abbrev pub join : Row → List ℕ
join row = join_after no_final row

-- "a list is a row of syllables when some row gives it"
pub record Gives (row : Row) (word : List ℕ) : Type 0 where
  pub is_row : IsRow row
  pub joined : join row ≡ word

-- "some continuation makes the whole word into" a row of syllables; "A continuation is any list of values", of whatever length
pub record Viable (word : List ℕ) : Type 0 where
  pub continuation : List ℕ
  pub by : Row
  pub gives : Gives by (word ++ continuation)

-- "length of the longest beginning that some continuation makes into one"
pub record LongestViable (word : List ℕ) (place : ℕ) : Type 0 where
  pub within : place ≤ length word
  pub viable : Viable (take place word)
  pub longest : (longer : ℕ) → place < longer → longer ≤ length word → Viable (take longer word) → ⊥
