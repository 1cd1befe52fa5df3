-- Document 01, "The word book": "Rank r gives start and stock number of the live record with exactly r live records before it in word order."
-- The live entries in order, over any test that tells which of two stands before the other. Assumes nothing.
use Rattle.std.specs.Prelude.{Bool, List, [], ◌∷◌, ℕ, T}
use Rattle.letters.specs.Choice.{pick}
use Rattle.entries.specs.Entries.{Entry}
use Rattle.entries.specs.Map.{counted}

module _ {A : Type 0} (before : A → A → Bool) where
  -- one among others that are in order, behind those that it does not stand before
  unfoldable pub insert : A → List A → List A
  insert one [] = one ∷ []
  insert one (first ∷ rest) = pick (before one first) (one ∷ first ∷ rest) (first ∷ insert one rest)

module _ (before : Entry → Entry → Bool) where
  -- the live entries of a list, put among those that are in order already
  unfoldable pub sorted_onto : List Entry → List Entry → List Entry
  sorted_onto done [] = done
  sorted_onto done (entry ∷ entries) = sorted_onto (pick entry.live (insert before entry done) done) entries

  -- the live entries in order
  abbrev pub sorted : List Entry → List Entry
  sorted entries = sorted_onto [] entries

  -- how many live entries of a list stand before an entry
  unfoldable pub live_before : List Entry → Entry → ℕ
  live_before [] entry = 0
  live_before (first ∷ rest) entry = pick first.live (counted (before first entry) (live_before rest entry)) (live_before rest entry)

  -- an entry stands before each of these
  abbrev pub AllBehind : Entry → List Entry → Type 0
  AllBehind entry [] = Unit {0}
  AllBehind entry (first ∷ rest) = T (before entry first) × AllBehind entry rest

  -- each stands before all that follow
  abbrev pub Rising : List Entry → Type 0
  Rising [] = Unit {0}
  Rising (first ∷ rest) = AllBehind first rest × Rising rest
