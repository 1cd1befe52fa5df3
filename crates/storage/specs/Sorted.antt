-- Document 01, "Storage order", rule 1: what sorting the runs of a word comes to, whichever way it is done.
-- Assumes nothing.
use Rattle.std.specs.Prelude.{◌≡◌, Bool, true, not, ◌&&◌, List, [], ◌∷◌, ◌++◌, ℕ, T, eqb, leb}
use Rattle.letters.specs.Counting.{count}
use Rattle.formula.specs.Lists.{every}
use Rattle.storage.specs.Stored.{is_run_mark, rank}

-- no value of these comes before x in the storage order, by the first of them
abbrev pub rises_to : ℕ → List ℕ → Bool
rises_to x [] = true
rises_to x (y ∷ values) = leb (rank x) (rank y)

-- the ranks rise, or stay, from each value to the next
abbrev pub is_rising : List ℕ → Bool
is_rising [] = true
is_rising (x ∷ values) = rises_to x values && is_rising values

-- a run of marks, sorted: the same marks, each as often, and their ranks rise
pub record SortedRun (run sorted : List ℕ) : Type 0 where
  pub marks : T (every is_run_mark run)
  pub same_marks : (x : ℕ) → count (eqb x) sorted ≡ count (eqb x) run
  pub rising : T (is_rising sorted)

-- "Each unbroken run [..] is sorted": a word is runs, of any length or empty, with one value that is no mark between any two.
-- Each run is sorted, and the values between them stand where they stood.
pub data SortedRuns : List ℕ → List ℕ → Type 0 where
  last_run : {run sorted : List ℕ} → SortedRun run sorted → SortedRuns run sorted
  run_before : {run sorted word outcome : List ℕ} (x : ℕ) → SortedRun run sorted → T (not (is_run_mark x)) → SortedRuns word outcome
      → SortedRuns (run ++ (x ∷ word)) (sorted ++ (x ∷ outcome))
