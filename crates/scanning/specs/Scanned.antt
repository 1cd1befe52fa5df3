-- What a pass over a word finds: the machine's row, as the window and the arrays of the code show it.
-- Inner contracts cite it; no public promise does. Assumes nothing.
use Rattle.std.specs.Prelude.{◌≡◌, List, [], ◌∷◌, ◌++◌, ℕ, ◌+◌, ◌-◌, ◌≤◌, T, length, replicate}
use Rattle.formula.specs.Limits.{limit}
use Rattle.formula.specs.Syllable.{is_no_final}
use Rattle.formula.specs.Row.{Row}
use Rattle.formula.specs.Packed.{packed}
use Rattle.formula.specs.declared.Window.{Window}
use Rattle.rows.specs.Machine.{end_of, kept_join}
use Rattle.syllables.specs.Window.{WindowOf, below_last}
use Rattle.recogniser.specs.Walked.{Walked, WalkStopped}
use Rattle.scanning.specs.declared.Scan.{Scan}

-- what is kept, in the word's order: the syllables packed, and the places where they begin
abbrev pub kept_packed : Row → List ℕ
kept_packed [] = []
kept_packed (s ∷ kept) = kept_packed kept ++ (packed s ∷ [])

abbrev pub kept_starts : Row → List ℕ
kept_starts [] = []
kept_starts (s ∷ kept) = kept_starts kept ++ (length (kept_join kept) ∷ [])

-- the array has the syllables below the last, then one place that is 0 while the last has no final, then zeros
pub record SyllablesOf (kept : Row) (syllables : List ℕ) : Type 0 where
  pub place : ℕ
  pub rest : ℕ
  pub is : syllables ≡ kept_packed (below_last kept) ++ (place ∷ replicate rest 0)
  pub size : length (below_last kept) + (1 + rest) ≡ limit
  pub fresh : T (is_no_final (end_of kept)) → place ≡ 0

-- the array has where each syllable begins
pub record StartsOf (kept : Row) (starts : List ℕ) : Type 0 where
  pub rest : List ℕ
  pub is : starts ≡ kept_starts kept ++ rest
  pub size : length kept + length rest ≡ limit

pub record ArraysOf (kept : Row) (syllables starts : List ℕ) : Type 0 where
  pub syllables_of : SyllablesOf kept syllables
  pub starts_of : StartsOf kept starts

-- the state after the first `at` values of the word
pub record Reached (word : List ℕ) (at state : ℕ) (window : Window) (syllables starts : List ℕ) : Type 0 where
  pub walked : Walked word at state window.count
  pub window_of : WindowOf walked.kept window
  pub arrays_of : ArraysOf walked.kept syllables starts

-- where it has stopped: where each syllable begins, and at the end of the word every syllable
pub record Scanned (word : List ℕ) (scan : Scan) : Type 0 where
  pub stopped : WalkStopped word scan.at scan.state scan.count
  pub starts_of : StartsOf stopped.walked.kept scan.starts
  pub whole : length word ≤ scan.at
      → scan.syllables ≡ kept_packed stopped.walked.kept ++ replicate (limit - length stopped.walked.kept) 0
