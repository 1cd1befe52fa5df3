-- What a pass over a word for its answer alone finds: the state and the number of syllables of the machine's row.
-- Inner contracts cite it; no public promise does. Assumes nothing.
use Rattle.std.specs.Prelude.{◌≡◌, List, [], ℕ, ◌≤◌, ◌<◌, length, get_or, take}
use Rattle.std.proofs.Math.Option.{none, some}
use Rattle.formula.specs.Limits.{limit}
use Rattle.formula.specs.Row.{Row}
use Rattle.rows.specs.Machine.{step, run}
use Rattle.states.specs.State.{state_of, state_number}

-- the state after the first `at` values of the word
pub record Walked (word : List ℕ) (at state count : ℕ) : Type 0 where
  pub kept : Row
  pub came : run (take at word) [] ≡ some kept
  pub state_is : state ≡ state_number (state_of kept)
  pub count_is : count ≡ length kept

-- the values before `at` are read, and the one at `at` is refused, unless it is the end
pub record WalkStopped (word : List ℕ) (at state count : ℕ) : Type 0 where
  pub short : length word ≤ limit
  pub within : at ≤ length word
  pub walked : Walked word at state count
  pub refused : at < length word → step walked.kept (get_or word at 0) ≡ none
