-- Foreign values, and where a pass has stopped. Contracts of inner functions and of those for the crates above cite it; no answer's promise
-- does. Assumes nothing.
use Rattle.std.specs.Prelude.{◌≡◌, Option, MatchOption, Bool, not, List, [], ℕ, ◌≤◌, ◌<◌, T, length, get_or, take}
use Rattle.std.proofs.Math.Option.{none, some}
use Rattle.letters.specs.Letters.{is_admitted}
use Rattle.formula.specs.Limits.{limit}
use Rattle.formula.specs.Syllable.{is_closed}
use Rattle.formula.specs.Row.{Row}
use Rattle.rows.specs.Machine.{end_of, step, run}

unfoldable pub is_foreign : ℕ → Bool
is_foreign x = not (is_admitted x)

-- the values from `from` to `place` are admitted, and the one at `place` is not, unless it is the end
pub record AdmittedTo (word : List ℕ) (from place : ℕ) : Type 0 where
  pub after : from ≤ place
  pub within : place ≤ length word
  pub before : (k : ℕ) → from ≤ k → k < place → T (is_admitted (get_or word k 0))
  pub foreign : place < length word → T (is_admitted (get_or word place 0)) → ⊥

-- what a search for a foreign value answers: the first from `from` on, or that there is none
abbrev pub FindsForeign : List ℕ → ℕ → Option ℕ → Type 0
FindsForeign word from found =
    MatchOption found (AdmittedTo word from (length word)) (λ place. (place < length word) × AdmittedTo word from place)

-- the values before `at` are read, as so many syllables, the last of which waits for a letter or not, and the value at `at` is refused,
-- unless it is the end
pub record Halted (word : List ℕ) (at : ℕ) (waits : Bool) (count : ℕ) : Type 0 where
  pub short : length word ≤ limit
  pub within : at ≤ length word
  pub kept : Row
  pub came : run (take at word) [] ≡ some kept
  pub waits_is : waits ≡ not (is_closed (end_of kept))
  pub count_is : count ≡ length kept
  pub refused : at < length word → step kept (get_or word at 0) ≡ none
