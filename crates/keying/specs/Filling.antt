-- The last syllable and the bytes of the key, as the pass over a word has them. Inner contracts cite it; no public promise does.
-- Assumes nothing.
use Rattle.std.specs.Prelude.{◌≡◌, List, [], ◌∷◌, ◌++◌, ℕ, ◌+◌, ◌-◌, T, eqb, length}
use Rattle.std.proofs.lemmas.List.Edits.{sets}
use Rattle.formula.specs.Limits.{weight_count}
use Rattle.letters.specs.Choice.{pick}
use Rattle.formula.specs.Syllable.{is_no_final}
use Rattle.formula.specs.Row.{Row}
use Rattle.formula.specs.Weighing.{weights_of}
use Rattle.formula.specs.declared.Window.{Window}
use Rattle.rows.specs.Machine.{end_of}
use Rattle.syllables.specs.Window.{closed_by, window_after, WindowOf, below_last}
use Rattle.recogniser.specs.Walked.{Walked}
use Rattle.weighing.specs.Keys.{key_limit, zeros, used_bytes}
use Rattle.syllable_weights.specs.Weights.{weights_by}

-- the bytes with the last of so many syllables put at its place
unfoldable pub put_last : ℕ → ℕ → List ℕ → List ℕ
put_last count packed bytes = pick (eqb count 0) bytes (sets bytes (used_bytes (count - 1)) (weights_by packed))

-- a syllable is put when the next one begins
unfoldable pub bytes_after : ℕ → ℕ → ℕ → List ℕ → List ℕ
bytes_after d count packed bytes = pick (eqb d 2) (put_last count packed bytes) bytes

-- what a value that makes d syllables more, less 1, and adds g does to the window and to the bytes
pub record Advanced (d g x : ℕ) (window : Window) (bytes : List ℕ) (after : Window) (new : List ℕ) : Type 0 where
  pub moved : after ≡ window_after d g x window
  pub put : new ≡ bytes_after d window.count (closed_by x window.last) bytes

-- the weights of what is kept, in the word's order
abbrev pub kept_key : Row → List ℕ
kept_key [] = []
kept_key (s ∷ kept) = kept_key kept ++ weights_of s

-- the key has the syllables below the last, then six bytes, which are zeros while the last has no final, then zeros
pub record KeyOf (kept : Row) (bytes : List ℕ) : Type 0 where
  pub place : List ℕ
  pub rest : ℕ
  pub is : bytes ≡ kept_key (below_last kept) ++ (place ++ zeros rest)
  pub sized : length place ≡ weight_count
  pub size : used_bytes (length (below_last kept)) + (weight_count + rest) ≡ key_limit
  pub fresh : T (is_no_final (end_of kept)) → place ≡ zeros weight_count

-- the state of the pass after the first `at` values of the word
pub record Filled (word : List ℕ) (at state : ℕ) (window : Window) (bytes : List ℕ) : Type 0 where
  pub walked : Walked word at state window.count
  pub window_of : WindowOf walked.kept window
  pub key_of_lem : KeyOf walked.kept bytes
