-- Document 01, "Storage order", rules 1 and 2 over places: where each value of a stored form was typed.
-- Assumes nothing.
use Rattle.std.specs.Prelude.{List, [], ◌∷◌, ℕ, length, get_or}
use Rattle.letters.specs.Choice.{pick}
use Rattle.letters.specs.Counting.{up_from}
use Rattle.storage.specs.Stored.{makes_long_vowel, sort_runs_by}

-- the value that was typed at a place of the word, and 0 behind its end
unfoldable pub typed_at : List ℕ → ℕ → ℕ
typed_at word place = get_or word place 0

-- rule 1: the places of the word are sorted as their values are
abbrev pub sorted_places : List ℕ → List ℕ
sorted_places word = sort_runs_by (typed_at word) (up_from 0 (length word))

-- rule 2: "1025 102E becomes 1026", which stands for the 1025, so the place of the 102E is left out. Every other place stays.
abbrev pub compose_places : List ℕ → List ℕ → List ℕ
compose_places word [] = []
compose_places word (p ∷ []) = p ∷ []
compose_places word (p ∷ q ∷ places) =
    pick (makes_long_vowel (typed_at word p) (typed_at word q)) (p ∷ compose_places word places) (p ∷ compose_places word (q ∷ places))

-- both rules: the place where each value of the stored form was typed
unfoldable pub typed_places : List ℕ → List ℕ
typed_places word = compose_places word (sorted_places word)

-- a stored value stands for a typed one: it is the same, or a 1025 that became 1026 or 1009
pub data StandsFor : ℕ → ℕ → Type 0 where
  as_typed : {x : ℕ} → StandsFor x x
  long_vowel : StandsFor 0x1025 0x1026
  letter : StandsFor 0x1025 0x1009
