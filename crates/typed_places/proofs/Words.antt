-- Worked examples: the typed places of a table of words, by computing them.
-- Assumes nothing.
use mathlib.Core.Path.{◌≡◌, refl}
use mathlib.Core.List.{List, [], ◌∷◌, map}
use Prim.Native.Nat.{ℕ}
use Rattle.letters.specs.Choice.{pick}
use Rattle.storage.specs.Stored.{is_run_mark, rank, goes_behind, makes_long_vowel}
use Rattle.typed_places.specs.Typed.{typed_at, typed_places}

-- a word, and for each value of its stored form the place where it was typed
unfoldable pub words : List (List ℕ × List ℕ)
words =
    ([], [])
    -- stored as 1000 1014 103A 1037, and as 1000 1031 102C
    ∷ (0x1000 ∷ 0x1014 ∷ 0x1037 ∷ 0x103A ∷ [], 0 ∷ 1 ∷ 3 ∷ 2 ∷ [])
    ∷ (0x1000 ∷ 0x102C ∷ 0x1031 ∷ [], 0 ∷ 2 ∷ 1 ∷ [])
    -- 1026 stands for the 1025, and 1009 too
    ∷ (0x1025 ∷ 0x102E ∷ [], 0 ∷ [])
    ∷ (0x1025 ∷ 0x1038 ∷ 0x102E ∷ [], 0 ∷ 1 ∷ [])
    ∷ (0x1025 ∷ 0x103A ∷ [], 0 ∷ 1 ∷ [])
    ∷ (0x1025 ∷ 0x102E ∷ 0x102E ∷ [], 0 ∷ 2 ∷ [])
    -- stored as 1000 1010 103A 1005 103A 1037: marks go behind marks of their own run alone
    ∷ (0x1000 ∷ 0x1010 ∷ 0x103A ∷ 0x1005 ∷ 0x1037 ∷ 0x103A ∷ [], 0 ∷ 1 ∷ 2 ∷ 3 ∷ 5 ∷ 4 ∷ [])
    -- of equal marks the one typed first stands first
    ∷ (0x1000 ∷ 0x1038 ∷ 0x1038 ∷ 0x1037 ∷ [], 0 ∷ 3 ∷ 1 ∷ 2 ∷ [])
    ∷ []

-- each word of the table has these places
pub words_typed : map (λ (w : List ℕ × List ℕ). typed_places w.0) words ≡ map (λ (w : List ℕ × List ℕ). w.1) words
unfolding words typed_places typed_at is_run_mark rank goes_behind makes_long_vowel pick
words_typed = refl
