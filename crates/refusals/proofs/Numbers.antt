-- The number and the place of each refusal, as the tables of document 01 and the requests of document 02 give them, by computing them.
-- Assumes nothing.
use mathlib.Core.Path.{◌≡◌, refl}
use mathlib.Core.List.{List, [], ◌∷◌, map}
use Prim.Native.Nat.{ℕ}
use Rattle.refusals.specs.Refusal.{number_of, place_of}
use Rattle.refusals.specs.declared.Refusal.{Refusal}
use Rattle.refusals.specs.declared.Refusal.TheVariants.{TooLong, Foreign, NoContinuation, Unfinished, OutputTooShort, NoSuchRow, FaultyLine, EmptyWord, NotABook, AlreadyLive, NotLive, BookFull, RankTooHigh, StopOrSign, ConfusableDigit, TooManySyllables}

-- a refusal, its number and its place; where the place varies, it is 99
abbrev pub refusals : List (Refusal × ℕ × ℕ)
refusals =
    (TooLong, 1, 64)
    ∷ (Foreign 99, 2, 99)
    ∷ (NoContinuation 99, 3, 99)
    ∷ (Unfinished 99, 4, 99)
    ∷ (OutputTooShort 99, 5, 99)
    ∷ (NoSuchRow, 6, 0)
    ∷ (FaultyLine 99, 7, 99)
    ∷ (EmptyWord, 8, 0)
    ∷ (NotABook 99, 11, 99)
    ∷ (AlreadyLive 99, 12, 99)
    ∷ (NotLive, 13, 0)
    ∷ (BookFull 99, 14, 99)
    ∷ (RankTooHigh 99, 15, 99)
    ∷ (StopOrSign 99, 21, 99)
    ∷ (ConfusableDigit 99, 22, 99)
    ∷ (TooManySyllables, 23, 10)
    ∷ []

pub refusals_numbered : map (λ (r : Refusal × ℕ × ℕ). number_of r.0) refusals ≡ map (λ (r : Refusal × ℕ × ℕ). r.1) refusals
refusals_numbered = refl

pub refusals_placed : map (λ (r : Refusal × ℕ × ℕ). place_of r.0) refusals ≡ map (λ (r : Refusal × ℕ × ℕ). r.2) refusals
refusals_placed = refl
