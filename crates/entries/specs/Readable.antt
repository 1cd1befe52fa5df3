-- Whether a word is readable, as a test. The type of `decide` says all that is to be known of it: that the word is readable, or that it is not.
-- Assumes nothing.
use Rattle.std.specs.Prelude.{Bool, true, false, List, ℕ}
use Rattle.formula.specs.Limits.{limit}
use Rattle.recogniser.proofs.Decided.{decide_within}

abbrev pub decided : {A : Type 0} → Dec A → Bool
decided (yes a) = true
decided (no n) = false

-- document 01: "is in storage order and readable"; a readable word is in storage order
unfoldable pub is_readable_within : ℕ → List ℕ → Bool
is_readable_within most word = decided (decide_within most word)

abbrev pub is_readable : List ℕ → Bool
is_readable word = is_readable_within limit word
