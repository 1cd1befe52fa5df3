-- A word held by value: a list of values in the array of the word type, and zeros behind it.
-- Assumes nothing.
use Rattle.std.specs.Prelude.{List, ◌++◌, ℕ, ◌-◌, length, replicate}
use Rattle.formula.specs.Limits.{limit}
use Rattle.formula.specs.declared.Word.{Word}

-- the word type's value that holds these values; they are at most as many as the limit
abbrev pub word_of : List ℕ → Word
word_of values = record { values = values ++ replicate (limit - length values) 0; count = length values }
