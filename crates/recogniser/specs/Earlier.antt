-- The words that were readable in an earlier edition of the formula: in document 01, or before document 02, E5. Assumes nothing.
use Rattle.std.specs.Prelude.{List, ℕ, ◌≤◌, length}
use Rattle.formula.specs.Row.{Row}
use Rattle.formula.specs.Earlier.{Edition, limit_in, GivesIn}

-- a row of the edition gives the word, within the edition's limit
pub record ReadableIn (edition : Edition) (word : List ℕ) : Type 0 where
  pub short : length word ≤ limit_in edition
  pub row : Row
  pub gives : GivesIn edition row word
