-- Document 01, "Weights", as it was before document 02, E5: what a word was filed by. Assumes nothing.
use Rattle.std.specs.Prelude.{List, ℕ}
use Rattle.formula.specs.Row.{Row}
use Rattle.formula.specs.Earlier.{five_weights}
use Rattle.weighing.specs.Order.{Filed}

-- the five weights of each syllable of its row, and its values in storage order
abbrev pub filed_by_five : Row → List ℕ → Filed
filed_by_five row stored = record { weights = five_weights row; values = stored }
