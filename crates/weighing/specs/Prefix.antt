-- Document 02, "Find by the first syllables": "A live record fits when its row of weights begins with the query's row; a plain final in the query
-- thus finds a stacked one." Assumes nothing.
use Rattle.std.specs.Prelude.{Bool}
use Rattle.formula.specs.Lists.{is_prefix_of_lists}
use Rattle.formula.specs.Row.{Row}
use Rattle.formula.specs.Weighing.{weights}

-- the first row's weights begin with those of the second
abbrev pub begins_with : Row → Row → Bool
begins_with row query = is_prefix_of_lists (weights query) (weights row)
