-- How many values records are written with.
-- Assumes nothing.
use Rattle.std.specs.Prelude.{◌&&◌, List, ℕ, leb, length}
use Rattle.letters.specs.Choice.{pick}
use Rattle.formula.specs.Limits.{limit}
use Rattle.formula.specs.Row.{join}
use Rattle.writing.specs.Records.{row_of, are_records}
use Rattle.std.specs.declared.option.Option.{Option}
use Rattle.std.specs.declared.option.Option.TheVariants.{None, Some}

-- the values of the row that has these records, where there is one and they are at most as many as the limit
unfoldable pub size_of : List ℕ → Option ℕ
size_of bytes = pick (are_records 0 bytes && leb (length (join (row_of bytes))) limit) (Some (length (join (row_of bytes)))) None
