-- Where a search for a foreign value finds none, the values are admitted up to the word's end.
-- Assumes nothing.
use Rattle.std.specs.Prelude.{ℕ, List, length, Option, Some, None}
use Rattle.std.specs.Option.{unwrap_or}
use Rattle.recogniser.specs.Concluded.{AdmittedTo, FindsForeign}

pub found_place : (word : List ℕ) (from : ℕ) (found : Option ℕ) → FindsForeign word from found → AdmittedTo word from (unwrap_or found (length word))
found_place word from None f = f
found_place word from (Some place) f = f.1
