-- A word whose stored form was readable in an earlier edition is stored, as the row that it had.
-- Assumes nothing.
use mathlib.Core.List.{List}
use Prim.Native.Nat.{ℕ}
use lib.ListN.{length}
use Rattle.formula.specs.Earlier.{Edition}
use Rattle.recogniser.specs.Answer.{Admissible}
use Rattle.recogniser.specs.Earlier.{ReadableIn}
use Rattle.recogniser.proofs.Earlier.{earlier_reads}
use Rattle.storage.specs.Stored.{stored_form}
use Rattle.normaliser.specs.Normal.{Stores}

pub earlier_stores : {edition : Edition} (word : List ℕ) → Admissible word → (b : ReadableIn edition (stored_form word)) → Stores word (length b.row)
earlier_stores word a b = record { admissible = a; reads = earlier_reads (stored_form word) b }
