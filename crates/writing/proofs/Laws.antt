-- A row's records tell the row, and the promise of writing fixes the outcome and the output: both since records are read back as their row.
-- Assumes nothing.
use mathlib.Core.Path.{◌≡◌, refl, sym, ◌∙◌}
use mathlib.Core.List.{List}
use Prim.Native.Nat.{ℕ}
use lib.ListN.{length}
use Rattle.formula.specs.Row.{Row, IsRow, join}
use Rattle.formula.specs.Record.{record_bytes}
use Rattle.refusals.specs.Outcome.{Outcome, refuses}
use Rattle.refusals.proofs.Determined.{Same, writes_determined}
use Rattle.writing.specs.Write.{Recorded, RecordsRefused, no_such_row, WriteRight}
use Rattle.writing.proofs.Answers.{read_row}

-- two rows with the same records are the same row
pub records_injective : (r s : Row) → IsRow r → IsRow s → record_bytes r ≡ record_bytes s → r ≡ s
records_injective r s p q e = sym (read_row (record_bytes s) r p e).1 ∙ (read_row (record_bytes s) s q refl).1

same_row : (bytes : List ℕ) (r s : Row) → Recorded bytes r → Recorded bytes s → r ≡ s
same_row bytes r s p q = records_injective r s p.is_row q.is_row (p.records ∙ sym q.records)

refused_alike : (bytes : List ℕ) (n p m q : ℕ) → RecordsRefused bytes n p → RecordsRefused bytes m q → refuses n p ≡ refuses m q
refused_alike bytes n p m q (no_such_row r) (no_such_row s) = refl

recorded_not_refused : (bytes : List ℕ) (row : Row) (n p : ℕ) → Recorded bytes row → RecordsRefused bytes n p → ⊥
recorded_not_refused bytes row n p r (no_such_row none) = none row r

-- two outcomes of writing the same records to the same output are the same, and so is what they leave there
pub write_determined : (bytes before after final : List ℕ) (first second : Outcome) → WriteRight bytes before after first → WriteRight bytes before final second
    → Same first second after final
write_determined bytes =
    writes_determined (RecordsRefused bytes) (Recorded bytes) join (λ row. length (join row)) (refused_alike bytes) (same_row bytes) (recorded_not_refused bytes)
