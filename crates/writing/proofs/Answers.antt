-- What a size says of the formula: with a size there is a row that has these records, and with none there is no such row.
-- Assumes nothing.
use mathlib.Core.Path.{◌≡◌, refl, sym, ◌∙◌}
use mathlib.Core.Bool.{Bool, true, false, ◌&&◌}
use mathlib.Core.List.{List}
use Prim.Native.Nat.{ℕ, ◌≤◌, ◌<◌}
use native.Mathlib.Omega.{arith}
use lib.Dec.{T, leb, leb→le, le→leb}
use lib.ListN.{length}
use Rattle.letters.specs.Choice.{pick}
use Rattle.formula.proofs.Lists.{both, both_left, both_right}
use Rattle.formula.specs.Limits.{limit}
use Rattle.formula.specs.Syllable.{no_final}
use Rattle.formula.specs.Row.{Row, IsRow, join}
use Rattle.formula.specs.Record.{record_bytes}
use Rattle.refusals.specs.Outcome.{accepts, refuses}
use Rattle.refusals.specs.Output.{refused, put, too_short}
use Rattle.writing.specs.Write.{Recorded, no_such_row, WriteRight}
use Rattle.writing.specs.Records.{row_of, are_records}
use Rattle.writing.specs.Size.{size_of}
use Rattle.writing.specs.Put.{RowFits, RowPut}
use Rattle.std.specs.declared.option.Option.{Option}
use Rattle.std.specs.declared.option.Option.TheVariants.{None, Some}
use Rattle.writing.proofs.Rows.{row_read, row_written}

-- a row's records pass the tests, and are read as the row
pub read_row : (bytes : List ℕ) (row : Row) → IsRow row → record_bytes row ≡ bytes → T (are_records 0 bytes) × (row_of bytes ≡ row)
read_row bytes row is e =
    let w = row_written no_final row is in
    (rw (← e) w.are_records_lem, rw (← e) w.back)

-- bytes that pass the tests, and whose word is short enough
pub record Sized (bytes : List ℕ) (count : ℕ) : Type 0 where
  pub are_records_lem : T (are_records 0 bytes)
  pub counted : length (join (row_of bytes)) ≡ count
  pub recorded : Recorded bytes (row_of bytes)

-- what a size says
abbrev Says : List ℕ → Option ℕ → Type 0
Says bytes (Some n) = Sized bytes n
Says bytes None = (row : Row) → Recorded bytes row → ⊥

says : (bytes : List ℕ) (test : Bool) → (are_records 0 bytes && leb (length (join (row_of bytes))) limit) ≡ test
    → Says bytes (pick test (Some (length (join (row_of bytes)))) None)
unfolding pick
says bytes true e =
    let all : T (are_records 0 bytes && leb (length (join (row_of bytes))) limit) = rw e tt in
    let passed : T (are_records 0 bytes) = both_left (are_records 0 bytes) (leb (length (join (row_of bytes))) limit) all in
    let read = row_read no_final bytes passed in
    record {
      are_records_lem = passed;
      counted = refl;
      recorded = record {
        is_row = read.is_row;
        records = read.records;
        short = leb→le (length (join (row_of bytes))) limit (both_right (are_records 0 bytes) (leb (length (join (row_of bytes))) limit) all);
      };
    }
says bytes false e = λ row r.
    let found = read_row bytes row r.is_row r.records in
    let short : length (join (row_of bytes)) ≤ limit = rw found.1 r.short in
    rw e at (both (are_records 0 bytes) (leb (length (join (row_of bytes))) limit) found.0 (le→leb (length (join (row_of bytes))) limit short))

said : (bytes : List ℕ) → Says bytes (size_of bytes)
unfolding size_of
said bytes = says bytes (are_records 0 bytes && leb (length (join (row_of bytes))) limit) refl

pub size_values : (bytes : List ℕ) (size : Option ℕ) (count : ℕ) → size ≡ size_of bytes → size ≡ Some count → Sized bytes count
size_values bytes size count e f = rw (sym e ∙ f) at (said bytes)

size_none : (bytes : List ℕ) (size : Option ℕ) → size ≡ size_of bytes → size ≡ None → (row : Row) → Recorded bytes row → ⊥
size_none bytes size e f = rw (sym e ∙ f) at (said bytes)

-- the promise of writing, with no row, with an output that is too short, and with the word written
pub write_none : (bytes before : List ℕ) (size : Option ℕ) → size ≡ size_of bytes → size ≡ None → WriteRight bytes before before (refuses 6 0)
write_none bytes before size e f = refused (no_such_row (size_none bytes size e f)) refl

module _ (bytes before : List ℕ) (count : ℕ) (s : Sized bytes count) where
  pub write_short : length before < count → WriteRight bytes before before (refuses 5 count)
  write_short few = rw (← s.counted) (too_short s.recorded (omega (arith, s.counted)) refl)

  pub row_fits : count ≤ length before → RowFits bytes (length before)
  row_fits enough = record { are_records_lem = s.are_records_lem; fits = omega (arith, s.counted) }

  pub write_done : count ≤ length before → (after : List ℕ) (result : ℕ) → RowPut bytes before after result → WriteRight bytes before after (accepts result)
  write_done enough after result p = rw p.counted (put s.recorded (omega (arith, s.counted)) p.put)
