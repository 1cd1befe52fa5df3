-- Reading and writing undo each other: a row is known by its word and by its records, and both entry points promise the word or the records of a row.
-- Assumes nothing.
use mathlib.Core.Path.{◌≡◌, refl, ap, sym, ◌∙◌}
use mathlib.Core.List.{List, [], ◌∷◌, ◌++◌, map}
use Prim.Native.Nat.{ℕ, zero, suc, ◌+◌, ◌-◌, ◌*◌, ◌≤◌, ◌<◌}
use native.Mathlib.Nat.{le_of_suc-le-suc, not-suc-le-zero}
use native.Mathlib.Omega.{arith}
use lib.ListN.{length, get_or, take, drop, replicate, length-drop, take-append-drop}
use lib.Seq.{take_at, drop_at, drop-drop}
use Rattle.formula.specs.Limits.{limit, record_size}
use Rattle.formula.specs.Syllable.{bare}
use Rattle.formula.specs.Row.{Row, IsRow, join, Gives}
use Rattle.formula.specs.Record.{record_of, record_bytes}
use Rattle.formula.specs.Packed.{packed}
use Rattle.refusals.specs.Outcome.{Outcome, accepts, accepts_both, absent, refuses, outcome_by}
use Rattle.refusals.specs.Output.{refused, put, too_short}
use Rattle.formula.proofs.Records.{record_length, records_length}
use Rattle.rows.proofs.Viable.{only_row}
use Rattle.recogniser.specs.Answer.{Reads}
use Rattle.std.specs.declared.result.Result.{Result}
use Rattle.refusals.specs.declared.Refusal.{Refusal}
use Rattle.std.specs.declared.option.Option.{Option}
use Rattle.reading.specs.Reading.{reading_told, syllables_in, ReadRight}
use Rattle.reading.specs.Records.{record_outcome_of, bytes_in, HasRecord, RecordAnswers, RecordRight}
use Rattle.reading.specs.declared.row.Reading.{Reading}
use Rattle.recogniser.proofs.Answered.{row_reads, refused_no_row}
use Rattle.recogniser.proofs.Determined.{answers_alike}
use Rattle.writing.specs.Write.{Recorded, no_such_row, WriteRight}
use Rattle.writing.proofs.Laws.{write_determined}

-- the record of a number, among the records of a row
record_number : (row : Row) (number : ℕ) → number < length row → take record_size (drop (record_size * number) (record_bytes row)) ≡ record_of (get_or row number (bare 0x1000))
record_number [] number below = absurd (not-suc-le-zero below)
record_number (s ∷ row) zero below = take_at (record_of s) (record_bytes row) record_size (record_length s)
record_number (s ∷ row) (suc number) below =
    let place : record_size * suc number ≡ record_size + record_size * number = omega arith in
    rw (place, ← drop-drop (record_size * number) record_size (record_of s ++ record_bytes row), drop_at (record_of s) (record_bytes row) record_size (record_length s))
    (record_number row number (le_of_suc-le-suc below))

-- bytes that are a row's records, number by number
by_number : (row : Row) (bytes : List ℕ) → length bytes ≡ record_size * length row
    → ((number : ℕ) → number < length row → take record_size (drop (record_size * number) bytes) ≡ record_of (get_or row number (bare 0x1000))) → record_bytes row ≡ bytes
by_number [] [] whole each = refl
by_number [] (byte ∷ bytes) whole each = let z : ⊥ = omega arith in absurd z
by_number (s ∷ row) bytes whole each =
    let here : take record_size bytes ≡ record_of s = each 0 (omega arith) in
    let rest : record_bytes row ≡ drop record_size bytes =
    by_number row (drop record_size bytes) (omega (arith, length-drop record_size bytes))
    (λ number below. let place : record_size + record_size * number ≡ record_size * suc number = omega arith in
    rw (drop-drop (record_size * number) record_size bytes, place) (each (suc number) (omega arith))) in
    rw (← here, rest) (take-append-drop record_size bytes)

-- the bytes are the records of the word's n syllables, each as it is given by number, one behind the other
pub record RecordsRead (word : List ℕ) (n : ℕ) (bytes : List ℕ) : Type 0 where
  pub whole : length bytes ≡ record_size * n
  pub each : (number : ℕ) → number < n → HasRecord word number (take record_size (drop (record_size * number) bytes))

-- the word is written: so many values, at the front of the output, the rest untouched
pub record WrittenTo (word before after : List ℕ) (outcome : Outcome) : Type 0 where
  pub counted : outcome ≡ accepts (length word)
  pub front : after ≡ word ++ drop (length word) before

-- the writer accepts the bytes: they are a row's records, and its word is what it wrote
pub record Accepted (bytes before after : List ℕ) (n : ℕ) : Type 0 where
  pub row : Row
  pub recorded : Recorded bytes row
  pub count : n ≡ length (join row)
  pub front : after ≡ join row ++ drop (length (join row)) before

-- what the writer accepts is a row's records, and the row has at most as many values as the limit
pub accepted_row : (bytes before after : List ℕ) (outcome : Outcome) (n : ℕ) → WriteRight bytes before after outcome → outcome ≡ accepts n
    → Accepted bytes before after n
accepted_row bytes before after outcome n (put {thing = row} p l e) f = record { row = row; recorded = p; count = cc; front = e }
accepted_row bytes before after outcome n (refused p e) f = let z : ◌≡◌ {A = ℕ} 0 1 = cc in let no : ⊥ = omega arith in absurd no
accepted_row bytes before after outcome n (too_short p l e) f = let z : ◌≡◌ {A = ℕ} 0 1 = cc in let no : ⊥ = omega arith in absurd no

-- and the records of each such row are accepted, where the output has room
pub row_accepted : (bytes before after : List ℕ) (outcome : Outcome) (row : Row) → Recorded bytes row → length (join row) ≤ length before
    → WriteRight bytes before after outcome → WrittenTo (join row) before after outcome
row_accepted bytes before after outcome row p room w =
    let same = write_determined bytes before after (join row ++ drop (length (join row)) before) outcome (accepts (length (join row))) w (put p room refl) in
    record { counted = same.outcome; front = same.output }

-- all else is refused with 6
pub row_refused : (bytes before after : List ℕ) (outcome : Outcome) → ((row : Row) → Recorded bytes row → ⊥) → WriteRight bytes before after outcome
    → outcome ≡ refuses 6 0
row_refused bytes before after outcome none w = (write_determined bytes before after before outcome (refuses 6 0) w (refused (no_such_row none) refl)).outcome

-- the records read are those of the row that gives the word
records_of_lem : (word : List ℕ) (n : ℕ) (bytes : List ℕ) → Reads word n → RecordsRead word n bytes → (row : Row) → Gives row word → Recorded bytes row
records_of_lem word n bytes r b row g =
    let counted : length row ≡ n = ap length (r.only row g) ∙ r.count in
    record {
      is_row = g.is_row;
      records =
          by_number row bytes (b.whole ∙ ap (λ (k : ℕ). record_size * k) (sym counted))
          (λ number below. let h = b.each number (omega (arith, counted)) in
          h.is ∙ ap (λ (t : Row). record_of (get_or t number (bare 0x1000))) (r.only h.row h.gives ∙ sym (r.only row g)));
      short = omega (arith, r.admissible.short, ap length g.joined);
    }

-- writing the records read from a readable word gives the word
pub read_then_write : (word : List ℕ) (reading : Result Reading Refusal) (n : ℕ) → ReadRight word reading → outcome_by reading_told reading ≡ accepts n
    → (bytes : List ℕ) → RecordsRead word n bytes → (before after : List ℕ) (outcome : Outcome) → length word ≤ length before → WriteRight bytes before after outcome
    → WrittenTo word before after outcome
read_then_write word reading n right accepted bytes b before after outcome room w =
    let r : Reads word n = rw accepted at right.answers in
    let same : join r.row ≡ word = r.gives.joined in
    rw same at (row_accepted bytes before after outcome r.row (records_of_lem word n bytes r b r.row r.gives) (omega (arith, ap length same)) w)

-- the reading of a word is right, and its records are the bytes
pub record ReadBack (word bytes : List ℕ) (reading : Result Reading Refusal) : Type 0 where
  pub n : ℕ
  pub accepted : outcome_by reading_told reading ≡ accepts n
  pub row_records : (row : Row) → Gives row word → record_bytes row ≡ bytes
  pub records : RecordsRead word n bytes
  pub by_number : (number : ℕ) → number < n → (r : Result (Option (List ℕ)) Refusal) → RecordRight word number r
      → (record_outcome_of r ≡ accepts record_size) × (bytes_in r ≡ take record_size (drop (record_size * number) bytes))

module _ (word bytes : List ℕ) (row : Row) (g : Gives row word) (p : record_bytes row ≡ bytes) (short : length word ≤ limit) where
  row_read : Reads word (length row)
  row_read = row_reads row word g short

  same_row : (other : Row) → Gives other word → other ≡ row
  same_row other h = only_row other row word h g

  record_is : (number : ℕ) → number < length row → take record_size (drop (record_size * number) bytes) ≡ record_of (get_or row number (bare 0x1000))
  record_is number below = rw (← p) (record_number row number below)

  records_read : RecordsRead word (length row) bytes
  records_read =
      record {
        whole = sym (ap length p) ∙ records_length row;
        each = λ number below. record {
          admissible = row_read.admissible;
          row = row;
          gives = g;
          below = below;
          is = record_is number below;
        };
      }

  asked : (number : ℕ) → number < length row → (o : Outcome) (b : List ℕ) → RecordAnswers word number o b
      → (o ≡ accepts record_size) × (b ≡ take record_size (drop (record_size * number) bytes))
  asked number below (accepts size) b h = (
    ap accepts h.0,
    h.1.is ∙ ap (λ (t : Row). record_of (get_or t number (bare 0x1000))) (same_row h.1.row h.1.gives) ∙ sym (record_is number below),
  )
  asked number below (accepts_both size other) b h = absurd h
  asked number below absent b h =
      let z : ⊥ = (let far = h.beyond in omega (arith, ap length (same_row h.row h.gives))) in
      absurd z
  asked number below (refuses refusal place) b h = absurd (refused_no_row word refusal place h.refused row_read.admissible row g)

  pub read_back : (reading : Result Reading Refusal) → ReadRight word reading → ReadBack word bytes reading
  read_back reading right =
      record {
        n = length row;
        accepted = answers_alike word (outcome_by reading_told reading) (accepts (length row)) right.answers row_read;
        row_records = λ other h. ap record_bytes (same_row other h) ∙ p;
        records = records_read;
        by_number = λ number below r h. asked number below (record_outcome_of r) (bytes_in r) h;
      }

-- the records of a row are those read from its word
pub row_records_read : (word : List ℕ) (n : ℕ) → Reads word n → (row : Row) → Gives row word → RecordsRead word n (record_bytes row)
row_records_read word n r row g =
    let counted : length row ≡ n = ap length (r.only row g) ∙ r.count in
    rw (← counted) (records_read word (record_bytes row) row g refl r.admissible.short)

-- and the row of each list of bytes that the writer accepts is one that the reader yields
pub recorded_reads : (bytes : List ℕ) (row : Row) → Recorded bytes row → Reads (join row) (length row)
recorded_reads bytes row p = row_reads row (join row) (record { is_row = p.is_row; joined = refl }) p.short

-- reading what was written from an accepted list of bytes gives that list of bytes back, record by record
pub write_then_read : (bytes before after : List ℕ) (outcome : Outcome) (count : ℕ) → WriteRight bytes before after outcome → outcome ≡ accepts count
    → (reading : Result Reading Refusal) → ReadRight (take count after) reading → ReadBack (take count after) bytes reading
write_then_read bytes before after outcome count w done reading right =
    let a = accepted_row bytes before after outcome count w done in
    let front : take count after ≡ join a.row =
    ap (take count) a.front ∙ take_at (join a.row) (drop (length (join a.row)) before) count (sym a.count) in
    read_back (take count after) bytes a.row (record { is_row = a.recorded.is_row; joined = sym front }) a.recorded.records
    (omega (arith, a.recorded.short, ap length front)) reading right

-- a row that comes back: its word is written, and the reading of that has its number of syllables, these packed and their records, and no other
-- row gives what was written
pub record Restored (row : Row) (before after : List ℕ) (outcome : Outcome) (reading : Result Reading Refusal) : Type 0 where
  pub written : WrittenTo (join row) before after outcome
  pub counted : outcome_by reading_told reading ≡ accepts (length row)
  pub gives : Gives row (take (length (join row)) after)
  pub only : (other : Row) → Gives other (take (length (join row)) after) → other ≡ row
  pub syllables : syllables_in reading ≡ map packed row ++ replicate (limit - length row) 0
  pub records : (number : ℕ) → number < length row → (r : Result (Option (List ℕ)) Refusal) → RecordRight (take (length (join row)) after) number r
      → bytes_in r ≡ record_of (get_or row number (bare 0x1000))

-- for every row of at most 64 values: reading what is written from its records restores the row
pub row_restored : (row : Row) → IsRow row → length (join row) ≤ limit → (before after : List ℕ) (outcome : Outcome) → length (join row) ≤ length before
    → WriteRight (record_bytes row) before after outcome → (reading : Result Reading Refusal) → ReadRight (take (length (join row)) after) reading
    → Restored row before after outcome reading
row_restored row is short before after outcome room w reading right =
    let p = row_accepted (record_bytes row) before after outcome row (record { is_row = is; records = refl; short = short }) room w in
    let word = take (length (join row)) after in
    let front : word ≡ join row = ap (take (length (join row))) p.front ∙ take_at (join row) (drop (length (join row)) before) (length (join row)) refl in
    let g : Gives row word = record { is_row = is; joined = sym front } in
    let fits : length word ≤ limit = omega (arith, ap length front) in
    let counted = answers_alike word (outcome_by reading_told reading) (accepts (length row)) right.answers (row_reads row word g fits) in
    record {
      written = p;
      counted = counted;
      gives = g;
      only = λ other h. only_row other row word h g;
      syllables = (rw counted at right.syllables) row g;
      records = λ number below r h.
          (asked word (record_bytes row) row g refl fits number below (record_outcome_of r) (bytes_in r) h).1 ∙ record_number row number below;
    }
