-- The promises of a record, of a key and of a decoded line that are written to lent output are met by one answer only.
-- Assumes nothing.
use mathlib.Core.Path.{◌≡◌, refl, ap, sym, ◌∙◌}
use mathlib.Core.List.{List}
use Prim.Native.Nat.{ℕ}
use native.Mathlib.Omega.{arith}
use lib.ListN.{length, get_or}
use Rattle.formula.specs.Syllable.{bare}
use Rattle.formula.specs.Row.{Row}
use Rattle.formula.specs.Record.{record_of}
use Rattle.refusals.specs.Outcome.{Outcome}
use Rattle.refusals.specs.Output.{Writes, refused, put, too_short}
use Rattle.refusals.proofs.Determined.{Same, writes_determined}
use Rattle.lines.specs.Line.{Decodes, LineRefused}
use Rattle.lines.proofs.Determined.{decodes_alike, line_refused_alike, decoded_not_refused}
use Rattle.rows.proofs.Viable.{only_row}
use Rattle.recogniser.specs.Answer.{RefusedWith}
use Rattle.recogniser.proofs.Answered.{refused_no_row}
use Rattle.recogniser.proofs.Determined.{refused_alike}
use Rattle.reading.specs.Records.{no_bytes, HasRecord, NoRecord}
use Rattle.storage.specs.Stored.{stored_form}
use Rattle.normaliser.specs.Normal.{StoreRefusedWith}
use Rattle.normaliser.proofs.Determined.{store_refused_alike, stored_not_refused}
use Rattle.weighing.specs.Keys.{key_bytes}
use Rattle.outputs.specs.Outputs.{RecordWritten, answered, no_syllable, StoredRow, KeyWritten, DecodeWritten}

module _ (word : List ℕ) (number : ℕ) where
  same_record : (bytes other : List ℕ) → HasRecord word number bytes → HasRecord word number other → bytes ≡ other
  same_record bytes other r s =
      r.is ∙ ap (λ (row : Row). record_of (get_or row number (bare 0x1000))) (only_row r.row s.row word r.gives s.gives) ∙ sym s.is

  record_not_refused : (bytes : List ℕ) (n p : ℕ) → HasRecord word number bytes → RefusedWith word n p → ⊥
  record_not_refused bytes n p r w = refused_no_row word n p w r.admissible r.row r.gives

  -- a row has no syllable of a number that it has
  not_both : (bytes : List ℕ) → HasRecord word number bytes → NoRecord word number no_bytes → ⊥
  not_both bytes r n = omega (arith, r.below, n.beyond, ap length (only_row r.row n.row word r.gives n.gives))

  -- a record that is written or refused is not absent
  not_absent : (before after : List ℕ) (o : Outcome) → Writes (RefusedWith word) (HasRecord word number) (λ bytes. bytes) (λ bytes. length bytes) before after o
      → NoRecord word number no_bytes → ⊥
  not_absent before after o (refused w e) n = refused_no_row word _ _ w n.admissible n.row n.gives
  not_absent before after o (put r h e) n = not_both _ r n
  not_absent before after o (too_short r h e) n = not_both _ r n

  -- two outcomes of writing the record to the same output are the same, and so is what they leave there
  pub record_determined : (before after final : List ℕ) (first second : Outcome) → RecordWritten word number before after first
      → RecordWritten word number before final second → Same first second after final
  record_determined before after final first second (answered w) (answered u) =
      writes_determined (RefusedWith word) (HasRecord word number) (λ bytes. bytes) (λ bytes. length bytes) (refused_alike word) same_record
      record_not_refused before after final first second w u
  record_determined before after final first second (answered w) (no_syllable n e) = absurd (not_absent before after first w n)
  record_determined before after final first second (no_syllable n e) (answered u) = absurd (not_absent before final second u n)
  record_determined before after final first second (no_syllable n e) (no_syllable m f) = record { outcome = refl; output = e ∙ sym f }

module _ (word : List ℕ) where
  same_row : (row other : Row) → StoredRow word row → StoredRow word other → row ≡ other
  same_row row other s t = only_row row other (stored_form word) s.gives t.gives

  -- two outcomes of writing the key of the word to the same output are the same, and so is what they leave there
  pub key_determined : (before after final : List ℕ) (first second : Outcome) → KeyWritten word before after first → KeyWritten word before final second
      → Same first second after final
  key_determined =
      writes_determined (StoreRefusedWith word) (StoredRow word) key_bytes (λ row. length row) (store_refused_alike word) same_row
      (λ row n p s. stored_not_refused word (length row) n p s.stores)

module _ (line : List ℕ) where
  -- two outcomes of writing the values of the line to the same output are the same, and so is what they leave there
  pub decode_determined : (before after final : List ℕ) (first second : Outcome) → DecodeWritten line before after first
      → DecodeWritten line before final second → Same first second after final
  decode_determined =
      writes_determined (LineRefused line) (Decodes line) (λ word. word) (λ word. length word) (line_refused_alike line) (decodes_alike line)
      (decoded_not_refused line)
