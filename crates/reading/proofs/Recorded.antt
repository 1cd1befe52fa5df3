-- The record by number is the row's: a reading holds the row's syllables, and their parts are the bytes of their records.
-- Assumes nothing.
use mathlib.Core.Path.{◌≡◌, refl, ap, sym, ◌∙◌}
use mathlib.Core.List.{List, [], ◌∷◌, map}
use Prim.Native.Nat.{ℕ, zero, suc, ◌-◌, ◌≤◌, ◌<◌}
use native.Mathlib.Nat.{le_of_suc-le-suc, not-suc-le-zero}
use native.Mathlib.Omega.{arith}
use lib.Dec.{T}
use lib.ListN.{length, get_or, take, replicate, length-map}
use lib.Seq.{take_at, get_or-take}
use Rattle.letters.proofs.Written.{medial_written}
use Rattle.formula.specs.Limits.{limit}
use Rattle.formula.specs.Syllable.{Final, no_final, Syllable, syllable, bare, final_of, is_syllable}
use Rattle.formula.specs.Row.{Row, is_row_after}
use Rattle.formula.specs.Record.{record_of}
use Rattle.formula.specs.Packed.{packed}
use Rattle.std.specs.declared.result.Result.TheVariants.{Ok}
use Rattle.rows.proofs.Complete.{first}
use Rattle.syllables.proofs.Parted.{parted}
use Rattle.reading.specs.Reading.{ReadRight}
use Rattle.reading.specs.Records.{bytes_by, no_bytes, HasRecord, NoRecord}
use Rattle.reading.specs.declared.row.Reading.{Reading}

pub bytes_packed : (s : Syllable) → T (is_syllable s) → bytes_by (packed s) ≡ record_of s
unfolding record_of bytes_by
bytes_packed (syllable h m v f t) i =
    let p = parted h m v f t i in
    rw (p.head, p.medials, p.vowel, p.tall, p.letter, p.second_letter, p.link, p.tone, medial_written m)

-- the bytes of a syllable of a row, by number
bytes_at : (f : Final) (row : Row) → T (is_row_after f row) → (k d : ℕ) → k < length row
    → bytes_by (get_or (map packed row) k d) ≡ record_of (get_or row k (bare 0x1000))
bytes_at f [] t k d h = absurd (not-suc-le-zero h)
bytes_at f (s ∷ row) t zero d h = bytes_packed s (first f s row t).is
bytes_at f (s ∷ row) t (suc k) d h = bytes_at (final_of s) row (first f s row t).rest k d (le_of_suc-le-suc h)

-- what is known of a word that is read
module _ (word : List ℕ) (reading : Reading) (right : ReadRight word (Ok reading)) (held : List ℕ) (e : held ≡ take reading.count reading.syllables) where
  -- the syllables that are read are those of the row
  pub held_row : held ≡ map packed right.answers.row
  held_row =
      let r = right.answers in
      e ∙ ap (take reading.count) (right.syllables r.row r.gives)
      ∙ take_at (map packed r.row) (replicate (limit - reading.count) 0) reading.count (length-map r.row packed ∙ r.count)

  pub held_count : length held ≡ reading.count
  held_count = ap length held_row ∙ length-map right.answers.row packed ∙ right.answers.count

  pub has_record : (k : ℕ) → k < length held → (d : ℕ) (bytes : List ℕ) → bytes ≡ bytes_by (get_or held k d) → HasRecord word k bytes
  has_record k h d bytes b =
      let r = right.answers in
      let below : k < length r.row = omega (arith, held_count, r.count) in
      record {
        admissible = r.admissible;
        row = r.row;
        gives = r.gives;
        below = below;
        is = b ∙ ap (λ (l : List ℕ). bytes_by (get_or l k d)) held_row ∙ bytes_at no_final r.row r.gives.is_row k d below;
      }

  pub no_record : (k : ℕ) → length held ≤ k → NoRecord word k no_bytes
  no_record k h =
      let r = right.answers in
      record { admissible = r.admissible; row = r.row; gives = r.gives; beyond = omega (arith, held_count, r.count); is = refl }

-- the same by the reading's own list, at whose front the row's syllables stand
module _ (word : List ℕ) (reading : Reading) (right : ReadRight word (Ok reading)) where
  pub record_found : (k : ℕ) → k < reading.count → (d : ℕ) (bytes : List ℕ) → bytes ≡ bytes_by (get_or reading.syllables k d) → HasRecord word k bytes
  record_found k h d bytes b =
      has_record word reading right _ refl k (omega (arith, h, held_count word reading right _ refl)) d bytes
      (b ∙ ap bytes_by (sym (get_or-take reading.count reading.syllables k d h)))

  pub record_missing : (k : ℕ) → reading.count ≤ k → NoRecord word k no_bytes
  record_missing k h = no_record word reading right _ refl k (omega (arith, h, held_count word reading right _ refl))
