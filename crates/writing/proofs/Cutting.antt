-- Bytes cut into records: with a whole record left the first bytes are one and the rest is read on, and with less there is no row.
-- Assumes nothing.
use mathlib.Core.Path.{◌≡◌, refl, ap}
use mathlib.Core.Bool.{Bool, true, false, ◌&&◌}
use mathlib.Core.List.{List, [], ◌∷◌, map}
use Prim.Native.Nat.{ℕ, suc, ◌/◌, ◌%◌, ◌≤◌, ◌<◌}
use native.Mathlib.Decide.{dec_lt}
use native.Mathlib.Omega.{arith}
use lib.Dec.{T, eqb, leb}
use lib.ListN.{length, get_or, take, drop, length-drop}
use borrow.Author.Tests.{ne_eqb}
use Rattle.letters.proofs.Picks.{and_no_left}
use Rattle.formula.specs.Limits.{record_size}
use Rattle.formula.specs.Record.{link_place}
use Rattle.syllable_record.specs.Decode.{syllable_of}
use Rattle.syllable_record.specs.Record.{may_follow}
use Rattle.std.specs.Simd.{first_chunks}
use Rattle.writing.specs.Records.{records_of, row_of, are_records}

records_of_next : (l : List ℕ) → record_size ≤ length l → records_of l ≡ take record_size l ∷ records_of (drop record_size l)
unfolding records_of
records_of_next l h =
    let one_more : length l / record_size ≡ suc (length (drop record_size l) / record_size) = omega (arith, length-drop record_size l) in
    ap (λ (n : ℕ). first_chunks record_size n l) one_more

pub row_next : (l : List ℕ) → record_size ≤ length l → row_of l ≡ syllable_of (take record_size l) ∷ row_of (drop record_size l)
unfolding row_of
row_next l h = ap (map syllable_of) (records_of_next l h)

first_second : (a b c : Bool) → (a && (b && c)) ≡ (b && (a && c))
first_second true true c = refl
first_second true false c = refl
first_second false true c = refl
first_second false false c = refl

pub records_next : (link : ℕ) (l : List ℕ) → record_size ≤ length l
    → are_records link l ≡ (may_follow link (take record_size l) && are_records (get_or (take record_size l) link_place 0) (drop record_size l))
unfolding are_records
records_next link l h =
    let same : length l % record_size ≡ length (drop record_size l) % record_size = omega (arith, length-drop record_size l) in
    rw (same, records_of_next l h) (first_second (eqb (length (drop record_size l) % record_size) 0) (may_follow link (take record_size l)) _)

pub records_short : (link : ℕ) (l : List ℕ) → 0 < length l → length l < record_size → are_records link l ≡ false
unfolding are_records
records_short link l some few =
    let left : length l % record_size ≡ 0 → ⊥ = λ e. omega arith in
    and_no_left (eqb (length l % record_size) 0) _ (ne_eqb (length l % record_size) 0 left)

-- records that are not at their end begin with a whole one
pub records_whole : (link : ℕ) (l : List ℕ) → T (are_records link l) → 0 < length l → record_size ≤ length l
records_whole link l t some = go (dec_lt (length l) record_size)
  where
    go : Dec (length l < record_size) → record_size ≤ length l
    go (yes few) = absurd (rw (records_short link l some few) at t)
    go (no enough) = omega arith

-- of no bytes
pub row_none : row_of [] ≡ []
unfolding row_of records_of
row_none = refl

pub records_none : (link : ℕ) → are_records link [] ≡ leb link 1
unfolding are_records records_of
records_none link = refl
