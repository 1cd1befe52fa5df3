-- Bytes that pass the tests are the records of the row that they are read as, and the records of a row pass them and are read as it.
-- Assumes nothing.
use mathlib.Core.Path.{◌≡◌, refl, ap, ◌∙◌}
use mathlib.Core.Bool.{Bool, true, false, ◌&&◌, ◌||◌}
use mathlib.Core.List.{List, [], ◌∷◌, ◌++◌}
use Prim.Native.Nat.{ℕ, zero, suc, ◌+◌, ◌-◌, ◌≤◌, ◌<◌}
use native.Mathlib.Omega.{arith}
use lib.Dec.{T}
use lib.ListN.{length, get_or, take, drop, length-append, length-drop, take-append-drop}
use lib.Seq.{length-take-le}
use Rattle.letters.specs.Weights.{is_final_letter}
use Rattle.formula.proofs.Lists.{both, both_left, both_right}
use Rattle.formula.proofs.Records.{record_length}
use Rattle.formula.specs.Limits.{record_size}
use Rattle.formula.specs.Syllable.{Final, no_final, plain, plain_pair, stacked, kinzi, great_sa, syllable, final_of, is_syllable, follows}
use Rattle.formula.specs.Row.{Row, is_row_after}
use Rattle.formula.specs.Record.{link_of, record_of, link_place, record_bytes}
use Rattle.rows.proofs.Sound.{apart}
use Rattle.rows.proofs.Complete.{first}
use Rattle.syllable_record.specs.Decode.{syllable_of}
use Rattle.syllable_record.specs.Record.{link_admits, is_record, may_follow}
use Rattle.syllable_record.proofs.Parts.{head_least, final_closed}
use Rattle.syllable_record.proofs.Decoded.{read, decoded}
use Rattle.writing.specs.Records.{row_of, are_records}
use Rattle.writing.proofs.Cutting.{row_next, records_next, records_whole, row_none, records_none}

or_false : (b : Bool) → (b || false) ≡ b
or_false true = refl
or_false false = refl

-- what a final asks of the next head, its link asks
pub link_admits_lem : (f : Final) (h : ℕ) → link_admits (link_of f) h ≡ follows f h
unfolding link_admits
link_admits_lem no_final h = refl
link_admits_lem (plain c) h = refl
link_admits_lem (plain_pair c d) h = refl
link_admits_lem (stacked c) h = or_false (is_final_letter h)
link_admits_lem kinzi h = or_false (is_final_letter h)
link_admits_lem great_sa h = refl

-- what bytes that pass the tests after a syllable with the final f are
pub record RowRead (f : Final) (bytes : List ℕ) : Type 0 where
  pub is_row : T (is_row_after f (row_of bytes))
  pub records : record_bytes (row_of bytes) ≡ bytes

-- one record, and what is behind it
read_next : (f : Final) (l : List ℕ) → 0 < length l → ((g : Final) → T (are_records (link_of g) (drop record_size l)) → RowRead g (drop record_size l))
    → T (are_records (link_of f) l) → RowRead f l
unfolding may_follow syllable_of
read_next f l some behind t =
    let whole : record_size ≤ length l = records_whole (link_of f) l t some in
    let next = take record_size l in
    let head = 0x1000 + get_or next 0 0 in
    let left = are_records (get_or next link_place 0) (drop record_size l) in
    let passed : T (may_follow (link_of f) next && left) = rw (records_next (link_of f) l whole) at t in
    let one : T (may_follow (link_of f) next) = both_left (may_follow (link_of f) next) left passed in
    let d = decoded next (length-take-le record_size l whole) (both_right (link_admits (link_of f) head) (is_record next) one) in
    let follow : T (follows f head) = rw (link_admits_lem f head) at (both_left (link_admits (link_of f) head) (is_record next) one) in
    let rest = behind (final_of (syllable_of next)) (rw d.linked (both_right (may_follow (link_of f) next) left passed)) in
    record {
      is_row = rw (row_next l whole) (both (follows f head) _ follow (both (is_syllable (syllable_of next)) _ d.is rest.is_row));
      records = ap record_bytes (row_next l whole) ∙ (λ i. d.records i ++ rest.records i) ∙ take-append-drop record_size l;
    }

read_none : (f : Final) → T (are_records (link_of f) []) → RowRead f []
read_none f t = record { is_row = rw (row_none, final_closed f) (rw records_none at t); records = ap record_bytes row_none }

read_within : (most : ℕ) (f : Final) (bytes : List ℕ) → length bytes ≤ most → T (are_records (link_of f) bytes) → RowRead f bytes
read_within zero f [] h t = read_none f t
read_within zero f (byte ∷ bytes) h t = let z : ⊥ = omega arith in absurd z
read_within (suc most) f [] h t = read_none f t
read_within (suc most) f (byte ∷ bytes) h t =
    let l = byte ∷ bytes in
    read_next f l (omega arith) (λ g. read_within most g (drop record_size l) (omega (arith, length-drop record_size l))) t

pub row_read : (f : Final) (bytes : List ℕ) → T (are_records (link_of f) bytes) → RowRead f bytes
row_read f bytes = read_within (length bytes) f bytes (omega arith)

-- the records of a row after a syllable with the final f
pub record RowWritten (f : Final) (row : Row) : Type 0 where
  pub are_records_lem : T (are_records (link_of f) (record_bytes row))
  pub back : row_of (record_bytes row) ≡ row

pub row_written : (f : Final) (row : Row) → T (is_row_after f row) → RowWritten f row
unfolding record_of may_follow
row_written f [] t = record { are_records_lem = rw (records_none, ← final_closed f) t; back = row_none }
row_written f (syllable h m v g t ∷ row) q =
    let s = syllable h m v g t in
    let one = record_of s in
    let p = first f s row q in
    let r = read s p.is in
    let rest = row_written g row p.rest in
    let least : 0x1000 ≤ h = head_least h (apart h m v g t p.is).head in
    let own : 0x1000 + (h - 0x1000) ≡ h = omega arith in
    let whole : record_size ≤ length (one ++ record_bytes row) = omega (arith, length-append one (record_bytes row), record_length s) in
    let follow : T (may_follow (link_of f) one) = both (link_admits (link_of f) (0x1000 + (h - 0x1000))) (is_record one) (rw (own, link_admits_lem f h) p.follow) r.passes in
    record {
      are_records_lem =
          rw (records_next (link_of f) (one ++ record_bytes row) whole)
          (both (may_follow (link_of f) one) (are_records (link_of g) (record_bytes row)) follow rest.are_records_lem);
      back = row_next (one ++ record_bytes row) whole ∙ (λ i. r.back i ∷ rest.back i);
    }
