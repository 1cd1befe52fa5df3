-- The pass that counts: the records so far pass the tests, and their values and those of what is left make the whole word.
-- Assumes nothing.
use mathlib.Core.Path.{◌≡◌, refl, ap, sym, ◌∙◌}
use mathlib.Core.Bool.{Bool, true, false, ◌&&◌}
use mathlib.Core.List.{List, [], ◌∷◌, map}
use Prim.Native.Nat.{ℕ, ◌+◌, ◌%◌, ◌≤◌, ◌<◌}
use native.Mathlib.Nat.{zero-add}
use native.Mathlib.Numerals.{add-one}
use native.Mathlib.Omega.{arith}
use lib.Dec.{eqb}
use lib.ListN.{length, get_or, drop, length-append, drop_of_length-le}
use lib.Seq.{drop-cons}
use borrow.Author.Tests.{eq-eqb, ne_eqb, le-leb, lt-leb}
use Rattle.letters.proofs.Picks.{pick_yes, pick_no, and_yes, and_no_left, and_no_right}
use Rattle.formula.specs.Limits.{limit, record_size}
use Rattle.formula.specs.Syllable.{Final, no_final, Syllable, syllable, final_of, part}
use Rattle.formula.specs.Row.{Row, join_after, join}
use Rattle.formula.specs.Record.{link_place}
use Rattle.syllable_record.specs.Decode.{syllable_of}
use Rattle.syllable_record.specs.Record.{may_follow}
use Rattle.syllable_text.specs.Part.{PartSize}
use Rattle.writing.specs.Records.{records_of, row_of, each_follows, are_records}
use Rattle.writing.specs.Size.{size_of}
use Rattle.std.specs.declared.option.Option.TheVariants.{None, Some}

-- the values of a row, of which there are as many whatever stands before it
size : Row → ℕ
size row = length (join_after no_final row)

size_after : (f : Final) (row : Row) → length (join_after f row) ≡ size row
unfolding size
size_after f [] = refl
size_after f (syllable h m v g t ∷ row) = refl

size_more : (s : Syllable) (row : Row) → size (s ∷ row) ≡ length (part no_final s) + size row
unfolding size
size_more s row =
    length-append (part no_final s) (join_after (final_of s) row) ∙ ap (λ (n : ℕ). length (part no_final s) + n) (size_after (final_of s) row)

-- the values of the records' syllables
pub values : List (List ℕ) → ℕ
values records = size (map syllable_of records)

-- at a place of the records: the tests from here on decide, and so many values are counted
pub record Measured (records : List (List ℕ)) (link count at : ℕ) : Type 0 where
  pub decided : each_follows 0 records ≡ each_follows link (drop at records)
  pub counted : values records ≡ count + values (drop at records)
  pub short : count ≤ limit

pub measured_none : (records : List (List ℕ)) → Measured records 0 0 0
measured_none records = record { decided = refl; counted = sym (zero-add (values records)); short = omega arith }

-- a list whose length is no multiple of eight
pub measured_uneven : (bytes : List ℕ) → 0 < length bytes % record_size → None ≡ size_of bytes
unfolding size_of are_records
measured_uneven bytes uneven =
    let left : length bytes % record_size ≡ 0 → ⊥ = λ e. omega arith in
    pick_no _ _ _ _ (and_no_left (are_records 0 bytes) _ (and_no_left (eqb (length bytes % record_size) 0) _ (ne_eqb (length bytes % record_size) 0 left))) refl

module _ (bytes : List ℕ) (records : List (List ℕ)) (cut : records ≡ records_of bytes) (even : length bytes % record_size ≡ 0) (link count at : ℕ) (p : Measured records link count at) where
  decided_all : are_records 0 bytes ≡ each_follows link (drop at records)
  unfolding are_records
  decided_all = rw (eq-eqb (length bytes % record_size) 0 even, ← cut) p.decided

  refused : each_follows link (drop at records) ≡ false → None ≡ size_of bytes
  unfolding size_of
  refused e = pick_no _ _ _ _ (and_no_left (are_records 0 bytes) _ (decided_all ∙ e)) refl

  -- all records are passed
  pub measured_open : length records ≤ at → 1 < link → None ≡ size_of bytes
  measured_open done waits = refused (ap (each_follows link) (drop_of_length-le records done) ∙ lt-leb link 1 waits)

  pub measured_all : length records ≤ at → link ≤ 1 → Some count ≡ size_of bytes
  unfolding size_of row_of values size
  measured_all done closed =
      let left : drop at records ≡ [] = drop_of_length-le records done in
      let counted : length (join (row_of bytes)) ≡ count = omega (arith, p.counted, ap values left, ap values cut) in
      let passed : are_records 0 bytes ≡ true = decided_all ∙ ap (each_follows link) left ∙ le-leb link 1 closed in
      pick_yes _ _ _ _ (and_yes (are_records 0 bytes) _ passed (le-leb (length (join (row_of bytes))) limit (omega (arith, p.short)))) (ap Some (sym counted))

  module _ (more : at < length records) where
    next : List ℕ
    next = get_or records at []

    left_here : drop at records ≡ next ∷ drop (at + 1) records
    unfolding next
    left_here = rw add-one (drop-cons records at [] more)

    here : each_follows link (drop at records) ≡ (may_follow link next && each_follows (get_or next link_place 0) (drop (at + 1) records))
    here = ap (each_follows link) left_here

    -- the record does not pass the tests
    pub measured_wrong : may_follow link (get_or records at []) ≡ false → None ≡ size_of bytes
    unfolding next
    measured_wrong e = refused (here ∙ and_no_left (may_follow link next) _ e)

    counted_more : (n : ℕ) → PartSize next n → values records ≡ (count + n) + values (drop (at + 1) records)
    unfolding values
    counted_more n s =
        omega (arith, p.counted, s.counted, ap values left_here, size_more (syllable_of next) (map syllable_of (drop (at + 1) records)))

    -- it has too many values
    pub measured_long : (n : ℕ) → PartSize (get_or records at []) n → limit < count + n → None ≡ size_of bytes
    unfolding size_of row_of values size next
    measured_long n s long = pick_no _ _ _ _ (and_no_right (are_records 0 bytes) _ (lt-leb (length (join (row_of bytes))) limit (omega (arith, counted_more n s, ap values cut)))) refl

    -- it is one more
    pub measured_more : (n : ℕ) → PartSize (get_or records at []) n → may_follow link (get_or records at []) ≡ true → count + n ≤ limit
        → Measured records (get_or (get_or records at []) link_place 0) (count + n) (at + 1)
    unfolding next
    measured_more n s e fits =
        record { decided = p.decided ∙ here ∙ ap (λ (b : Bool). b && each_follows (get_or next link_place 0) (drop (at + 1) records)) e; counted = counted_more n s; short = fits }
