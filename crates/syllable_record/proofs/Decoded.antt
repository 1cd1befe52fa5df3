-- A record and its syllable: reading a syllable's record gives the syllable, and bytes that pass the tests are the record of what is read.
-- Assumes nothing.
use mathlib.Core.Path.{◌≡◌}
use mathlib.Core.Bool.{◌||◌}
use mathlib.Core.List.{List}
use Prim.Native.Nat.{ℕ, ◌+◌, ◌-◌, ◌≤◌}
use native.Mathlib.Omega.{arith}
use lib.Dec.{T, eqb, leb}
use lib.ListN.{length, get_or}
use Rattle.letters.specs.Weights.{tone_weight}
use Rattle.formula.proofs.Lists.{both, both_left, both_right}
use Rattle.formula.specs.Syllable.{Syllable, syllable, final_of, is_syllable}
use Rattle.formula.specs.Limits.{record_size}
use Rattle.formula.specs.Record.{link_of, record_of, link_place}
use Rattle.rows.proofs.Sound.{apart, together}
use Rattle.syllable_record.specs.Decode.{medial_of_weight, vowel_of_weight, final_of_numbers, tone_of_weight, syllable_of}
use Rattle.syllable_record.specs.Record.{is_tone_number, is_record}
use Rattle.syllable_record.proofs.Places.{all_of}
use Rattle.syllable_record.proofs.Parts.{tested, test_passes, head_least, medial_read, medial_weighs, vowel_read, vowel_weighs, final_read, final_absent, final_closed, final_numbers, tone_read, tone_weighs}

-- a syllable's record passes the tests, and is read as the syllable
pub record Read (s : Syllable) : Type 0 where
  pub passes : T (is_record (record_of s))
  pub back : syllable_of (record_of s) ≡ s

pub read : (s : Syllable) → T (is_syllable s) → Read s
unfolding record_of syllable_of is_tone_number
read (syllable h m v f t) q =
    let p = apart h m v f t q in
    let least : 0x1000 ≤ h = head_least h p.head in
    let own : 0x1000 + (h - 0x1000) ≡ h = omega arith in
    record {
      passes =
          test_passes _ _ _ _ _ _ _ _
          (record {
            head_test = rw own p.head;
            medial_test = (medial_read m).passes;
            vowel_test = (vowel_read v).passes;
            final_test = (final_read f p.final).passes;
            second_final_test = (final_read f p.final).second_passes;
            tone_test = both (leb (tone_weight t) 2) (leb (link_of f) 1 || eqb (tone_weight t) 0) (tone_read t).passes (rw (← final_closed f, ← (tone_read t).absent) p.tone);
            marks_test = rw (own, ← (medial_read m).absent, ← (vowel_read v).absent) p.marks;
            closing_test = rw (own, ← final_absent f, ← (tone_read t).absent) p.closing;
          });
      back = rw (own, (medial_read m).back, (vowel_read v).back, (final_read f p.final).back, (tone_read t).back);
    }

-- a record's bytes that pass the tests are the record of the syllable that they are read as
pub record Decoded (bytes : List ℕ) : Type 0 where
  pub is : T (is_syllable (syllable_of bytes))
  pub records : record_of (syllable_of bytes) ≡ bytes
  pub linked : link_of (final_of (syllable_of bytes)) ≡ get_or bytes link_place 0

pub decoded : (bytes : List ℕ) → length bytes ≡ record_size → T (is_record bytes) → Decoded bytes
unfolding record_of syllable_of is_record is_tone_number
decoded bytes size t =
    let head = get_or bytes 0 0 in
    let medial = get_or bytes 1 0 in
    let vowel = get_or bytes 2 0 in
    let tall = get_or bytes 3 0 in
    let letter = get_or bytes 4 0 in
    let second = get_or bytes 5 0 in
    let link = get_or bytes link_place 0 in
    let tone = get_or bytes 7 0 in
    let p = tested head medial vowel tall letter second link tone t in
    let final = final_numbers letter second link p.final_test p.second_final_test in
    let vowels = vowel_weighs vowel tall p.vowel_test in
    let medials = medial_weighs medial p.medial_test in
    let tones = tone_weighs tone (both_left (leb tone 2) _ p.tone_test) in
    record {
      is =
          together (0x1000 + head) (medial_of_weight medial) (vowel_of_weight vowel (eqb tall 1)) (final_of_numbers letter second link) (tone_of_weight tone)
          (record {
            head = p.head_test;
            marks = rw ((medial_read (medial_of_weight medial)).absent, (vowel_read (vowel_of_weight vowel (eqb tall 1))).absent, medials, vowels.0) p.marks_test;
            closing = rw (final_absent (final_of_numbers letter second link), (tone_read (tone_of_weight tone)).absent, final.linked, tones) p.closing_test;
            final = final.is;
            tone =
                rw (final_closed (final_of_numbers letter second link), (tone_read (tone_of_weight tone)).absent, final.linked, tones)
                (both_right (leb tone 2) _ p.tone_test);
          });
      records =
          let own : 0x1000 + head - 0x1000 ≡ head = omega arith in
          rw (own, medials, vowels.0, vowels.1, final.numbered, final.second_numbered, final.linked, tones) (all_of record_size bytes size);
      linked = final.linked;
    }
