-- A packed syllable is a sum of bytes, each below 256, so its parts are those that it was made of.
-- Assumes nothing.
use mathlib.Core.Path.{◌≡◌}
use mathlib.Core.Bool.{◌&&◌}
use Prim.Native.Nat.{ℕ, ◌-◌, ◌≤◌, ◌<◌}
use native.Mathlib.Omega.{arith}
use lib.Dec.{T, leb, leb→le}
use Rattle.letters.specs.Marks.{MedialGroup, Vowel, ToneMark, no_tone, dot, visarga}
use Rattle.letters.specs.Weights.{is_final_letter, final_number, medial_set, vowel_weight, vowel_tall, tone_weight}
use Rattle.formula.proofs.Classes.{within_bounds, head_bounds}
use Rattle.formula.proofs.Lists.{both_left, both_right}
use Rattle.formula.proofs.Pieces.{each_vowel, each_medial}
use Rattle.formula.specs.Syllable.{Final, no_final, plain, plain_pair, stacked, kinzi, great_sa, Syllable, syllable, is_final, is_syllable}
use Rattle.formula.specs.Record.{final_number_of, second_final_number_of, link_of}
use Rattle.formula.specs.Packed.{packed}
use Rattle.rows.proofs.Sound.{apart}
use Rattle.syllables.specs.Window.{packed_limit}
use Rattle.syllables.specs.Parts.{head_part, medial_part, final_part, link_part, vowel_part, tall_part, tone_part, second_final_part}

medial_small : (m : MedialGroup) → medial_set m ≤ 15
medial_small m = leb→le _ 15 (each_medial (λ (n : MedialGroup). leb (medial_set n) 15) tt m)

vowel_small : (v : Vowel) → (vowel_weight v ≤ 15) × (vowel_tall v ≤ 1)
vowel_small v =
    let t = each_vowel (λ (u : Vowel). leb (vowel_weight u) 15 && leb (vowel_tall u) 1) tt v in
    (leb→le _ 15 (both_left (leb (vowel_weight v) 15) _ t), leb→le _ 1 (both_right (leb (vowel_weight v) 15) _ t))

tone_small : (t : ToneMark) → tone_weight t ≤ 2
tone_small no_tone = omega arith
tone_small dot = omega arith
tone_small visarga = omega arith

letter_small : (c : ℕ) → T (is_final_letter c) → final_number c ≤ 33
letter_small c t = let b = within_bounds 0x1000 0x1020 c t in omega arith

final_small : (f : Final) → T (is_final f) → (final_number_of f ≤ 33) × (link_of f ≤ 3) × (second_final_number_of f ≤ 33)
final_small no_final t = (omega arith, omega arith, omega arith)
final_small (plain c) t = (letter_small c t, omega arith, omega arith)
final_small (plain_pair c d) t = (
  letter_small c (both_left (is_final_letter c) (is_final_letter d) t),
  omega arith,
  letter_small d (both_right (is_final_letter c) (is_final_letter d) t),
)
final_small (stacked c) t = (letter_small c (both_left (is_final_letter c) _ t), omega arith, omega arith)
final_small kinzi t = (omega arith, omega arith, omega arith)
final_small great_sa t = (omega arith, omega arith, omega arith)

-- each part of a syllable as its bytes have it
pub record Parted (s : Syllable) (h : ℕ) (m : MedialGroup) (v : Vowel) (f : Final) (t : ToneMark) : Type 0 where
  pub head : head_part (packed s) ≡ h - 0x1000
  pub medials : medial_part (packed s) ≡ medial_set m
  pub letter : final_part (packed s) ≡ final_number_of f
  pub link : link_part (packed s) ≡ link_of f
  pub vowel : vowel_part (packed s) ≡ vowel_weight v
  pub tall : tall_part (packed s) ≡ vowel_tall v
  pub tone : tone_part (packed s) ≡ tone_weight t
  pub second_letter : second_final_part (packed s) ≡ second_final_number_of f

module _ (h : ℕ) (m : MedialGroup) (v : Vowel) (f : Final) (t : ToneMark) (i : T (is_syllable (syllable h m v f t))) where
  pub packed_small : packed (syllable h m v f t) < packed_limit
  unfolding packed
  packed_small =
      let p = apart h m v f t i in
      let a = head_bounds h p.head in
      let b = medial_small m in
      let c = final_small f p.final in
      let d = vowel_small v in
      let e = tone_small t in
      omega arith

  pub parted : Parted (syllable h m v f t) h m v f t
  unfolding packed
  parted =
      let p = apart h m v f t i in
      let a = head_bounds h p.head in
      let b = medial_small m in
      let c = final_small f p.final in
      let d = vowel_small v in
      let e = tone_small t in
      record {
        head = omega arith;
        medials = omega arith;
        letter = omega arith;
        link = omega arith;
        vowel = omega arith;
        tall = omega arith;
        tone = omega arith;
        second_letter = omega arith;
      }
