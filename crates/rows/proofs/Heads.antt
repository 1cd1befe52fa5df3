-- Document 02, E2: "Their records may carry final, link and tone", and "The weights are those of the head plus final and tone", of every head that
-- carries no medial and no vowel. Assumes nothing.
use mathlib.Core.Path.{◌≡◌}
use mathlib.Core.Bool.{false, ◌&&◌}
use mathlib.Core.List.{[], ◌∷◌}
use Prim.Native.Nat.{ℕ, ◌-◌}
use native.Mathlib.Nat.{add-zero}
use lib.Dec.{T}
use Rattle.letters.specs.Marks.{MedialGroup, no_medial, Vowel, no_vowel, ToneMark}
use Rattle.letters.specs.Weights.{head_weight, independent_vowel_weight, tone_weight}
use Rattle.letters.proofs.Tests.{or_second}
use Rattle.formula.proofs.Lists.{both_left, both_right}
use Rattle.formula.proofs.Pieces.{no_medial_is, no_vowel_is}
use Rattle.formula.specs.Syllable.{Final, syllable, carries_marks, is_no_medial, is_no_vowel, is_syllable}
use Rattle.formula.specs.Record.{final_number_of, second_final_number_of, link_of, record_of}
use Rattle.formula.specs.Weighing.{final_weight_of, second_final_weight_of, weights_of}
use Rattle.rows.proofs.Sound.{apart}

module _ (h : ℕ) (m : MedialGroup) (v : Vowel) (f : Final) (t : ToneMark) (ok : T (is_syllable (syllable h m v f t))) (e : carries_marks h ≡ false) where
  marks : T (is_no_medial m && is_no_vowel v)
  marks = or_second (carries_marks h) (is_no_medial m && is_no_vowel v) e (apart h m v f t ok).marks

  no_marks : (m ≡ no_medial) × (v ≡ no_vowel)
  no_marks = (no_medial_is m (both_left (is_no_medial m) (is_no_vowel v) marks), no_vowel_is v (both_right (is_no_medial m) (is_no_vowel v) marks))

  pub unmarked_record : record_of (syllable h m v f t) ≡ (h - 0x1000) ∷ 0 ∷ 0 ∷ 0 ∷ final_number_of f ∷ second_final_number_of f ∷ link_of f ∷ tone_weight t ∷ []
  unfolding record_of
  unmarked_record = rw (no_marks.0, no_marks.1)

  pub unmarked_weights : weights_of (syllable h m v f t) ≡ head_weight h ∷ 0 ∷ final_weight_of f ∷ second_final_weight_of f ∷ independent_vowel_weight h ∷ tone_weight t ∷ []
  unfolding weights_of
  unmarked_weights = rw (no_marks.0, no_marks.1, add-zero (independent_vowel_weight h))
