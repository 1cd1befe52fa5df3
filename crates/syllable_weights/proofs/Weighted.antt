-- The weights of a packed syllable are the formula's: its parts give a head's value and a set of medials back, and a final weighs its number.
-- Assumes nothing.
use mathlib.Core.Path.{◌≡◌, ap}
use mathlib.Core.List.{List, [], ◌∷◌}
use Prim.Native.Nat.{ℕ, suc, ◌+◌, ◌-◌}
use native.Mathlib.Omega.{arith}
use lib.Dec.{T, eqb, eqb→eq}
use lib.ListN.{get_or, set}
use lib.Seq.{sets}
use Rattle.letters.specs.Choice.{pick}
use Rattle.letters.specs.Marks.{MedialGroup}
use Rattle.letters.specs.Weights.{is_head, head_weight, independent_vowel_weight, medial_set, medial_weight, medial_table}
use Rattle.formula.proofs.Classes.{head_bounds}
use Rattle.formula.proofs.Pieces.{each_medial}
use Rattle.formula.proofs.Weighing.{final_weighs, second_weighs}
use Rattle.formula.specs.Syllable.{Syllable, syllable, is_syllable}
use Rattle.formula.specs.Packed.{packed}
use Rattle.formula.specs.Weighing.{weights_of}
use Rattle.rows.proofs.Sound.{apart}
use Rattle.syllables.specs.Parts.{head_part, medial_part, final_part, vowel_part, tone_part, second_final_part}
use Rattle.syllables.proofs.Parted.{parted}
use Rattle.syllable_weights.specs.Weights.{weights_by}

head_back : (h : ℕ) → T (is_head h) → 0x1000 + (h - 0x1000) ≡ h
head_back h t = let l = (head_bounds h t).0 in omega arith

-- the table has the weight of each group
medial_looked : (m : MedialGroup) → get_or medial_table (medial_set m) 0 ≡ medial_weight m
unfolding pick
medial_looked m = eqb→eq _ _ (each_medial (λ (n : MedialGroup). eqb (get_or medial_table (medial_set n) 0) (medial_weight n)) tt m)

-- the weights of a packed syllable are those of the syllable
pub weights_packed : (s : Syllable) → T (is_syllable s) → weights_by (packed s) ≡ weights_of s
unfolding weights_by weights_of
weights_packed (syllable h m v f t) ok =
    let a = apart h m v f t ok in
    let p = parted h m v f t ok in
    rw (
      p.head,
      head_back h a.head,
      p.medials,
      medial_looked m,
      p.letter,
      final_weighs f,
      p.second_letter,
      second_weighs f,
      p.vowel,
      p.tone,
    )

-- the six weights, each by its part
pub looked_up : (packed h m v head medial letter second own tone : ℕ) → h ≡ head_part packed → head ≡ head_weight (0x1000 + h) → m ≡ medial_part packed
    → medial ≡ get_or medial_table m 0 → letter ≡ final_part packed → second ≡ second_final_part packed → own ≡ independent_vowel_weight (0x1000 + h) → v ≡ vowel_part packed
    → tone ≡ tone_part packed → head ∷ medial ∷ letter ∷ second ∷ (own + v) ∷ tone ∷ [] ≡ weights_by packed
unfolding weights_by
looked_up packed h m v head medial letter second own tone a b c d e s f j k = cc

-- six stores one after the other
pub stores_six : (l : List ℕ) (at head medial final second vowel tone packed : ℕ)
    → head ∷ medial ∷ final ∷ second ∷ vowel ∷ tone ∷ [] ≡ weights_by packed
    → set (set (set (set (set (set l at head) (at + 1) medial) (at + 2) final) (at + 3) second) (at + 4) vowel) (at + 5) tone ≡ sets l at (weights_by packed)
stores_six l at head medial final second vowel tone packed e =
    let one : at + 1 ≡ suc at = omega arith in
    let two : at + 2 ≡ suc (suc at) = omega arith in
    let three : at + 3 ≡ suc (suc (suc at)) = omega arith in
    let four : at + 4 ≡ suc (suc (suc (suc at))) = omega arith in
    let five : at + 5 ≡ suc (suc (suc (suc (suc at)))) = omega arith in
    rw (one, two, three, four, five) (ap (sets l at) e)
