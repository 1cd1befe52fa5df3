-- The texts behind a head: they are few values, and with the head they are the part.
-- Assumes nothing.
use mathlib.Core.Path.{◌≡◌, refl, ap, sym, ◌∙◌}
use mathlib.Core.Bool.{Bool, true, false}
use mathlib.Core.List.{List, [], ◌∷◌, ◌++◌, append-nil}
use Prim.Native.Nat.{ℕ, ◌+◌, ◌≤◌}
use native.Mathlib.Omega.{arith}
use lib.ListN.{length, get_or, length-append}
use Rattle.std.specs.List.{concat}
use Rattle.letters.specs.Choice.{pick}
use Rattle.letters.specs.Marks.{YaRa, neither, ya, ra, MedialGroup, group, optional, ya_ra_text, medial_text, Vowel, no_vowel, vowel_aa, vowel_i, vowel_ii, vowel_u, vowel_uu, vowel_e, vowel_ai, vowel_e_aa, vowel_e_aa_killer, vowel_am, vowel_i_u, vowel_u_am, vowel_text, ToneMark, no_tone, dot, visarga, tone_text}
use Rattle.formula.specs.Syllable.{Final, no_final, plain, plain_pair, stacked, kinzi, great_sa, Syllable, syllable, head_of, final_text, part}
use Rattle.syllable_record.specs.Decode.{syllable_of}
use Rattle.syllable_text.specs.Part.{head_after, part_after}

optional_short : (b : Bool) (x : ℕ) → length (optional b x) ≤ 1
optional_short true x = omega arith
optional_short false x = omega arith

ya_ra_short : (m : YaRa) → length (ya_ra_text m) ≤ 1
ya_ra_short neither = omega arith
ya_ra_short ya = omega arith
ya_ra_short ra = omega arith

pub medial_short : (m : MedialGroup) → length (medial_text m) ≤ 3
medial_short (group y w h) =
    simp length-append (omega (arith, ya_ra_short y, optional_short w 0x103D, optional_short h 0x103E))

pub vowel_short : (v : Vowel) → length (vowel_text v) ≤ 3
vowel_short no_vowel = omega arith
vowel_short (vowel_aa tall) = omega arith
vowel_short vowel_i = omega arith
vowel_short vowel_ii = omega arith
vowel_short vowel_u = omega arith
vowel_short vowel_uu = omega arith
vowel_short vowel_e = omega arith
vowel_short vowel_ai = omega arith
vowel_short (vowel_e_aa tall) = omega arith
vowel_short (vowel_e_aa_killer tall) = omega arith
vowel_short vowel_am = omega arith
vowel_short vowel_i_u = omega arith
vowel_short vowel_u_am = omega arith

pub final_short : (f : Final) → length (final_text f) ≤ 4
final_short no_final = omega arith
final_short (plain c) = omega arith
final_short (plain_pair c d) = omega arith
final_short (stacked c) = omega arith
final_short kinzi = omega arith
final_short great_sa = omega arith

pub tone_short : (t : ToneMark) → length (tone_text t) ≤ 1
tone_short no_tone = omega arith
tone_short dot = omega arith
tone_short visarga = omega arith

-- what stands behind the head: the texts of the medial group, the vowel, the final and the tone
abbrev pub texts_of : Syllable → List (List ℕ)
texts_of (syllable h m v f t) = medial_text m ∷ vowel_text v ∷ final_text f ∷ tone_text t ∷ []

-- the texts of a syllable's marks have at most eleven values
pub texts_short : (s : Syllable) → length (concat (texts_of s)) ≤ 11
texts_short (syllable h m v f t) =
    simp length-append (omega (arith, medial_short m, vowel_short v, final_short f, tone_short t))

-- behind the head they are the part
part_texts : (link : ℕ) (s : Syllable) → part_after link s ≡ head_after link (head_of s) ∷ concat (texts_of s)
unfolding part_after
part_texts link (syllable h m v f t) =
    ap (λ (tone : List ℕ). head_after link h ∷ (medial_text m ++ (vowel_text v ++ (final_text f ++ tone)))) (sym (append-nil (tone_text t)))

part_behind_none : (s : Syllable) → part no_final s ≡ part_after 0 s
unfolding part_after head_after pick
part_behind_none (syllable h m v f t) = refl

-- the part of a record's syllable
pub record_part : (link : ℕ) (bytes : List ℕ) → part_after link (syllable_of bytes) ≡ head_after link (0x1000 + get_or bytes 0 0) ∷ concat (texts_of (syllable_of bytes))
unfolding syllable_of
record_part link bytes = part_texts link (syllable_of bytes)

-- the head and the texts are the part without the part before it
pub part_length : (s : Syllable) → length (part no_final s) ≡ 1 + length (concat (texts_of s))
part_length s = omega (arith, ap length (part_behind_none s ∙ part_texts 0 s))
