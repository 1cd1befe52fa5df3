-- The class that the kind of a value names has the value, since `kind_of` asks the classes one after the other.
-- Assumes nothing.
use mathlib.Core.Path.{◌≡◌, sym, subst, ◌∙◌}
use mathlib.Core.Bool.{Bool, true, false, ◌&&◌}
use Prim.Native.Nat.{ℕ, ◌≤◌}
use native.Mathlib.Omega.{arith}
use lib.Dec.{T, eqb, leb, eqb→eq, leb→le}
use Rattle.letters.specs.Choice.{pick}
use Rattle.letters.specs.Letters.{within, is_consonant, is_independent_vowel, is_medial, is_vowel_mark, is_tone, is_killer, is_stacker, is_great_sa, is_digit, is_stop, is_sign, kind_of}
use Rattle.letters.specs.Weights.{is_head}
use Rattle.letters.specs.declared.kind.Kind.{Kind}
use Rattle.letters.specs.declared.kind.Kind.TheVariants.{Consonant, IndependentVowel, Medial, VowelMark, Tone, Killer, Stacker, GreatSa, Digit, Stop, Sign, Foreign}
use Rattle.letters.proofs.Tests.{both_left, both_right, or_left, or_right, either, on_pick}

-- the class of a kind has the value x; of a foreign value nothing is asked
abbrev pub in_class : Kind → ℕ → Bool
in_class Consonant x = is_consonant x
in_class IndependentVowel x = is_independent_vowel x
in_class Medial x = is_medial x
in_class VowelMark x = is_vowel_mark x
in_class Tone x = is_tone x
in_class Killer x = is_killer x
in_class Stacker x = is_stacker x
in_class GreatSa x = is_great_sa x
in_class Digit x = is_digit x
in_class Stop x = is_stop x
in_class Sign x = is_sign x
in_class Foreign x = true

asked : (x : ℕ) (k j : Kind) → T (in_class j x) → T (in_class (pick (in_class k x) k j) x)
asked x k j t = on_pick (λ (i : Kind). T (in_class i x)) (in_class k x) k j (λ s. s) (λ _. t)

pub kind_class : (x : ℕ) → T (in_class (kind_of x) x)
kind_class x =
    asked x Consonant _
    (asked x IndependentVowel _
    (asked x Medial _
    (asked x VowelMark _
    (asked x Tone _
    (asked x Killer _
    (asked x Stacker _ (asked x GreatSa _ (asked x Digit _ (asked x Stop _ (asked x Sign Foreign tt))))))))))

-- the kinds of the values that begin a syllable as a letter
abbrev pub begins : Kind → Bool
begins Consonant = true
begins IndependentVowel = true
begins Medial = false
begins VowelMark = false
begins Tone = false
begins Killer = false
begins Stacker = false
begins GreatSa = false
begins Digit = true
begins Stop = true
begins Sign = true
begins Foreign = false

pub head_of_lem : (k : Kind) (x : ℕ) → T (in_class k x) → T (begins k) → T (is_head x)
head_of_lem Consonant x t b = or_left (is_consonant x) _ t
head_of_lem IndependentVowel x t b = or_right (is_consonant x) _ (or_left (is_independent_vowel x) _ t)
head_of_lem Medial x t b = absurd b
head_of_lem VowelMark x t b = absurd b
head_of_lem Tone x t b = absurd b
head_of_lem Killer x t b = absurd b
head_of_lem Stacker x t b = absurd b
head_of_lem GreatSa x t b = absurd b
head_of_lem Digit x t b = or_right (is_consonant x) _ (or_right (is_independent_vowel x) _ (or_left (is_digit x) _ t))
head_of_lem Stop x t b = or_right (is_consonant x) _ (or_right (is_independent_vowel x) _ (or_right (is_digit x) _ (or_left (is_stop x) _ t)))
head_of_lem Sign x t b = or_right (is_consonant x) _ (or_right (is_independent_vowel x) _ (or_right (is_digit x) _ (or_right (is_stop x) _ t)))
head_of_lem Foreign x t b = absurd b

-- a value of one of these kinds is a head
pub kind_head : (x : ℕ) → T (begins (kind_of x)) → T (is_head x)
kind_head x b = head_of_lem (kind_of x) x (kind_class x) b

pub within_bounds : (a b x : ℕ) → T (within a b x) → (a ≤ x) × (x ≤ b)
within_bounds a b x t = (leb→le a x (both_left (leb a x) (leb x b) t), leb→le x b (both_right (leb a x) (leb x b) t))

-- the chart of values
abbrev pub OnChart : ℕ → Type 0
OnChart x = (0x1000 ≤ x) × (x ≤ 0x104F)

-- a range of the chart
pub inside : (a b x : ℕ) → T (leb 0x1000 a && leb b 0x104F) → T (within a b x) → OnChart x
inside a b x s t =
    let l : 0x1000 ≤ a = leb→le 0x1000 a (both_left (leb 0x1000 a) (leb b 0x104F) s) in
    let u : b ≤ 0x104F = leb→le b 0x104F (both_right (leb 0x1000 a) (leb b 0x104F) s) in
    let h : (a ≤ x) × (x ≤ b) = within_bounds a b x t in
    omega arith

pub head_bounds : (x : ℕ) → T (is_head x) → OnChart x
head_bounds x t =
    either (OnChart x) (is_consonant x) _ (inside 0x1000 0x1021 x tt)
    (either (OnChart x) (is_independent_vowel x) _ (either (OnChart x) (within 0x1023 0x1027 x) _ (inside 0x1023 0x1027 x tt) (inside 0x1029 0x102A x tt))
    (either (OnChart x) (is_digit x) _ (inside 0x1040 0x1049 x tt) (either (OnChart x) (is_stop x) _ (inside 0x104A 0x104B x tt) (inside 0x104C 0x104F x tt))))
    t

-- the value that the code found to be of such a kind
pub kind_bounds : (r k : Kind) (x : ℕ) → r ≡ kind_of x → r ≡ k → T (begins k) → OnChart x
kind_bounds r k x c e b = head_bounds x (kind_head x (subst (λ (j : Kind). T (begins j)) (sym e ∙ c) b))

-- the vowel marks lie between these two values
pub mark_bounds : (x : ℕ) → T (is_vowel_mark x) → (0x102B ≤ x) × (x ≤ 0x103A)
mark_bounds x c =
    either ((0x102B ≤ x) × (x ≤ 0x103A)) (within 0x102B 0x1032 x) (eqb x 0x1036)
    (λ (s : T (within 0x102B 0x1032 x)). let r : (0x102B ≤ x) × (x ≤ 0x1032) = within_bounds 0x102B 0x1032 x s in omega arith)
    (λ (s : T (eqb x 0x1036)). let r : x ≡ 0x1036 = eqb→eq x 0x1036 s in omega arith) c
