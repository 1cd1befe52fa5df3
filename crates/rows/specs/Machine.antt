-- The row read so far, last syllable first, and what one value more makes of it. A device of proofs and of inner contracts:
-- no public promise cites it. Assumes nothing.
use Rattle.std.specs.Prelude.{Bool, true, false, not, ◌&&◌, List, [], ◌∷◌, ◌++◌, ℕ, T, eqb}
use Rattle.std.proofs.Math.Option.{Option, none, some}
use Rattle.letters.specs.Letters.{kind_of}
use Rattle.letters.specs.Kinds.{by_kind}
use Rattle.letters.specs.Marks.{MedialGroup, medial_groups, medial_text, Vowel, vowels, vowel_text, ToneMark, tone_marks, tone_text}
use Rattle.letters.specs.Weights.{is_final_letter}
use Rattle.letters.specs.declared.kind.Kind.{Kind}
use Rattle.formula.specs.Lists.{same_list}
use Rattle.formula.specs.Syllable.{Final, no_final, plain, plain_pair, stacked, kinzi, great_sa, Syllable, syllable, bare, head_of, final_of, carries_marks, carries_final, is_no_medial, is_no_vowel, is_no_final, is_no_tone, is_closed, is_syllable, follows, part}
use Rattle.formula.specs.Row.{Row}

abbrev pub first_of : {A : Type 0} → Bool → A → Option A → Option A
first_of true a o = some a
first_of false a o = o

-- the piece among these that is written with these values
abbrev pub written_as : {A : Type 0} → (A → List ℕ) → List A → List ℕ → Option A
written_as text [] values = none
written_as text (piece ∷ pieces) values = first_of (same_list (text piece) values) piece (written_as text pieces values)

-- the medial group with x more, the vowel with x more, the tone x
abbrev pub medial_and : ℕ → MedialGroup → Option MedialGroup
medial_and x m = written_as medial_text medial_groups (medial_text m ++ (x ∷ []))

abbrev pub vowel_and : ℕ → Vowel → Option Vowel
vowel_and x v = written_as vowel_text vowels (vowel_text v ++ (x ∷ []))

abbrev pub tone_of : ℕ → Option ToneMark
tone_of x = written_as tone_text tone_marks (x ∷ [])

abbrev pub when : Bool → Option Row → Option Row
when true o = o
when false o = none

abbrev pub onto : {A : Type 0} → (A → Row) → Option A → Option Row
onto f none = none
onto f (some a) = some (f a)

-- the final of the syllable on top
abbrev pub end_of : Row → Final
end_of [] = no_final
end_of (s ∷ kept) = final_of s

-- what is kept is a row but for a last final that waits
abbrev pub KeptOk : Row → Type 0
KeptOk [] = Unit {0}
KeptOk (s ∷ kept) = T (follows (end_of kept) (head_of s)) × T (is_syllable s) × KeptOk kept

-- the values that what is kept was read from
abbrev pub kept_join : Row → List ℕ
kept_join [] = []
kept_join (s ∷ kept) = kept_join kept ++ part (end_of kept) s

-- 103F is read as a final and a head at once, so the final on top is never great sa
abbrev pub is_not_great_sa : Final → Bool
is_not_great_sa no_final = true
is_not_great_sa (plain c) = true
is_not_great_sa (plain_pair c d) = true
is_not_great_sa (stacked c) = true
is_not_great_sa kinzi = true
is_not_great_sa great_sa = false

-- no final and no tone yet
abbrev pub is_open : Final → ToneMark → Bool
is_open f t = is_no_final f && is_no_tone t

-- a head alone
abbrev pub is_bare : MedialGroup → Vowel → Final → ToneMark → Bool
is_bare m v f t = is_no_medial m && (is_no_vowel v && is_open f t)

-- the value x may begin a syllable as a letter
abbrev pub admits : Final → ℕ → Bool
admits no_final x = true
admits (plain c) x = true
admits (plain_pair c d) x = true
admits (stacked c) x = is_final_letter x
admits kinzi x = is_final_letter x
admits great_sa x = false

abbrev pub step_head : ℕ → Row → Option Row
step_head x kept = when (admits (end_of kept) x) (some (bare x ∷ kept))

abbrev pub step_medial : ℕ → Row → Option Row
step_medial x [] = none
step_medial x (syllable h m v f t ∷ kept) =
    when (carries_marks h && (is_no_vowel v && is_open f t)) (onto (λ (n : MedialGroup). syllable h n v f t ∷ kept) (medial_and x m))

abbrev pub step_vowel : ℕ → Row → Option Row
step_vowel x [] = none
step_vowel x (syllable h m v f t ∷ kept) = when (carries_marks h && is_open f t) (onto (λ (n : Vowel). syllable h m n f t ∷ kept) (vowel_and x v))

abbrev pub step_tone : ℕ → Row → Option Row
step_tone x [] = none
step_tone x (syllable h m v f t ∷ kept) =
    when (carries_final h && (is_closed f && is_no_tone t)) (onto (λ (n : ToneMark). syllable h m v f n ∷ kept) (tone_of x))

abbrev pub step_great_sa : Row → Option Row
step_great_sa [] = none
step_great_sa (syllable h m v f t ∷ kept) = when (carries_final h && is_open f t) (some (bare 0x101E ∷ syllable h m v great_sa t ∷ kept))

-- the final with the plain letter c more, the first or the second; with the stacked letter c more, the only one
abbrev pub plain_and : ℕ → Final → Option Final
plain_and c no_final = some (plain c)
plain_and c (plain b) = some (plain_pair b c)
plain_and c (plain_pair b d) = none
plain_and c (stacked b) = none
plain_and c kinzi = none
plain_and c great_sa = none

abbrev pub stacked_and : ℕ → Final → Option Final
stacked_and c no_final = some (stacked c)
stacked_and c (plain b) = none
stacked_and c (plain_pair b d) = none
stacked_and c (stacked b) = none
stacked_and c kinzi = none
stacked_and c great_sa = none

-- the letter that stood on top is one more in the final of the syllable before
abbrev pub close : (Final → Option Final) → Row → Option Row
close more [] = none
close more (syllable h m v f t ∷ kept) = when (carries_final h && is_no_tone t) (onto (λ (g : Final). syllable h m v g t ∷ kept) (more f))

-- 103A ends a vowel, or makes the letter on top a final
abbrev pub killed : Option Vowel → Syllable → Row → Option Row
killed none (syllable h m v f t) kept = when (is_bare m v f t && is_final_letter h) (close (plain_and h) kept)
killed (some n) (syllable h m v f t) kept = when (carries_marks h && is_open f t) (some (syllable h m n f t ∷ kept))

abbrev pub step_killer : Row → Option Row
step_killer [] = none
step_killer (syllable h m v f t ∷ kept) = killed (vowel_and 0x103A v) (syllable h m v f t) kept

-- 1039 makes the letter on top a stacked final, or a plain 1004 kinzi
abbrev pub stacks : Final → Syllable → Row → Option Row
stacks no_final (syllable h m v f t) kept = when (is_bare m v f t && (is_final_letter h && not (eqb h 0x1004))) (close (stacked_and h) kept)
stacks (plain c) (syllable h m v f t) kept = when (eqb c 0x1004 && is_no_tone t) (some (syllable h m v kinzi t ∷ kept))
stacks (plain_pair c d) s kept = none
stacks (stacked c) s kept = none
stacks kinzi s kept = none
stacks great_sa s kept = none

abbrev pub step_stacker : Row → Option Row
step_stacker [] = none
step_stacker (syllable h m v f t ∷ kept) = stacks f (syllable h m v f t) kept

-- the value x, of this kind
abbrev pub act : Kind → ℕ → Row → Option Row
act kind x kept =
    by_kind
    (record {
      head = step_head x kept;
      medial = step_medial x kept;
      vowel = step_vowel x kept;
      tone = step_tone x kept;
      killer = step_killer kept;
      stacker = step_stacker kept;
      great_sa = step_great_sa kept;
      foreign = none;
    })
    kind

abbrev pub step : Row → ℕ → Option Row
step kept x = act (kind_of x) x kept

abbrev pub and_then : Option Row → (Row → Option Row) → Option Row
and_then none f = none
and_then (some kept) f = f kept

abbrev pub run : List ℕ → Row → Option Row
run [] kept = some kept
run (x ∷ w) kept = and_then (step kept x) (run w)
