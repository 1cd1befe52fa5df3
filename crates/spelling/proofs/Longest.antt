-- No word spells to more than three values for each of its own less two: a spelled syllable has at most two values more than its part, and the last has none.
-- Assumes nothing.
use mathlib.Core.Path.{◌≡◌, refl}
use mathlib.Core.List.{List, [], ◌∷◌, ◌++◌}
use Prim.Native.Nat.{ℕ, ◌+◌, ◌*◌, ◌-◌, ◌≤◌}
use native.Mathlib.Omega.{arith}
use lib.Dec.{T}
use lib.ListN.{length, replicate, length-append}
use Rattle.letters.specs.Marks.{no_medial, no_vowel, no_tone}
use Rattle.formula.specs.Limits.{limit}
use Rattle.formula.specs.Syllable.{Final, no_final, plain, plain_pair, stacked, kinzi, great_sa, Syllable, syllable, bare, final_of, carries_marks, carries_final, is_closed, final_text, part}
use Rattle.formula.specs.Row.{Row, is_row_after, IsRow, join_after, join, Gives}
use Rattle.formula.specs.Spelled.{spelled_final, spelled_of, spelled}
use Rattle.rows.proofs.Complete.{first}
use Rattle.spelling.specs.Spell.{joined, spelled_limit}

final_grows : (f : Final) → length (spelled_final f) ≤ length (final_text f) + 2
final_grows no_final = omega arith
final_grows (plain c) = omega arith
final_grows (plain_pair c d) = omega arith
final_grows (stacked c) = omega arith
final_grows kinzi = omega arith
final_grows great_sa = omega arith

final_closed : (f : Final) → T (is_closed f) → length (spelled_final f) ≡ length (final_text f)
final_closed no_final t = refl
final_closed (plain c) t = refl
final_closed (plain_pair c d) t = refl
final_closed (stacked c) t = absurd t
final_closed kinzi t = absurd t
final_closed great_sa t = absurd t

-- a syllable spelled, beside its part
record Grown (f : Final) (s : Syllable) : Type 0 where
  part_has : 1 ≤ length (part f s)
  grows : length (spelled_of s) ≤ length (part f s) + 2
  closed : T (is_closed (final_of s)) → length (spelled_of s) ≡ length (part f s)

grown : (f : Final) (s : Syllable) → Grown f s
grown f (syllable h m v g t) =
    record {
      part_has = omega arith;
      grows = simp length-append (omega (arith, final_grows g));
      closed = λ is. simp length-append (omega (arith, final_closed g is));
    }

spelled_bound : (f : Final) (s : Syllable) (row : Row) → T (is_row_after f (s ∷ row)) → length (joined (spelled (s ∷ row))) + 2 ≤ 3 * length (join_after f (s ∷ row))
spelled_bound f s [] is =
    let p = grown f s in
    let same = p.closed (first f s [] is).rest in
    omega (arith, p.part_has, length-append (spelled_of s) [], length-append (part f s) [])
spelled_bound f s (t ∷ row) is =
    let p = grown f s in
    omega (
      arith,
      p.part_has,
      p.grows,
      length-append (spelled_of s) (joined (spelled (t ∷ row))),
      length-append (part f s) (join_after (final_of s) (t ∷ row)),
      spelled_bound (final_of s) t row (first f s (t ∷ row) is).rest,
    )

-- no word within the limit spells to more values
pub spelled_within : (row : Row) → IsRow row → length (join row) ≤ limit → length (joined (spelled row)) ≤ spelled_limit
spelled_within [] is short = omega arith
spelled_within (s ∷ row) is short = omega (arith, spelled_bound no_final s row is)

-- the word that reaches it: 1000 and 63 times 103F
abbrev pub longest_word : List ℕ
longest_word = 0x1000 ∷ replicate (limit - 1) 0x103F

abbrev pub longest_row : Row
longest_row =
    syllable 0x1000 no_medial no_vowel great_sa no_tone ∷ (replicate (limit - 2) (syllable 0x101E no_medial no_vowel great_sa no_tone) ++ (bare 0x101E ∷ []))

pub record Reaches (row : Row) (word : List ℕ) (size : ℕ) : Type 0 where
  pub gives : Gives row word
  pub long : length word ≡ limit
  pub spells : length (joined (spelled row)) ≡ size

pub longest_reaches : Reaches longest_row longest_word 190
unfolding carries_marks carries_final
longest_reaches = record { gives = record { is_row = tt; joined = refl }; long = refl; spells = refl }

pub limit_reached : spelled_limit ≡ 190
limit_reached = refl
