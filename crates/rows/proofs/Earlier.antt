-- What document 02, E2 and E5, add to the rows of document 01, and that they take nothing away: a row of an earlier edition is a row, and the only one
-- that gives its word.
-- Assumes nothing.
use mathlib.Core.Path.{◌≡◌, refl, sym, subst}
use mathlib.Core.Bool.{Bool, true, false, ◌&&◌, ◌||◌}
use mathlib.Core.List.{List, [], ◌∷◌, ◌++◌}
use Prim.Native.Nat.{ℕ, ◌≤◌, ◌<◌}
use native.Mathlib.Decide.{dec_lt}
use native.Mathlib.Omega.{arith}
use lib.Dec.{T, eqb}
use lib.ListN.{length, take}
use Rattle.letters.specs.Letters.{is_consonant, is_independent_vowel}
use Rattle.letters.specs.Marks.{MedialGroup, Vowel, ToneMark}
use Rattle.letters.specs.Weights.{is_head}
use Rattle.formula.proofs.Lists.{both, both_left, both_right}
use Rattle.formula.specs.Syllable.{Final, no_final, Syllable, syllable, head_of, final_of, carries_marks, carries_final, is_no_medial, is_no_vowel, is_no_final, is_no_tone, is_final, takes_tone, is_syllable, follows}
use Rattle.formula.specs.Row.{Row, is_row_of, IsRow, Gives, Viable, LongestViable}
use Rattle.formula.specs.Earlier.{Edition, base, independent_finals, is_single, is_syllable_in, IsRowIn, GivesIn}
use Rattle.rows.proofs.Viable.{only_row}

-- the tests of both: a head, a C, no medial, no vowel, neither final nor tone, an I or 104E, one final at most, and a final that goes with the tone
tests : (head c m v bare i one fits : Bool)
    → (head && ((c || (m && (v && bare))) && (one && fits))) ≡ ((head && ((c || (m && v)) && (((c || i) || bare) && fits))) && ((c || bare) && one))
tests false c m v bare i one fits = refl
tests true true m v bare i true true = refl
tests true true m v bare i true false = refl
tests true true m v bare i false true = refl
tests true true m v bare i false false = refl
tests true false false v bare i one fits = refl
tests true false true false bare i one fits = refl
tests true false true true true true true true = refl
tests true false true true true true true false = refl
tests true false true true true true false true = refl
tests true false true true true true false false = refl
tests true false true true true false true true = refl
tests true false true true true false true false = refl
tests true false true true true false false true = refl
tests true false true true true false false false = refl
tests true false true true false true one true = refl
tests true false true true false true one false = refl
tests true false true true false false one fits = refl

-- what an edition asks of a syllable beside being one of today: in 01 that its head is a C, or that it has neither a final nor a tone
abbrev pub asks : Edition → ℕ → Final → ToneMark → Bool
asks base h f t = (is_consonant h || (is_no_final f && is_no_tone t)) && is_single f
asks independent_finals h f t = is_single f

pub earlier_exactly : (edition : Edition) (h : ℕ) (m : MedialGroup) (v : Vowel) (f : Final) (t : ToneMark)
    → is_syllable_in edition (syllable h m v f t) ≡ (is_syllable (syllable h m v f t) && asks edition h f t)
unfolding is_syllable_in carries_marks carries_final
earlier_exactly base h m v f t =
    tests (is_head h) (is_consonant h) (is_no_medial m) (is_no_vowel v) (is_no_final f && is_no_tone t) (is_independent_vowel h || eqb h 0x104E) (is_single f)
    (is_final f && takes_tone f t)
earlier_exactly independent_finals h m v f t = refl

-- a row of syllables that pass one test is a row of such as pass a wider one
pub row_widens : (narrow wide : Syllable → Bool) → ((s : Syllable) → T (narrow s) → T (wide s)) → (f : Final) (row : Row) → T (is_row_of narrow f row) → T (is_row_of wide f row)
row_widens narrow wide w f [] q = q
row_widens narrow wide w f (s ∷ row) q =
    let rest : T (narrow s && is_row_of narrow (final_of s) row) = both_right (follows f (head_of s)) _ q in
    both (follows f (head_of s)) _ (both_left (follows f (head_of s)) _ q)
    (both (wide s) _ (w s (both_left (narrow s) _ rest)) (row_widens narrow wide w (final_of s) row (both_right (narrow s) _ rest)))

module _ (edition : Edition) where
  pub earlier_syllable : (s : Syllable) → T (is_syllable_in edition s) → T (is_syllable s)
  earlier_syllable (syllable h m v f t) i = both_left (is_syllable (syllable h m v f t)) _ (subst T (earlier_exactly edition h m v f t) i)

  -- a row of the edition is a row
  pub earlier_row : (row : Row) → IsRowIn edition row → IsRow row
  earlier_row row q = row_widens (is_syllable_in edition) is_syllable earlier_syllable no_final row q

  -- it gives what it gave
  pub earlier_gives : (row : Row) (word : List ℕ) → GivesIn edition row word → Gives row word
  earlier_gives row word g = record { is_row = earlier_row row g.is_row; joined = g.joined }

  -- and no row of today gives the word beside it
  pub earlier_only : (row other : Row) (word : List ℕ) → GivesIn edition row word → Gives other word → other ≡ row
  earlier_only row other word g h = only_row other row word h (earlier_gives row word g)

  -- what a row of the edition continues, a row of today continues
  pub earlier_viable : (row : Row) (word continuation : List ℕ) → GivesIn edition row (word ++ continuation) → Viable word
  earlier_viable row word continuation g = record { continuation = continuation; by = row; gives = earlier_gives row (word ++ continuation) g }

  -- so no longest beginning is shorter than it was
  pub earlier_place : (word continuation : List ℕ) (row : Row) (was place : ℕ) → was ≤ length word → GivesIn edition row (take was word ++ continuation)
      → LongestViable word place → was ≤ place
  earlier_place word continuation row was place within g l = go (dec_lt place was)
    where
      go : Dec (place < was) → was ≤ place
      go (yes h) = absurd (l.longest was h within (earlier_viable row (take was word) continuation g))
      go (no n) = omega arith

-- a row of 01 is one of before E5
pub base_syllable_since : (s : Syllable) → T (is_syllable_in base s) → T (is_syllable_in independent_finals s)
base_syllable_since (syllable h m v f t) i =
    let q : T (is_syllable (syllable h m v f t) && asks base h f t) = subst T (earlier_exactly base h m v f t) i in
    subst T (sym (earlier_exactly independent_finals h m v f t))
    (both (is_syllable (syllable h m v f t)) (is_single f) (both_left (is_syllable (syllable h m v f t)) _ q)
    (both_right (is_consonant h || (is_no_final f && is_no_tone t)) (is_single f) (both_right (is_syllable (syllable h m v f t)) _ q)))

pub base_row_since : (row : Row) → IsRowIn base row → IsRowIn independent_finals row
base_row_since row q = row_widens (is_syllable_in base) (is_syllable_in independent_finals) base_syllable_since no_final row q
