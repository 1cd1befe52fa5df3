-- No skeleton of a label has more than 73 values: 1029 alone becomes two, it stands at the head of a syllable of at most six values, and any other syllable
-- has at most twelve; so the bound goes by how many syllables begin with 1029.
-- Assumes nothing.
use mathlib.Core.Path.{◌≡◌, refl, sym, ap, subst, ◌∙◌}
use mathlib.Core.Bool.{Bool, true, false, not, ◌&&◌, ◌||◌}
use mathlib.Core.List.{List, [], ◌∷◌, ◌++◌}
use Prim.Native.Nat.{ℕ, zero, suc, ◌+◌, ◌*◌, ◌≤◌}
use native.Mathlib.Decide.{ℕ_discrete}
use native.Mathlib.Omega.{arith}
use borrow.Author.Tests.{eq-eqb, ne_eqb}
use lib.Dec.{T, eqb, leb, leb→le}
use lib.ListN.{length, replicate, length-append}
use Rattle.letters.specs.Choice.{pick}
use Rattle.letters.specs.Marks.{group, ya, MedialGroup, no_medial, medial_text, Vowel, no_vowel, vowel_e_aa, vowel_text, ToneMark, no_tone, dot, visarga, tone_text}
use Rattle.letters.specs.Weights.{is_head, is_final_letter}
use Rattle.formula.specs.Limits.{limit, label_limit}
use Rattle.formula.specs.Syllable.{Final, no_final, plain, plain_pair, stacked, kinzi, great_sa, Syllable, syllable, final_of, carries_marks, carries_final, is_no_medial, is_no_vowel, is_final, is_syllable, final_text, head_text, part}
use Rattle.formula.specs.Row.{Row, is_row_after, IsRow, join_after, join}
use Rattle.formula.proofs.Classes.{within_bounds}
use Rattle.formula.proofs.Lists.{every, both, both_left, both_right}
use Rattle.formula.proofs.Pieces.{each_vowel, each_medial, no_medial_is, no_vowel_is}
use Rattle.rows.proofs.Complete.{first}
use Rattle.skeletons.specs.Skeleton.{replaced, skeleton_of, skeleton_most, largest, skeleton_limit_within, skeleton_limit}
use Rattle.skeletons.proofs.Replacing.{one_value, two_values}
use Rattle.skeletons.proofs.Filling.{skeleton_append}

-- a value that does not become two
abbrev keeps : ℕ → Bool
keeps x = not (eqb x 0x1029)

keeps_size : (x : ℕ) → T (keeps x) → length (replaced x) ≡ 1
keeps_size x t = ap length (one_value x (λ (e : x ≡ 0x1029). subst (λ (b : Bool). T (not b)) (eq-eqb x 0x1029 e) t))

other_keeps : (x : ℕ) → (x ≡ 0x1029 → ⊥) → T (keeps x)
other_keeps x n = subst (λ (b : Bool). T (not b)) (sym (ne_eqb x 0x1029 n)) tt

-- values of which none does have a skeleton of their own size
all_keep : (l : List ℕ) → T (every keeps l) → length (skeleton_of l) ≡ length l
all_keep [] t = refl
all_keep (x ∷ l) t =
    omega (arith, length-append (replaced x) (skeleton_of l), keeps_size x (both_left (keeps x) _ t), all_keep l (both_right (keeps x) _ t))

even_append : (a b : List ℕ) → length (skeleton_of a) ≡ length a → length (skeleton_of b) ≡ length b → length (skeleton_of (a ++ b)) ≡ length (a ++ b)
even_append a b e f =
    omega (arith, ap length (skeleton_append a b), length-append (skeleton_of a) (skeleton_of b), length-append a b)

letter_keeps : (c : ℕ) → T (is_final_letter c) → T (keeps c)
letter_keeps c t = let h = within_bounds 0x1000 0x1020 c t in other_keeps c (λ (e : c ≡ 0x1029). omega arith)

final_keeps : (g : Final) → T (is_final g) → T (every keeps (final_text g))
final_keeps no_final t = tt
final_keeps (plain c) t = both (keeps c) true (letter_keeps c t) tt
final_keeps (plain_pair c d) t =
    both (keeps c) (keeps d && true) (letter_keeps c (both_left (is_final_letter c) _ t)) (both (keeps d) true (letter_keeps d (both_right (is_final_letter c) _ t)) tt)
final_keeps (stacked c) t = both (keeps c) true (letter_keeps c (both_left (is_final_letter c) _ t)) tt
final_keeps kinzi t = tt
final_keeps great_sa t = tt

tone_keeps : (t : ToneMark) → T (every keeps (tone_text t))
tone_keeps no_tone = tt
tone_keeps dot = tt
tone_keeps visarga = tt

-- what follows a head
module _ (m : MedialGroup) (v : Vowel) (g : Final) (t : ToneMark) where
  abbrev tail : List ℕ
  tail = medial_text m ++ (vowel_text v ++ (final_text g ++ tone_text t))

  tail_even : T (is_final g) → length (skeleton_of tail) ≡ length tail
  tail_even is =
      even_append (medial_text m) _ (all_keep (medial_text m) (each_medial (λ (n : MedialGroup). every keeps (medial_text n)) tt m))
      (even_append (vowel_text v) _ (all_keep (vowel_text v) (each_vowel (λ (u : Vowel). every keeps (vowel_text u)) tt v))
      (even_append (final_text g) (tone_text t) (all_keep (final_text g) (final_keeps g is)) (all_keep (tone_text t) (tone_keeps t))))

tone_short : (t : ToneMark) → length (tone_text t) ≤ 1
tone_short no_tone = omega arith
tone_short dot = omega arith
tone_short visarga = omega arith

final_short : (g : Final) → length (final_text g) ≤ 4
final_short no_final = omega arith
final_short (plain x) = omega arith
final_short (plain_pair x y) = omega arith
final_short (stacked x) = omega arith
final_short kinzi = omega arith
final_short great_sa = omega arith

-- a medial group and a vowel have at most three values each
medial_short : (m : MedialGroup) → length (medial_text m) ≤ 3
medial_short m = leb→le (length (medial_text m)) 3 (each_medial (λ (n : MedialGroup). leb (length (medial_text n)) 3) tt m)

vowel_short : (v : Vowel) → length (vowel_text v) ≤ 3
vowel_short v = leb→le (length (vowel_text v)) 3 (each_vowel (λ (u : Vowel). leb (length (vowel_text u)) 3) tt v)

tail_short : (m : MedialGroup) (v : Vowel) (g : Final) (t : ToneMark) → length (tail m v g t) ≤ 11
tail_short m v g t = simp length-append (omega (arith, medial_short m, vowel_short v, final_short g, tone_short t))

-- 1029 carries no medial and no vowel
unmarked_short : (m : MedialGroup) (v : Vowel) (g : Final) (t : ToneMark) → T (is_no_medial m && is_no_vowel v) → length (tail m v g t) ≤ 5
unmarked_short m v g t none =
    rw (no_medial_is m (both_left (is_no_medial m) _ none), no_vowel_is v (both_right (is_no_medial m) _ none))
    (omega (arith, length-append (final_text g) (tone_text t), final_short g, tone_short t))

-- the head that becomes two is written as itself
headed : (f : Final) (h : ℕ) → head_text f h ≡ 0x1029 → h ≡ 0x1029
headed no_final h e = e
headed (plain c) h e = e
headed (plain_pair c d) h e = e
headed (stacked c) h e = e
headed kinzi h e = e
headed great_sa h e = let z : ⊥ = omega arith in absurd z

-- a part keeps its size, or it has one value more and is short
data Sized (f : Final) (s : Syllable) : Type 0 where
  kept : length (skeleton_of (part f s)) ≡ length (part f s) → length (part f s) ≤ 12 → Sized f s
  grown : length (skeleton_of (part f s)) ≡ suc (length (part f s)) → length (part f s) ≤ 6 → Sized f s

sized : (f : Final) (s : Syllable) → T (is_syllable s) → Sized f s
unfolding carries_marks
sized f (syllable h m v g t) is =
    let rest = both_right (is_head h) _ is in
    let marks = both_left (carries_marks h || (is_no_medial m && is_no_vowel v)) _ rest in
    let later = both_right (carries_marks h || (is_no_medial m && is_no_vowel v)) _ rest in
    let final = both_left (is_final g) _ (both_right (carries_final h || _) _ later) in
    go (ℕ_discrete (head_text f h) 0x1029) marks (tail_even m v g t final)
  where
    go : Dec (head_text f h ≡ 0x1029) → T (carries_marks h || (is_no_medial m && is_no_vowel v)) → length (skeleton_of (tail m v g t)) ≡ length (tail m v g t)
        → Sized f (syllable h m v g t)
    go (yes e) marks even =
        let none = subst (λ (x : ℕ). T (carries_marks x || (is_no_medial m && is_no_vowel v))) (headed f h e) marks in
        grown (omega (arith, length-append (replaced (head_text f h)) (skeleton_of (tail m v g t)), ap length (two_values (head_text f h) e)))
        (omega (arith, unmarked_short m v g t none))
    go (no n) marks even =
        kept (omega (arith, length-append (replaced (head_text f h)) (skeleton_of (tail m v g t)), ap length (one_value (head_text f h) n)))
        (omega (arith, tail_short m v g t))

-- a row by how many of its syllables begin with 1029, and how many do not
record Counted (f : Final) (row : Row) : Type 0 where
  doubled : ℕ
  others : ℕ
  all : doubled + others ≡ length row
  grows : length (skeleton_of (join_after f row)) ≡ length (join_after f row) + doubled
  short : length (join_after f row) ≤ 6 * doubled + 12 * others

module _ (f : Final) (s : Syllable) (row : Row) where
  sum : length (join_after f (s ∷ row)) ≡ length (part f s) + length (join_after (final_of s) row)
  sum = length-append (part f s) (join_after (final_of s) row)

  skeleton_sum : length (skeleton_of (join_after f (s ∷ row))) ≡ length (skeleton_of (part f s)) + length (skeleton_of (join_after (final_of s) row))
  skeleton_sum =
      ap length (skeleton_append (part f s) (join_after (final_of s) row)) ∙ length-append (skeleton_of (part f s)) (skeleton_of (join_after (final_of s) row))

  counted_on : Sized f s → Counted (final_of s) row → Counted f (s ∷ row)
  counted_on (kept e h) c = record {
    doubled = c.doubled;
    others = suc c.others;
    all = omega (arith, c.all);
    grows = omega (arith, sum, skeleton_sum, c.grows);
    short = omega (arith, sum, c.short);
  }
  counted_on (grown e h) c = record {
    doubled = suc c.doubled;
    others = c.others;
    all = omega (arith, c.all);
    grows = omega (arith, sum, skeleton_sum, c.grows);
    short = omega (arith, sum, c.short);
  }

counted : (f : Final) (row : Row) → T (is_row_after f row) → Counted f row
counted f [] is = record { doubled = 0; others = 0; all = refl; grows = refl; short = omega arith }
counted f (s ∷ row) is = let p = first f s row is in counted_on f s row (sized f s p.is) (counted (final_of s) row p.rest)

larger_over : (f : ℕ → ℕ) (n k : ℕ) → (k ≤ n → f k ≤ largest f n) → k ≤ suc n → Dec (k ≡ suc n) → f k ≤ largest f (suc n)
larger_over f n k below h (yes e) = rw e (omega arith)
larger_over f n k below h (no other) = let rest : f k ≤ largest f n = below (omega arith) in omega arith

largest_over : (f : ℕ → ℕ) (n k : ℕ) → k ≤ n → f k ≤ largest f n
largest_over f zero k h = let z : k ≡ zero = omega arith in rw z (omega arith)
largest_over f (suc n) k h = larger_over f n k (largest_over f n k) h (ℕ_discrete k (suc n))

-- so a row within the limits of a word and of a label has a skeleton within its own
pub skeleton_within : (most : ℕ) (row : Row) → IsRow row → length (join row) ≤ most → length row ≤ label_limit
    → length (skeleton_of (join row)) ≤ skeleton_limit_within most
skeleton_within most row is short few =
    let c = counted no_final row is in
    let bound : length (skeleton_of (join row)) ≤ skeleton_most most c.doubled = omega (arith, c.all, c.grows, c.short) in
    omega (arith, largest_over (skeleton_most most) label_limit c.doubled (omega (arith, c.all)))

-- the word that reaches it: nine syllables of 1029 with two finals and a tone, and one of ten values
abbrev pub longest_row : Row
longest_row =
    replicate 9 (syllable 0x1029 no_medial no_vowel (plain_pair 0x1000 0x1010) dot)
    ++ (syllable 0x1000 (group ya true true) (vowel_e_aa false) (plain_pair 0x1000 0x1010) no_tone ∷ [])

pub record Reaches (row : Row) (size : ℕ) : Type 0 where
  pub is_row : IsRow row
  pub long : length (join row) ≡ limit
  pub syllables : length row ≡ label_limit
  pub skeleton : length (skeleton_of (join row)) ≡ size

pub longest_reaches : Reaches longest_row 73
unfolding carries_marks carries_final replaced pick
longest_reaches = record { is_row = tt; long = refl; syllables = refl; skeleton = refl }

pub limit_reached : skeleton_limit ≡ 73
limit_reached = refl

-- where words may have 128 values, ten syllables bound it
limit_of_ten : skeleton_limit_within 128 ≡ 120
limit_of_ten = refl
