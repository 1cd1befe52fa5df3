-- A value and its next one show whether a syllable begins there: a head or 103F never stands before 103A or 1039, a final letter
-- always does, and every other value of a part is a mark. Assumes nothing.
use mathlib.Core.Path.{◌≡◌, refl, ap, ◌∙◌}
use mathlib.Core.Bool.{Bool, true, false, not, ◌&&◌, ◌||◌}
use mathlib.Core.List.{List, [], ◌∷◌, ◌++◌, append_assoc}
use Prim.Native.Nat.{ℕ}
use lib.Dec.{T, eqb→eq}
use Rattle.letters.specs.Letters.{is_consonant, is_killer, is_stacker, is_great_sa}
use Rattle.letters.specs.Marks.{neither, ya, ra, MedialGroup, group, medial_text, Vowel, no_vowel, vowel_aa, vowel_i, vowel_ii, vowel_u, vowel_uu, vowel_e, vowel_ai, vowel_e_aa, vowel_e_aa_killer, vowel_am, vowel_i_u, vowel_u_am, vowel_text, ToneMark, no_tone, dot, visarga, tone_text}
use Rattle.letters.specs.Weights.{is_head, is_final_letter}
use Rattle.letters.proofs.Tests.{or_left}
use Rattle.formula.proofs.Lists.{both_left, both_right}
use Rattle.formula.specs.Syllable.{Final, no_final, plain, plain_pair, stacked, kinzi, great_sa, syllable, is_final, final_text, head_text}
use Rattle.formula.specs.Row.{Row, is_row_after, IsRow, parts_after, parts, join_after, join, Gives}
use Rattle.rows.specs.Begin.{no_beginnings, beginnings, makes_final, begins, first_value, local_beginnings}
use Rattle.rows.proofs.Sound.{apart}
use Rattle.rows.proofs.Complete.{final_consonant, first}

-- x is neither 103A nor 1039, so that it makes no final of the value before it
abbrev IsApart : ℕ → Type 0
IsApart x = T (not (makes_final x))

-- before the rest, no value of the piece begins a syllable, and the first value makes no final of the value before it
record Inside (piece rest : List ℕ) : Type 0 where
  none_begins : local_beginnings (piece ++ rest) ≡ no_beginnings piece ++ local_beginnings rest
  is_apart : IsApart (first_value (piece ++ rest))

-- two pieces, one after the other
no_beginnings_append : (a b : List ℕ) → no_beginnings (a ++ b) ≡ no_beginnings a ++ no_beginnings b
no_beginnings_append [] b = refl
no_beginnings_append (x ∷ a) b = ap (λ (l : List Bool). false ∷ l) (no_beginnings_append a b)

then_inside : (a b rest : List ℕ) → Inside a (b ++ rest) → Inside b rest → Inside (a ++ b) rest
then_inside a b rest i j =
    record {
      none_begins = rw (append_assoc, no_beginnings_append, append_assoc) (cc);
      is_apart = rw append_assoc i.is_apart;
    }

-- the pieces of a part that are marks: each mark fails the test, whatever comes next
medial_inside : (m : MedialGroup) (rest : List ℕ) → IsApart (first_value rest) → Inside (medial_text m) rest
medial_inside (group neither false false) rest a = record { none_begins = refl; is_apart = a }
medial_inside (group neither false true) rest a = record { none_begins = refl; is_apart = tt }
medial_inside (group neither true false) rest a = record { none_begins = refl; is_apart = tt }
medial_inside (group neither true true) rest a = record { none_begins = refl; is_apart = tt }
medial_inside (group ya false false) rest a = record { none_begins = refl; is_apart = tt }
medial_inside (group ya false true) rest a = record { none_begins = refl; is_apart = tt }
medial_inside (group ya true false) rest a = record { none_begins = refl; is_apart = tt }
medial_inside (group ya true true) rest a = record { none_begins = refl; is_apart = tt }
medial_inside (group ra false false) rest a = record { none_begins = refl; is_apart = tt }
medial_inside (group ra false true) rest a = record { none_begins = refl; is_apart = tt }
medial_inside (group ra true false) rest a = record { none_begins = refl; is_apart = tt }
medial_inside (group ra true true) rest a = record { none_begins = refl; is_apart = tt }

vowel_inside : (v : Vowel) (rest : List ℕ) → IsApart (first_value rest) → Inside (vowel_text v) rest
vowel_inside no_vowel rest a = record { none_begins = refl; is_apart = a }
vowel_inside (vowel_aa true) rest a = record { none_begins = refl; is_apart = tt }
vowel_inside (vowel_aa false) rest a = record { none_begins = refl; is_apart = tt }
vowel_inside vowel_i rest a = record { none_begins = refl; is_apart = tt }
vowel_inside vowel_ii rest a = record { none_begins = refl; is_apart = tt }
vowel_inside vowel_u rest a = record { none_begins = refl; is_apart = tt }
vowel_inside vowel_uu rest a = record { none_begins = refl; is_apart = tt }
vowel_inside vowel_e rest a = record { none_begins = refl; is_apart = tt }
vowel_inside vowel_ai rest a = record { none_begins = refl; is_apart = tt }
vowel_inside (vowel_e_aa true) rest a = record { none_begins = refl; is_apart = tt }
vowel_inside (vowel_e_aa false) rest a = record { none_begins = refl; is_apart = tt }
vowel_inside (vowel_e_aa_killer true) rest a = record { none_begins = refl; is_apart = tt }
vowel_inside (vowel_e_aa_killer false) rest a = record { none_begins = refl; is_apart = tt }
vowel_inside vowel_am rest a = record { none_begins = refl; is_apart = tt }
vowel_inside vowel_i_u rest a = record { none_begins = refl; is_apart = tt }
vowel_inside vowel_u_am rest a = record { none_begins = refl; is_apart = tt }

tone_inside : (t : ToneMark) (rest : List ℕ) → IsApart (first_value rest) → Inside (tone_text t) rest
tone_inside no_tone rest a = record { none_begins = refl; is_apart = a }
tone_inside dot rest a = record { none_begins = refl; is_apart = tt }
tone_inside visarga rest a = record { none_begins = refl; is_apart = tt }

-- a head is neither 103A nor 1039
neither_holds : (a b : Bool) → (T a → ⊥) → (T b → ⊥) → T (not (a || b))
neither_holds true b f g = f tt
neither_holds false true f g = g tt
neither_holds false false f g = tt

head_apart : (h : ℕ) → T (is_head h) → IsApart h
head_apart h i =
    neither_holds (is_killer h) (is_stacker h) (λ t. rw (eqb→eq h 0x103A t) at i) (λ t. rw (eqb→eq h 0x1039 t) at i)

-- a final letter is a C, and the value after it makes it final
made_final : (a b c : Bool) → T b → T c → a && not (b && c) ≡ false
made_final true true true t u = refl
made_final true true false t u = absurd u
made_final true false c t u = absurd t
made_final false b c t u = refl

letter_inside : (c next : ℕ) (rest : List ℕ) → T (is_final_letter c) → T (makes_final next) → begins next (first_value rest) ≡ false
    → Inside (c ∷ next ∷ []) rest
letter_inside c next rest i f n =
    let k : T (is_consonant c) = final_consonant c i in
    record {
      none_begins = cc (made_final (is_head c || is_great_sa c) (is_consonant c) (makes_final next) k f);
      is_apart = head_apart c (or_left (is_consonant c) _ k);
    }

final_inside : (f : Final) (rest : List ℕ) → T (is_final f) → IsApart (first_value rest) → Inside (final_text f) rest
final_inside no_final rest i a = record { none_begins = refl; is_apart = a }
final_inside (plain c) rest i a = letter_inside c 0x103A rest i tt refl
final_inside (plain_pair c d) rest i a =
    let second = letter_inside d 0x103A rest (both_right (is_final_letter c) (is_final_letter d) i) tt refl in
    then_inside (c ∷ 0x103A ∷ []) (d ∷ 0x103A ∷ []) rest
    (letter_inside c 0x103A (d ∷ 0x103A ∷ rest) (both_left (is_final_letter c) (is_final_letter d) i) tt refl) second
final_inside (stacked c) rest i a = letter_inside c 0x1039 rest (both_left (is_final_letter c) _ i) tt refl
final_inside kinzi rest i a = record { none_begins = refl; is_apart = tt }
final_inside great_sa rest i a = record { none_begins = refl; is_apart = a }

-- what holds of the head and of 103F holds of the head as it is written
pub on_head_lem : (P : ℕ → Type 0) (f : Final) (h : ℕ) → P h → P 0x103F → P (head_text f h)
on_head_lem P no_final h p q = p
on_head_lem P (plain c) h p q = p
on_head_lem P (plain_pair c d) h p q = p
on_head_lem P (stacked c) h p q = p
on_head_lem P kinzi h p q = p
on_head_lem P great_sa h p q = q

-- a head begins a syllable where the next value makes no final of it, and so does 103F
stays_head : (a b c d : Bool) → T a → T (not d) → (a || b) && not (c && d) ≡ true
stays_head true b true false t u = refl
stays_head true b true true t u = absurd u
stays_head true b false d t u = refl
stays_head false b c d t u = absurd t

head_begins : (f : Final) (h next : ℕ) → T (is_head h) → IsApart next → begins (head_text f h) next ≡ true
head_begins f h next i a =
    on_head_lem (λ (x : ℕ). begins x next ≡ true) f h (stays_head (is_head h) (is_great_sa h) (is_consonant h) (makes_final next) i a) refl

-- neither of the two makes a final of the value before it, so that no row begins with a value that does
row_apart : (f : Final) (row : Row) → T (is_row_after f row) → IsApart (first_value (join_after f row))
row_apart f [] q = tt
row_apart f (syllable h m v g t ∷ row) q =
    on_head_lem IsApart f h (head_apart h (apart h m v g t (first f (syllable h m v g t) row q).is).head) tt

-- what a part has after its head
rest_inside : (m : MedialGroup) (v : Vowel) (f : Final) (t : ToneMark) (rest : List ℕ) → T (is_final f) → IsApart (first_value rest)
    → Inside (medial_text m ++ (vowel_text v ++ (final_text f ++ tone_text t))) rest
rest_inside m v f t rest i a =
    let tone = tone_inside t rest a in
    let final = then_inside (final_text f) (tone_text t) rest (final_inside f (tone_text t ++ rest) i tone.is_apart) tone in
    let vowel = then_inside (vowel_text v) (final_text f ++ tone_text t) rest (vowel_inside v _ final.is_apart) final in
    then_inside (medial_text m) (vowel_text v ++ (final_text f ++ tone_text t)) rest (medial_inside m _ vowel.is_apart) vowel

begins_after : (f : Final) (row : Row) → T (is_row_after f row) → beginnings (parts_after f row) ≡ local_beginnings (join_after f row)
begins_after f [] q = refl
begins_after f (syllable h m v g t ∷ row) q =
    let r = first f (syllable h m v g t) row q in
    let p = apart h m v g t r.is in
    let i = rest_inside m v g t (join_after g row) p.final (row_apart g row r.rest) in
    cc (head_begins f h _ p.head i.is_apart, i.none_begins, begins_after g row r.rest)

-- the places at which the parts of a row begin, by the test at each place of the joined row
pub begins_local : (row : Row) → IsRow row → beginnings (parts row) ≡ local_beginnings (join row)
begins_local row q = begins_after no_final row q

-- the same by the word that a row gives
pub begin_at : (row : Row) (word : List ℕ) → Gives row word → beginnings (parts row) ≡ local_beginnings word
begin_at row word g = begins_local row g.is_row ∙ ap local_beginnings g.joined
