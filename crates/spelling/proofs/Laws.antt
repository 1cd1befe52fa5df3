-- Each spelled syllable is a word by itself, since a plain final asks nothing of what follows, and it stands where its start says.
-- Assumes nothing.
use mathlib.Core.Path.{◌≡◌, refl, ap, sym, ◌∙◌}
use mathlib.Core.List.{List, [], ◌∷◌, ◌++◌, append-nil, append_assoc}
use Prim.Native.Nat.{ℕ, zero, suc, ◌+◌, ◌<◌}
use native.Mathlib.Nat.{le_of_suc-le-suc, not-suc-le-zero}
use native.Mathlib.Omega.{arith}
use lib.Dec.{T}
use lib.ListN.{length, get_or, take, drop, length-append}
use lib.Seq.{take_at, drop-append_seam}
use Rattle.formula.proofs.Lists.{both}
use Rattle.formula.specs.Syllable.{Final, no_final, plain, plain_pair, stacked, kinzi, great_sa, Syllable, syllable, bare, final_of, is_closed, is_syllable, part}
use Rattle.formula.specs.Row.{Row, is_row_after, IsRow, Gives}
use Rattle.formula.specs.Record.{final_number_of, second_final_number_of}
use Rattle.formula.specs.Spelled.{spelled_of, spelled}
use Rattle.rows.proofs.Complete.{first}
use Rattle.recogniser.specs.Answer.{Reads}
use Rattle.recogniser.proofs.Answered.{row_reads}
use Rattle.spelling.specs.Spell.{joined, starts_from, spelled_starts}
use Rattle.spelling.specs.Plain.{plain_final, plain_of}
use Rattle.spelling.proofs.Plains.{plain_syllable, plain_part, spelled_small}

-- the syllable with another final
abbrev pub with_final : Syllable → Final → Syllable
with_final (syllable h m v f t) g = syllable h m v g t

-- the word is one syllable with the same head, medial group, vowel and tone, and with a final of the same letters
pub record Alone (s : Syllable) (word : List ℕ) : Type 0 where
  pub final : Final
  pub letter : final_number_of final ≡ final_number_of (final_of s)
  pub second_letter : second_final_number_of final ≡ second_final_number_of (final_of s)
  pub gives : Gives (with_final s final ∷ []) word
  pub reads : Reads word 1

plain_letter : (f : Final) → final_number_of (plain_final f) ≡ final_number_of f
plain_letter no_final = refl
plain_letter (plain c) = refl
plain_letter (plain_pair c d) = refl
plain_letter (stacked c) = refl
plain_letter kinzi = refl
plain_letter great_sa = refl

plain_second_letter : (f : Final) → second_final_number_of (plain_final f) ≡ second_final_number_of f
plain_second_letter no_final = refl
plain_second_letter (plain c) = refl
plain_second_letter (plain_pair c d) = refl
plain_second_letter (stacked c) = refl
plain_second_letter kinzi = refl
plain_second_letter great_sa = refl

plain_closes : (f : Final) → T (is_closed (plain_final f))
plain_closes no_final = tt
plain_closes (plain c) = tt
plain_closes (plain_pair c d) = tt
plain_closes (stacked c) = tt
plain_closes kinzi = tt
plain_closes great_sa = tt

spelled_alone : (s : Syllable) → T (is_syllable s) → Alone s (spelled_of s)
spelled_alone (syllable h m v f t) is =
    let s = syllable h m v f t in
    let gives : Gives (plain_of s ∷ []) (spelled_of s) =
    record {
      is_row = both (is_syllable (plain_of s)) (is_closed (plain_final f)) (plain_syllable s is) (plain_closes f);
      joined = append-nil (part no_final (plain_of s)) ∙ plain_part s;
    } in
    record {
      final = plain_final f;
      letter = plain_letter f;
      second_letter = plain_second_letter f;
      gives = gives;
      reads = row_reads (plain_of s ∷ []) (spelled_of s) gives (omega (arith, spelled_small s));
    }

alone_after : (f : Final) (row : Row) → T (is_row_after f row) → (number : ℕ) → number < length row
    → Alone (get_or row number (bare 0x1000)) (get_or (spelled row) number [])
alone_after f [] is number below = absurd (not-suc-le-zero below)
alone_after f (s ∷ row) is zero below = spelled_alone s (first f s row is).is
alone_after f (s ∷ row) is (suc number) below = alone_after (final_of s) row (first f s row is).rest number (le_of_suc-le-suc below)

-- each spelled syllable is a readable word of one syllable
pub syllables_alone : (row : Row) → IsRow row → (number : ℕ) → number < length row → Alone (get_or row number (bare 0x1000)) (get_or (spelled row) number [])
syllables_alone row is number below = alone_after no_final row is number below

-- a part begins as many values after the first as there are before it
begins_from : (place : ℕ) (parts : List (List ℕ)) (number : ℕ) → number < length parts → (before : List ℕ) → length before ≡ place
    → take (length (get_or parts number [])) (drop (get_or (starts_from place parts) number 0) (before ++ joined parts)) ≡ get_or parts number []
begins_from place [] number below before e = absurd (not-suc-le-zero below)
begins_from place (part ∷ parts) zero below before e =
    ap (λ (l : List ℕ). take (length part) l) (rw (← e) (drop-append_seam before (part ++ joined parts))) ∙ take_at part (joined parts) (length part) refl
begins_from place (part ∷ parts) (suc number) below before e =
    ap (λ (l : List ℕ). take (length (get_or parts number [])) (drop (get_or (starts_from (place + length part) parts) number 0) l)) (sym (append_assoc before part (joined parts)))
    ∙ begins_from (place + length part) parts number (le_of_suc-le-suc below) (before ++ part) (length-append before part ∙ ap (λ (n : ℕ). n + length part) e)

-- each spelled syllable stands in the joined values from its start on
pub starts_begin : (parts : List (List ℕ)) (number : ℕ) → number < length parts
    → take (length (get_or parts number [])) (drop (get_or (spelled_starts parts) number 0) (joined parts)) ≡ get_or parts number []
starts_begin parts number below = begins_from 0 parts number below [] refl
