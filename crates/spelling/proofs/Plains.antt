-- A syllable whose final is made plain is a syllable, its part is the spelled syllable, and its record is the syllable's with a plain link.
-- Assumes nothing.
use mathlib.Core.Path.{◌≡◌, refl, ap, ◌∙◌}
use mathlib.Core.Bool.{false, ◌&&◌}
use mathlib.Core.List.{List, [], ◌∷◌, map}
use Prim.Native.Nat.{ℕ, ◌≤◌}
use native.Mathlib.Omega.{arith}
use lib.Dec.{T}
use lib.ListN.{length, length-append}
use Rattle.letters.specs.Choice.{pick}
use Rattle.letters.specs.Weights.{is_final_letter}
use Rattle.letters.specs.Marks.{MedialGroup, Vowel, ToneMark}
use Rattle.letters.proofs.Tests.{either}
use Rattle.formula.proofs.Lists.{both_left}
use Rattle.formula.specs.Syllable.{Final, no_final, plain, plain_pair, stacked, kinzi, great_sa, Syllable, syllable, final_of, carries_final, is_no_final, is_no_tone, is_syllable, part}
use Rattle.formula.specs.Row.{Row, is_row_after}
use Rattle.formula.specs.Record.{record_of}
use Rattle.formula.specs.Packed.{packed}
use Rattle.formula.specs.Spelled.{spelled_of, spelled}
use Rattle.rows.proofs.Sound.{apart, reclosed}
use Rattle.rows.proofs.Complete.{first}
use Rattle.reading.specs.Records.{bytes_by}
use Rattle.reading.proofs.Recorded.{bytes_packed}
use Rattle.syllable_record.specs.Decode.{syllable_of}
use Rattle.syllable_text.specs.Part.{head_after, part_after}
use Rattle.syllable_record.proofs.Decoded.{read}
use Rattle.syllable_text.proofs.Texts.{medial_short, vowel_short, final_short, tone_short}
use Rattle.spelling.specs.Plain.{plain_of, plain_bytes, spelled_by}

-- a plain final asks for no more than the final does
plain_closed : (h : ℕ) (m : MedialGroup) (v : Vowel) (f : Final) (t : ToneMark) (c : ℕ) → T (is_final_letter c) → is_no_final f ≡ false
    → T (is_syllable (syllable h m v f t)) → T (is_syllable (syllable h m v (plain c) t))
plain_closed h m v f t c letter some q =
    let carries : T (carries_final h) =
    either (T (carries_final h)) (carries_final h) (is_no_final f && is_no_tone t) (λ g. g) (λ g. absurd (rw some at g)) (apart h m v f t q).closing in
    reclosed h m v f (plain c) t t carries letter tt q

pub plain_syllable : (s : Syllable) → T (is_syllable s) → T (is_syllable (plain_of s))
plain_syllable (syllable h m v no_final t) q = q
plain_syllable (syllable h m v (plain c) t) q = q
plain_syllable (syllable h m v (plain_pair c d) t) q = q
plain_syllable (syllable h m v (stacked c) t) q =
    plain_closed h m v (stacked c) t c (both_left (is_final_letter c) _ (apart h m v (stacked c) t q).final) refl q
plain_syllable (syllable h m v kinzi t) q = plain_closed h m v kinzi t 0x1004 tt refl q
plain_syllable (syllable h m v great_sa t) q = plain_closed h m v great_sa t 0x101E tt refl q

-- the part of the syllable with the plain final is the spelled syllable
pub plain_part : (s : Syllable) → part no_final (plain_of s) ≡ spelled_of s
plain_part (syllable h m v no_final t) = refl
plain_part (syllable h m v (plain c) t) = refl
plain_part (syllable h m v (plain_pair c d) t) = refl
plain_part (syllable h m v (stacked c) t) = refl
plain_part (syllable h m v kinzi t) = refl
plain_part (syllable h m v great_sa t) = refl

-- its record has the letter's number and a plain link
plain_record : (s : Syllable) → plain_bytes (record_of s) ≡ record_of (plain_of s)
unfolding record_of
plain_record (syllable h m v no_final t) = refl
plain_record (syllable h m v (plain c) t) = refl
plain_record (syllable h m v (plain_pair c d) t) = refl
plain_record (syllable h m v (stacked c) t) = refl
plain_record (syllable h m v kinzi t) = refl
plain_record (syllable h m v great_sa t) = refl

-- a packed syllable is spelled as the formula says
spelled_by_lem : (s : Syllable) → T (is_syllable s) → spelled_by (packed s) ≡ spelled_of s
unfolding spelled_by
spelled_by_lem s q =
    ap (λ (l : List ℕ). part no_final (syllable_of (plain_bytes l))) (bytes_packed s q)
    ∙ ap (λ (l : List ℕ). part no_final (syllable_of l)) (plain_record s) ∙ ap (part no_final) (read (plain_of s) (plain_syllable s q)).back ∙ plain_part s

pub spelled_row : (f : Final) (row : Row) → T (is_row_after f row) → map spelled_by (map packed row) ≡ spelled row
spelled_row f [] t = refl
spelled_row f (s ∷ row) t =
    let p = first f s row t in
    let here : spelled_by (packed s) ≡ spelled_of s = spelled_by_lem s p.is in
    let rest : map spelled_by (map packed row) ≡ spelled row = spelled_row (final_of s) row p.rest in
    rw (here, rest)

-- what is written for such a record with nothing before it
part_first : (s : Syllable) → part_after 0 s ≡ part no_final s
unfolding part_after head_after pick
part_first (syllable h m v f t) = refl

pub part_spelled : (s : ℕ) (bytes : List ℕ) → bytes ≡ plain_bytes (bytes_by s) → part_after 0 (syllable_of bytes) ≡ spelled_by s
unfolding spelled_by
part_spelled s bytes is = part_first (syllable_of bytes) ∙ ap (λ (l : List ℕ). part no_final (syllable_of l)) is

-- a part has at most thirteen values, and so has a spelled syllable
part_small : (s : Syllable) → length (part no_final s) ≤ 13
part_small (syllable h m v f t) = simp length-append (omega (arith, medial_short m, vowel_short v, final_short f, tone_short t))

pub by_small : (s : ℕ) → length (spelled_by s) ≤ 13
unfolding spelled_by
by_small s = part_small (syllable_of (plain_bytes (bytes_by s)))

pub spelled_small : (s : Syllable) → length (spelled_of s) ≤ 13
spelled_small s = rw (← plain_part s) (part_small (plain_of s))
