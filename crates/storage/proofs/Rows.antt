-- A row of syllables is stored as it is: each piece of a syllable is written in storage order, and a 1025 carries no marks, so that none of the values which would change it follows.
-- Assumes nothing.
use mathlib.Core.Path.{◌≡◌, refl, sym, ap, subst, ◌∙◌}
use mathlib.Core.Bool.{Bool, true, false, ◌&&◌}
use mathlib.Core.List.{List, [], ◌∷◌, ◌++◌, append_assoc}
use Prim.Native.Nat.{ℕ, ◌≤◌}
use native.Mathlib.Omega.{arith}
use lib.Dec.{T, eqb, eqb→eq, leb, leb→le, not_T}
use Rattle.letters.specs.Choice.{pick}
use Rattle.letters.specs.Letters.{is_consonant}
use Rattle.letters.specs.Marks.{MedialGroup, medial_text, Vowel, vowel_text, ToneMark, no_tone, dot, visarga, tone_text}
use Rattle.letters.specs.Weights.{is_head, is_final_letter}
use Rattle.letters.proofs.Picks.{or_no}
use Rattle.letters.proofs.Tests.{or_left, or_second, is_true}
use Rattle.formula.proofs.Lists.{both_left, both_right}
use Rattle.formula.proofs.Pieces.{each_vowel, each_medial}
use Rattle.formula.specs.Syllable.{Final, no_final, plain, plain_pair, stacked, kinzi, great_sa, syllable, carries_marks, is_no_medial, is_no_vowel, is_final, final_text, head_text}
use Rattle.formula.specs.Row.{Row, is_row_after, join_after, Gives}
use Rattle.rows.proofs.Sound.{Parts, apart, no_medial_text, no_vowel_text}
use Rattle.rows.proofs.Complete.{final_consonant, first}
use Rattle.rows.proofs.Begin.{on_head_lem}
use Rattle.storage.specs.Stored.{is_run_mark, rank, stored_form}
use Rattle.storage.specs.Putting.{first_rank}
use Rattle.storage.proofs.Ranks.{is_false, no_mark, no_mark_rank, behind_none, behind_apart}
use Rattle.storage.proofs.Composing.{same_before}
use Rattle.storage.proofs.Settled.{Stands, StandsBefore, Settled, quiet_before, mark_stands, settled_stored}

-- a settled list whose first value ranks at least so
record Above (low : ℕ) (values : List ℕ) : Type 0 where
  settled : Settled values
  least : low ≤ first_rank values

mark_before : (x : ℕ) (values : List ℕ) → is_run_mark x ≡ true → rank x ≤ first_rank values → StandsBefore x values
mark_before x [] m h = tt
mark_before x (y ∷ values) m h = mark_stands x y m h

-- marks whose ranks rise from low to high
climbs : ℕ → List ℕ → ℕ → Bool
climbs low [] high = leb low high
climbs low (x ∷ piece) high = is_run_mark x && (leb low (rank x) && climbs (rank x) piece high)

-- such marks before what ranks at least as high
piece_above : (low : ℕ) (piece : List ℕ) (high : ℕ) (rest : List ℕ) → T (climbs low piece high) → Above high rest → Above low (piece ++ rest)
unfolding climbs
piece_above low [] high rest t a = record { settled = a.settled; least = omega (arith, leb→le low high t, a.least) }
piece_above low (x ∷ piece) high rest t a =
    let ranks : T (leb low (rank x) && climbs (rank x) piece high) = both_right (is_run_mark x) (leb low (rank x) && climbs (rank x) piece high) t in
    let more : Above (rank x) (piece ++ rest) = piece_above (rank x) piece high rest (both_right (leb low (rank x)) (climbs (rank x) piece high) ranks) a in
    record {
      settled =
          (mark_before x (piece ++ rest) (is_true (is_run_mark x) (both_left (is_run_mark x) (leb low (rank x) && climbs (rank x) piece high) t)) more.least, more.settled);
      least = leb→le low (rank x) (both_left (leb low (rank x)) (climbs (rank x) piece high) ranks);
    }

-- "in that order": medials, vowels and tones climb, each above the ones before
medial_climbs : (m : MedialGroup) → T (climbs 0 (medial_text m) 4)
unfolding climbs rank is_run_mark pick
medial_climbs = each_medial (λ (m : MedialGroup). climbs 0 (medial_text m) 4) tt

vowel_climbs : (v : Vowel) → T (climbs 4 (vowel_text v) 14)
unfolding climbs rank is_run_mark pick
vowel_climbs = each_vowel (λ (v : Vowel). climbs 4 (vowel_text v) 14) tt

tone_climbs : (t : ToneMark) → T (climbs 14 (tone_text t) 16)
unfolding climbs rank is_run_mark pick
tone_climbs no_tone = tt
tone_climbs dot = tt
tone_climbs visarga = tt

-- a value that is no mark and not 1025 before anything settled
quiet_above : (x : ℕ) (values : List ℕ) → is_run_mark x ≡ false → eqb x 0x1025 ≡ false → Settled values → Above 16 (x ∷ values)
quiet_above x values m u s = record { settled = (quiet_before x values m u, s); least = omega (arith, no_mark_rank x m) }

-- a head is no mark, and a C is not 1025
head_no_mark : (h : ℕ) → T (is_head h) → is_run_mark h ≡ false
head_no_mark h t = no_mark is_head tt h t

letter_quiet : (h : ℕ) → T (is_consonant h) → eqb h 0x1025 ≡ false
letter_quiet h t = is_false (eqb h 0x1025) (not_T (eqb h 0x1025) (λ u. rw (eqb→eq h 0x1025 u) at t))

letter_above : (c : ℕ) (values : List ℕ) → T (is_consonant c) → Settled values → Above 16 (c ∷ values)
letter_above c values t s = quiet_above c values (head_no_mark c (or_left (is_consonant c) _ t)) (letter_quiet c t) s

-- a plain final before what ranks as a tone or above: it begins with a letter, so another may stand before it
plain_above : (c : ℕ) (rest : List ℕ) → T (is_final_letter c) → Above 14 rest → Above 14 (c ∷ 0x103A ∷ rest)
unfolding is_run_mark rank pick climbs
plain_above c rest t a =
    let b = letter_above c (0x103A ∷ rest) (final_consonant c t) (piece_above 13 (0x103A ∷ []) 14 rest tt a).settled in
    record { settled = b.settled; least = omega (arith, b.least) }

-- and any other
final_above : (f : Final) (rest : List ℕ) → T (is_final f) → Above 14 rest → Above 14 (final_text f ++ rest)
unfolding is_run_mark rank pick climbs
final_above no_final rest t a = a
final_above (plain c) rest t a = plain_above c rest t a
final_above (plain_pair c d) rest t a =
    plain_above c (d ∷ 0x103A ∷ rest) (both_left (is_final_letter c) (is_final_letter d) t) (plain_above d rest (both_right (is_final_letter c) (is_final_letter d) t) a)
final_above (stacked c) rest t a =
    let b = letter_above c (0x1039 ∷ rest) (final_consonant c (both_left (is_final_letter c) _ t)) (quiet_above 0x1039 rest refl refl a.settled).settled in
    record { settled = b.settled; least = omega (arith, b.least) }
final_above kinzi rest t a =
    let b = quiet_above 0x1039 rest refl refl a.settled in
    record { settled = (letter_above 0x1004 (0x103A ∷ 0x1039 ∷ rest) tt (piece_above 13 (0x103A ∷ []) 16 (0x1039 ∷ rest) tt b).settled).settled; least = omega arith }
final_above great_sa rest t a = a

-- any value stands before a head
before_head : (x h : ℕ) → T (is_head h) → Stands x h
before_head x h t =
    let same = same_before x h (other 0x102E refl) (or_no (eqb h 0x103A) (eqb h 0x1039) (other 0x103A refl) (other 0x1039 refl)) in
    record { in_order = behind_apart x h (head_no_mark h t); no_vowel = same.0; no_letter = same.1 }
  where
    other : (y : ℕ) → is_head y ≡ false → eqb h y ≡ false
    other y e = is_false (eqb h y) (not_T (eqb h y) (λ u. rw (eqb→eq h y u, e) at t))

-- and before 103F
great_sa_after : (x : ℕ) → Stands x 0x103F
unfolding is_run_mark
great_sa_after x =
    let same = same_before x 0x103F refl refl in
    record { in_order = behind_apart x 0x103F refl; no_vowel = same.0; no_letter = same.1 }

-- what a syllable has after its head
abbrev carried : MedialGroup → Vowel → Final → ToneMark → List ℕ
carried m v f t = medial_text m ++ (vowel_text v ++ (final_text f ++ tone_text t))

-- before the next one
marks_above : (m : MedialGroup) (v : Vowel) (f : Final) (t : ToneMark) (rest : List ℕ) → T (is_final f) → Above 16 rest
    → Above 0 (carried m v f t ++ rest)
marks_above m v f t rest i a =
    let tone : Above 14 (tone_text t ++ rest) = piece_above 14 (tone_text t) 16 rest (tone_climbs t) a in
    let final : Above 14 (final_text f ++ (tone_text t ++ rest)) = final_above f (tone_text t ++ rest) i tone in
    let vowel : Above 4 (vowel_text v ++ (final_text f ++ (tone_text t ++ rest))) = piece_above 4 (vowel_text v) 14 _ (vowel_climbs v) final in
    simp append_assoc (piece_above 0 (medial_text m) 4 _ (medial_climbs m) vowel)

-- a head that carries no marks has neither a medial group nor a vowel after it
unmarked : (h : ℕ) (m : MedialGroup) (v : Vowel) (f : Final) (t : ToneMark) → Parts h m v f t → carries_marks h ≡ false
    → carried m v f t ≡ final_text f ++ tone_text t
unmarked h m v f t p e =
    let marks : T (is_no_medial m && is_no_vowel v) = or_second (carries_marks h) (is_no_medial m && is_no_vowel v) e p.marks in
    rw (no_medial_text m (both_left (is_no_medial m) (is_no_vowel v) marks), no_vowel_text v (both_right (is_no_medial m) (is_no_vowel v) marks))

-- a head stands before the letter of a final and before a tone: neither is 102E, 103A or 1039
tone_before : (x : ℕ) (t : ToneMark) (rest : List ℕ) → is_run_mark x ≡ false → StandsBefore x rest → StandsBefore x (tone_text t ++ rest)
tone_before x no_tone rest n after = after
tone_before x dot rest n after =
    let same = same_before x 0x1037 refl refl in
    record { in_order = behind_none x 0x1037 n; no_vowel = same.0; no_letter = same.1 }
tone_before x visarga rest n after =
    let same = same_before x 0x1038 refl refl in
    record { in_order = behind_none x 0x1038 n; no_vowel = same.0; no_letter = same.1 }

closing_before : (x : ℕ) (f : Final) (t : ToneMark) (rest : List ℕ) → T (is_final f) → is_run_mark x ≡ false → StandsBefore x rest
    → StandsBefore x ((final_text f ++ tone_text t) ++ rest)
closing_before x no_final t rest i n after = tone_before x t rest n after
closing_before x (plain c) t rest i n after = before_head x c (or_left (is_consonant c) _ (final_consonant c i))
closing_before x (plain_pair c d) t rest i n after = before_head x c (or_left (is_consonant c) _ (final_consonant c (both_left (is_final_letter c) (is_final_letter d) i)))
closing_before x (stacked c) t rest i n after = before_head x c (or_left (is_consonant c) _ (final_consonant c (both_left (is_final_letter c) _ i)))
closing_before x kinzi t rest i n after = before_head x 0x1004 tt
closing_before x great_sa t rest i n after = tone_before x t rest n after

-- 1025 carries no marks, so a head that does stands before any value
marked_quiet : (h : ℕ) → carries_marks h ≡ true → eqb h 0x1025 ≡ false
unfolding carries_marks
marked_quiet h e = is_false (eqb h 0x1025) (not_T (eqb h 0x1025) (λ u. subst T (sym e ∙ ap carries_marks (eqb→eq h 0x1025 u)) tt))

-- a row, and any value before it
record RowAbove (values : List ℕ) : Type 0 where
  above : Above 16 values
  after : (x : ℕ) → StandsBefore x values

head_before : (f : Final) (h : ℕ) (m : MedialGroup) (v : Vowel) (g : Final) (t : ToneMark) (rest : List ℕ) → Parts h m v g t
    → ((x : ℕ) → StandsBefore x rest) → StandsBefore (head_text f h) (carried m v g t ++ rest)
unfolding is_run_mark
head_before f h m v g t rest p after =
    on_head_lem (λ (x : ℕ). StandsBefore x (carried m v g t ++ rest)) f h (go (carries_marks h) refl)
    (quiet_before 0x103F (carried m v g t ++ rest) refl refl)
  where
    go : (b : Bool) → carries_marks h ≡ b → StandsBefore h (carried m v g t ++ rest)
    go true e = quiet_before h (carried m v g t ++ rest) (head_no_mark h p.head) (marked_quiet h e)
    go false e = rw (unmarked h m v g t p e) (closing_before h g t rest p.final (head_no_mark h p.head) (after h))

row_above : (f : Final) (row : Row) → T (is_row_after f row) → RowAbove (join_after f row)
unfolding is_run_mark rank pick
row_above f [] q = record { above = record { settled = tt; least = omega arith }; after = λ x. tt }
row_above f (syllable h m v g t ∷ row) q =
    let r = first f (syllable h m v g t) row q in
    let p = apart h m v g t r.is in
    let rest = row_above g row r.rest in
    let marks = marks_above m v g t (join_after g row) p.final rest.above in
    record {
      above =
          record {
            settled = (head_before f h m v g t (join_after g row) p rest.after, marks.settled);
            least = on_head_lem (λ (x : ℕ). 16 ≤ rank x) f h (omega (arith, no_mark_rank h (head_no_mark h p.head))) (omega (arith, no_mark_rank 0x103F refl));
          };
      after = λ x. on_head_lem (Stands x) f h (before_head x h p.head) (great_sa_after x);
    }

-- in a row of syllables each value stands before the next one
pub gives_settled : (row : Row) (word : List ℕ) → Gives row word → Settled word
gives_settled row word g = rw (← g.joined) (row_above no_final row g.is_row).above.settled

-- so it is stored as it is
pub gives_stored : (row : Row) (word : List ℕ) → Gives row word → stored_form word ≡ word
gives_stored row word g = settled_stored word (gives_settled row word g)
