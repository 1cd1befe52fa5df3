-- What the last syllable may still take, a final, a letter or a tone, is told by the state.
-- Assumes nothing.
use mathlib.Core.Path.{◌≡◌, refl, ap, sym, subst, ◌∙◌}
use mathlib.Core.Bool.{Bool, true, false, not, ◌&&◌, ◌||◌}
use mathlib.Core.List.{[], ◌∷◌}
use Prim.Native.Nat.{ℕ}
use lib.Dec.{T, eqb}
use Rattle.letters.specs.Choice.{pick}
use Rattle.letters.specs.Letters.{is_consonant}
use Rattle.letters.specs.Marks.{neither, MedialGroup, group, Vowel, no_vowel, vowels, ToneMark, no_tone, dot, visarga}
use Rattle.letters.specs.Weights.{is_final_letter}
use Rattle.letters.proofs.Tests.{is_true, or_left}
use Rattle.formula.proofs.Lists.{both_left, both_right, every}
use Rattle.formula.proofs.Pieces.{each_vowel, each_medial}
use Rattle.formula.specs.Syllable.{Final, no_final, plain, plain_pair, stacked, kinzi, great_sa, syllable, carries_marks, carries_final, is_no_medial, is_no_vowel, is_no_final, is_no_tone, is_closed, takes_tone, is_syllable}
use Rattle.formula.specs.Row.{Row}
use Rattle.rows.specs.Machine.{end_of, KeptOk, is_not_great_sa, is_open, admits}
use Rattle.rows.proofs.Sound.{apart}
use Rattle.rows.proofs.Complete.{final_consonant}
use Rattle.states.specs.State.{State, done, plain_final_lem, nga_final, waiting, head_stays, head_second, head_closes, head_nga, after_ya_ra, after_wa, after_ha, with_e, with_e_aa, with_i, with_u, with_vowel, head_state, begun_state, medial_state, vowel_state, final_state, tone_state, Room, no_room, room_after, room_on_top, state_of}
use Rattle.states.specs.Transition.{is, is_open_state, takes_head, takes_tone_state, room_at}
use Rattle.states.proofs.Tested.{each_open}

-- what the last syllable may take, by its final and tone and by the state
abbrev pub waits : Final → ToneMark → Bool
waits f t = is_no_tone t && (not (is_closed f) && is_not_great_sa f)

abbrev Shows : State → Final → ToneMark → Type 0
Shows s f t = (is_open_state s ≡ is_open f t) × (is waiting s ≡ waits f t) × (takes_tone_state s ≡ (is_closed f && is_no_tone t)) × (room_at s ≡ room_after f t)

shows_plain : (c : ℕ) (p : Bool) → Shows (pick p nga_final plain_final_lem) (plain c) no_tone
unfolding pick
shows_plain c true = (refl, refl, refl, refl)
shows_plain c false = (refl, refl, refl, refl)

-- an open state
shows_open : (s : State) → T (is_open_state s) → Shows s no_final no_tone
unfolding pick
shows_open head_stays t = (refl, refl, refl, refl)
shows_open head_second t = (refl, refl, refl, refl)
shows_open head_closes t = (refl, refl, refl, refl)
shows_open head_nga t = (refl, refl, refl, refl)
shows_open after_ya_ra t = (refl, refl, refl, refl)
shows_open after_wa t = (refl, refl, refl, refl)
shows_open after_ha t = (refl, refl, refl, refl)
shows_open with_e t = (refl, refl, refl, refl)
shows_open with_e_aa t = (refl, refl, refl, refl)
shows_open with_i t = (refl, refl, refl, refl)
shows_open with_u t = (refl, refl, refl, refl)
shows_open with_vowel t = (refl, refl, refl, refl)
shows_open done t = elim t [ ]
shows_open Rattle.states.specs.State.pair_final t = elim t [ ]
shows_open plain_final_lem t = elim t [ ]
shows_open nga_final t = elim t [ ]
shows_open waiting t = elim t [ ]

-- a syllable with neither final nor tone is open, whatever its head carries
abbrev open_at : MedialGroup → Vowel → State → Bool
open_at m v s = is_open_state (vowel_state v (medial_state m s))

pub opened : (m : MedialGroup) (v : Vowel) (room : Room) (h : ℕ) → T (is_open_state (vowel_state v (medial_state m (begun_state room h))))
unfolding pick
opened m v room h = go (carries_marks h)
  where
    go : (c : Bool) → T (open_at m v (pick c (head_state room h) with_vowel))
    go true = each_open open_at tt m v room h
    go false =
        each_vowel (λ (u : Vowel). open_at m u with_vowel)
        (each_medial (λ (n : MedialGroup). every (λ (u : Vowel). open_at n u with_vowel) vowels) tt m) v

shows : (s : State) (f : Final) (t : ToneMark) → T (is_open_state s) → Shows (tone_state t (final_state f s)) f t
unfolding pick
shows s no_final no_tone i = shows_open s i
shows s (plain c) no_tone i = shows_plain c (eqb c 0x1004)
shows s (plain_pair c d) no_tone i = (refl, refl, refl, refl)
shows s (stacked c) no_tone i = (refl, refl, refl, refl)
shows s kinzi no_tone i = (refl, refl, refl, refl)
shows s great_sa no_tone i = (refl, refl, refl, refl)
shows s no_final dot i = (refl, refl, refl, refl)
shows s (plain c) dot i = (refl, refl, refl, refl)
shows s (plain_pair c d) dot i = (refl, refl, refl, refl)
shows s (stacked c) dot i = (refl, refl, refl, refl)
shows s kinzi dot i = (refl, refl, refl, refl)
shows s great_sa dot i = (refl, refl, refl, refl)
shows s no_final visarga i = (refl, refl, refl, refl)
shows s (plain c) visarga i = (refl, refl, refl, refl)
shows s (plain_pair c d) visarga i = (refl, refl, refl, refl)
shows s (stacked c) visarga i = (refl, refl, refl, refl)
shows s kinzi visarga i = (refl, refl, refl, refl)
shows s great_sa visarga i = (refl, refl, refl, refl)

-- the same of the last syllable of a row
abbrev pub Known : State → Bool → Final → ToneMark → Type 0
Known s c f t = (is_open_state s ≡ (c && is_open f t)) × (is waiting s ≡ (c && waits f t)) × (takes_tone_state s ≡ (c && (is_closed f && is_no_tone t)))
    × (room_at s ≡ pick c (room_after f t) no_room)

known_by : (s : State) (c : Bool) (f : Final) (t : ToneMark) → Shows s f t → Known (pick c s done) c f t
unfolding pick
known_by s true f t k = k
known_by s false f t k = (refl, refl, refl, refl)

pub known : (h : ℕ) (m : MedialGroup) (v : Vowel) (f : Final) (t : ToneMark) (a : Row)
    → Known (state_of (syllable h m v f t ∷ a)) (carries_final h) f t
known h m v f t a = known_by _ (carries_final h) f t (shows (vowel_state v (medial_state m (begun_state (room_on_top a) h))) f t (opened m v (room_on_top a) h))

pub room_is : (kept : Row) → room_at (state_of kept) ≡ room_on_top kept
unfolding pick
room_is [] = refl
room_is (syllable h m v f t ∷ a) = (known h m v f t a).3

-- a final that is not closed waits, and asks for a final letter
waits_by : (c : Bool) (f : Final) (t : ToneMark) → T (c || (is_no_final f && is_no_tone t)) → T (takes_tone f t) → T (is_not_great_sa f)
    → (c && waits f t) ≡ not (is_closed f)
waits_by true no_final no_tone i k n = refl
waits_by true no_final dot i k n = refl
waits_by true no_final visarga i k n = refl
waits_by true (plain c) no_tone i k n = refl
waits_by true (plain c) dot i k n = refl
waits_by true (plain c) visarga i k n = refl
waits_by true (plain_pair c d) no_tone i k n = refl
waits_by true (plain_pair c d) dot i k n = refl
waits_by true (plain_pair c d) visarga i k n = refl
waits_by true (stacked c) no_tone i k n = refl
waits_by true kinzi no_tone i k n = refl
waits_by false no_final no_tone i k n = refl
waits_by false no_final dot i k n = elim i [ ]
waits_by false no_final visarga i k n = elim i [ ]
waits_by false (plain c) t i k n = elim i [ ]
waits_by false (plain_pair c d) t i k n = elim i [ ]
waits_by false (stacked c) t i k n = elim i [ ]
waits_by false kinzi t i k n = elim i [ ]
waits_by false great_sa t i k n = elim i [ ]
waits_by true (stacked c) dot i k n = elim k [ ]
waits_by true (stacked c) visarga i k n = elim k [ ]
waits_by true kinzi dot i k n = elim k [ ]
waits_by true kinzi visarga i k n = elim k [ ]
waits_by true great_sa t i k n = elim n [ ]

pub waiting_is : (kept : Row) → KeptOk kept → T (is_not_great_sa (end_of kept)) → is waiting (state_of kept) ≡ not (is_closed (end_of kept))
waiting_is [] k n = refl
waiting_is (syllable h m v f t ∷ a) k n =
    let p = apart h m v f t k.1 in
    (known h m v f t a).1 ∙ waits_by (carries_final h) f t p.closing p.tone n

admits_by : (x : ℕ) (f : Final) → T (is_not_great_sa f) → admits f x ≡ (not (not (is_closed f)) || is_final_letter x)
admits_by x no_final n = refl
admits_by x (plain c) n = refl
admits_by x (plain_pair c d) n = refl
admits_by x (stacked c) n = refl
admits_by x kinzi n = refl
admits_by x great_sa n = elim n [ ]

pub admits_is : (x : ℕ) (kept : Row) → KeptOk kept → T (is_not_great_sa (end_of kept)) → admits (end_of kept) x ≡ takes_head x (state_of kept)
admits_is x kept k n = admits_by x (end_of kept) n ∙ ap (λ (w : Bool). not w || is_final_letter x) (sym (waiting_is kept k n))

-- a head that carries a final has the state that its pieces show
pub carried : (c : Bool) (s : State) → T c → s ≡ pick c s done
unfolding pick
carried true s i = refl
carried false s i = absurd i

-- what carries marks carries a final too, and a final letter carries both
pub marks_final : (h : ℕ) → T (carries_marks h) → T (carries_final h)
unfolding carries_marks carries_final
marks_final h c = or_left (is_consonant h) _ c

pub letter_marks : (h : ℕ) → T (is_final_letter h) → T (carries_marks h)
unfolding carries_marks
letter_marks h l = final_consonant h l

pub marked_state : (room : Room) (h : ℕ) → T (carries_marks h) → head_state room h ≡ begun_state room h
unfolding pick
marked_state room h c = rw (is_true (carries_marks h) c) refl

-- the state of an open syllable whose head carries marks
pub open_state : (h : ℕ) (m : MedialGroup) (v : Vowel) (a : Row) → T (carries_marks h)
    → vowel_state v (medial_state m (head_state (room_on_top a) h)) ≡ state_of (syllable h m v no_final no_tone ∷ a)
open_state h m v a c =
    ap (λ (s : State). vowel_state v (medial_state m s)) (marked_state (room_on_top a) h c) ∙ carried (carries_final h) _ (marks_final h c)

no_marks_state : (m : MedialGroup) (v : Vowel) (s : State) → T (is_no_medial m) → T (is_no_vowel v) → vowel_state v (medial_state m s) ≡ s
no_marks_state (group neither false false) no_vowel s i j = refl
no_marks_state (group neither false false) (Rattle.letters.specs.Marks.vowel_aa _) s i j = elim j [ ]
no_marks_state (group neither false false) Rattle.letters.specs.Marks.vowel_i s i j = elim j [ ]
no_marks_state (group neither false false) Rattle.letters.specs.Marks.vowel_ii s i j = elim j [ ]
no_marks_state (group neither false false) Rattle.letters.specs.Marks.vowel_u s i j = elim j [ ]
no_marks_state (group neither false false) Rattle.letters.specs.Marks.vowel_uu s i j = elim j [ ]
no_marks_state (group neither false false) Rattle.letters.specs.Marks.vowel_e s i j = elim j [ ]
no_marks_state (group neither false false) Rattle.letters.specs.Marks.vowel_ai s i j = elim j [ ]
no_marks_state (group neither false false) (Rattle.letters.specs.Marks.vowel_e_aa _) s i j = elim j [ ]
no_marks_state (group neither false false) (Rattle.letters.specs.Marks.vowel_e_aa_killer _) s i j = elim j [ ]
no_marks_state (group neither false false) Rattle.letters.specs.Marks.vowel_am s i j = elim j [ ]
no_marks_state (group neither false false) Rattle.letters.specs.Marks.vowel_i_u s i j = elim j [ ]
no_marks_state (group neither false false) Rattle.letters.specs.Marks.vowel_u_am s i j = elim j [ ]
no_marks_state (group neither false true) v s i j = elim i [ ]
no_marks_state (group neither true _) v s i j = elim i [ ]
no_marks_state (group Rattle.letters.specs.Marks.ya _ _) v s i j = elim i [ ]
no_marks_state (group Rattle.letters.specs.Marks.ra _ _) v s i j = elim i [ ]

-- and of one whose head carries a final and no marks
pub unmarked_state : (h : ℕ) (m : MedialGroup) (v : Vowel) (f : Final) (t : ToneMark) (a : Row) → carries_marks h ≡ false → T (carries_final h)
    → T (is_syllable (syllable h m v f t)) → T (is_open f t) → state_of (syllable h m v f t ∷ a) ≡ with_vowel
unfolding pick
unmarked_state h m v no_final no_tone a e c i o =
    let p : T (is_no_medial m && is_no_vowel v) = subst (λ (b : Bool). T (b || (is_no_medial m && is_no_vowel v))) e (apart h m v no_final no_tone i).marks in
    sym (carried (carries_final h) _ c)
    ∙ no_marks_state m v _ (both_left (is_no_medial m) (is_no_vowel v) p) (both_right (is_no_medial m) (is_no_vowel v) p) ∙ (rw e refl)
unmarked_state h m v no_final dot a e c i o = elim o [ ]
unmarked_state h m v no_final visarga a e c i o = elim o [ ]
unmarked_state h m v (plain _) t a e c i o = elim o [ ]
unmarked_state h m v (plain_pair _ _) t a e c i o = elim o [ ]
unmarked_state h m v (stacked _) t a e c i o = elim o [ ]
unmarked_state h m v kinzi t a e c i o = elim o [ ]
unmarked_state h m v great_sa t a e c i o = elim o [ ]
