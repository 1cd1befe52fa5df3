-- 103A and 1039 end a vowel, make kinzi, or make the letter on top the final of the syllable before, by the state as by the machine.
-- Assumes nothing.
use mathlib.Core.Path.{◌≡◌, refl, ap, sym, subst, ◌∙◌}
use mathlib.Core.Bool.{Bool, true, false, not, ◌&&◌, ◌||◌}
use mathlib.Core.List.{[], ◌∷◌}
use mathlib.Core.Option.{Option, none, some}
use Prim.Native.Nat.{ℕ, ◌-◌, ◌*◌, ◌^◌, ◌≤◌}
use native.Mathlib.Omega.{arith}
use lib.Dec.{T, eqb, eqb→eq}
use Rattle.letters.specs.Choice.{pick}
use Rattle.letters.specs.Marks.{neither, MedialGroup, group, Vowel, no_vowel, ToneMark, no_tone, dot, visarga, ra, vowel_aa, vowel_ai, vowel_am, vowel_e, vowel_e_aa, vowel_e_aa_killer, vowel_i, vowel_i_u, vowel_ii, vowel_u, vowel_u_am, vowel_uu, ya}
use Rattle.letters.specs.Weights.{is_final_letter}
use Rattle.letters.proofs.Picks.{and_no_right}
use Rattle.letters.proofs.Tests.{is_true, or_second, or_false}
use Rattle.formula.proofs.Lists.{both_left, both_right}
use Rattle.formula.specs.Syllable.{Final, no_final, plain, plain_pair, stacked, kinzi, great_sa, syllable, bare, carries_marks, carries_final, is_no_medial, is_no_vowel, is_no_tone}
use Rattle.formula.specs.Row.{Row}
use Rattle.formula.specs.Record.{link_of}
use Rattle.rows.specs.Machine.{vowel_and, when, onto, KeptOk, is_open, plain_and, stacked_and, close, killed, step_killer, step_stacker}
use Rattle.rows.proofs.Sound.{apart}
use Rattle.states.specs.State.{State, done, pair_final, plain_final_lem, nga_final, waiting, head_stays, head_second, head_closes, head_nga, Room, no_room, head_state, medial_state, vowel_state, final_state, tone_state, room_after, room_on_top, state_of}
use Rattle.states.specs.Transition.{Transition, refuse, to, same, is, is_open_state, on_killer, on_stacker, vowel_byte, Joins, first_plain, first_stacked, second_plain, Makes, adds_vowel, makes_kinzi, closes, Agrees}
use Rattle.states.proofs.Tested.{each_open, same_equal}
use Rattle.states.proofs.Known.{carried, opened, letter_marks, open_state}
use Rattle.states.proofs.Marked.{changed, grown, gained, Follows, if_marked, on_open, refused, shut}

-- 103A and 1039 on a head alone: it is one more letter in the final of the syllable before, where that has room and the letter may be one
close_none : (p : Bool) → when p none ≡ none
close_none true = refl
close_none false = refl

room_toned : (f : Final) (t : ToneMark) → T (not (is_no_tone t)) → room_after f t ≡ no_room
room_toned no_final dot e = refl
room_toned no_final visarga e = refl
room_toned (plain c) dot e = refl
room_toned (plain c) visarga e = refl
room_toned (plain_pair c d) t e = refl
room_toned (stacked c) t e = refl
room_toned kinzi t e = refl
room_toned great_sa t e = refl
room_toned no_final no_tone e = elim e [ ]
room_toned (plain c) no_tone e = elim e [ ]

module _ (x : ℕ) (moved : State → Transition) (h : ℕ) where
  -- what the letter makes of a final without a tone, by the state that it has after it and by its link
  abbrev Closes : Bool → Final → Option Final → Type 0
  Closes p f none = moved (head_state (room_after f no_tone) h) ≡ refuse
  Closes p f (some g) =
      (moved (head_state (room_after f no_tone) h) ≡ pick p (to 0 (link_of g - link_of f) (final_state g done)) refuse)
      × ((s : State) → final_state g s ≡ final_state g done) × (link_of f ≤ link_of g) × Joins h f g

  close_untoned : (p : Bool) → (T p → T (is_final_letter h)) → (o : Option Final) (y : ℕ) (n : MedialGroup) (u : Vowel) (f : Final) (a : Row) → T (carries_final y) → Closes p f o
      → Agrees x 22 (moved (head_state (room_after f no_tone) h)) (bare h ∷ syllable y n u f no_tone ∷ a)
      (when p (onto (λ (g : Final). syllable y n u g no_tone ∷ a) o))
  unfolding pick
  close_untoned p l none y n u f a c e = refused x 22 _ _ _ e (close_none p)
  close_untoned true l (some g) y n u f a c e =
      rw e.0
      (syllable y n u g no_tone ∷ a, refl, sym (e.1 _) ∙ carried (carries_final y) _ c, closes {g = (link_of g - link_of f) * 2 ^ 22} (l tt) e.3 (omega (arith, e.2)))
  close_untoned false l (some g) y n u f a c e = rw e.0 refl

  module _ (more : Final → Option Final) (p : Bool) (l : T p → T (is_final_letter h)) (stays : moved head_stays ≡ refuse)
      (each : (f : Final) → Closes p f (more f)) where
    toned : (f : Final) (t : ToneMark) → T (not (is_no_tone t)) → moved (head_state (room_after f t) h) ≡ refuse
    toned f t e = ap (λ (room : Room). moved (head_state room h)) (room_toned f t e) ∙ stays

    close_followed : (a : Row) → Agrees x 22 (moved (head_state (room_on_top a) h)) (bare h ∷ a) (when p (close more a))
    unfolding pick
    close_followed [] = refused x 22 _ (bare h ∷ []) (when p none) stays (close_none p)
    close_followed (syllable y n u f t ∷ a) = go (carries_final y) refl t
      where
        go : (c : Bool) → carries_final y ≡ c → (t : ToneMark)
            → Agrees x 22 (moved (head_state (pick c (room_after f t) no_room) h)) (bare h ∷ syllable y n u f t ∷ a)
            (when p (when (c && is_no_tone t) (onto (λ (g : Final). syllable y n u g t ∷ a) (more f))))
        go true e no_tone = close_untoned p l (more f) y n u f a (subst T (sym e) tt) (each f)
        go true e dot = refused x 22 _ _ _ (toned f dot tt) (close_none p)
        go true e visarga = refused x 22 _ _ _ (toned f visarga tt) (close_none p)
        go false e t = refused x 22 _ _ _ stays (close_none p)

killer_stays : on_killer head_stays ≡ refuse
unfolding pick
killer_stays = refl

killer_moves : (f q : Bool) → on_killer (pick f (pick q head_nga head_closes) head_stays) ≡ pick f (to 0 1 (pick q nga_final plain_final_lem)) refuse
unfolding pick
killer_moves true true = refl
killer_moves true false = refl
killer_moves false q = refl

killer_moves_second : (f : Bool) → on_killer (pick f head_second head_stays) ≡ pick f (to 0 0 pair_final) refuse
unfolding pick
killer_moves_second true = refl
killer_moves_second false = refl

stacker_stays : on_stacker head_stays ≡ refuse
unfolding pick
stacker_stays = refl

stacker_moves : (f q : Bool) → on_stacker (pick f (pick q head_nga head_closes) head_stays) ≡ pick (f && not q) (to 0 2 waiting) refuse
unfolding pick
stacker_moves true true = refl
stacker_moves true false = refl
stacker_moves false q = refl

stacker_moves_not : (f : Bool) → on_stacker (pick f head_second head_stays) ≡ refuse
unfolding pick
stacker_moves_not true = refl
stacker_moves_not false = refl

-- neither closes anything where the last syllable is not open, or carries no marks
no_letter : (h : ℕ) → carries_marks h ≡ false → is_final_letter h ≡ false
no_letter h e = go (is_final_letter h) refl
  where
    go : (b : Bool) → is_final_letter h ≡ b → b ≡ false
    go true i = absurd (subst T e (letter_marks h (subst T (sym i) tt)))
    go false i = refl

no_closing : (c o n u l : Bool) → (c && o) ≡ false → (c ≡ false → l ≡ false) → ((n && (u && o)) && l) ≡ false
no_closing false o n u l e f = and_no_right (n && (u && o)) l (f refl)
no_closing true o true true l e f = rw e refl
no_closing true o true false l e f = refl
no_closing true o false u l e f = refl

-- the killer on a syllable with marks ends a vowel, whose byte stands two bits above the link
abbrev link_byte : Vowel → ℕ
link_byte v = 4 * vowel_byte v

abbrev killer_right : MedialGroup → Vowel → State → Bool
killer_right m v s =
    (is_no_medial m && is_no_vowel v)
    || (grown link_byte v (vowel_and 0x103A v)
    && same (on_killer (vowel_state v (medial_state m s))) (changed link_byte v (λ (n : Vowel). vowel_state n (medial_state m s)) (vowel_and 0x103A v)))

killer_right_lem : (m : MedialGroup) (v : Vowel) (room : Room) (h : ℕ) → T (killer_right m v (head_state room h))
unfolding pick
killer_right_lem m v room h = each_open killer_right tt m v room h

not_bare : (n u l : Bool) → (n && u) ≡ false → ((n && (u && true)) && l) ≡ false
not_bare true true l e = absurd (subst T e tt)
not_bare true false l e = refl
not_bare false u l e = refl

killed_marked : (x h : ℕ) (m : MedialGroup) (v : Vowel) (a : Row) (o : Option Vowel) → T (carries_marks h) → (is_no_medial m && is_no_vowel v) ≡ false
    → T (grown link_byte v o)
    → Agrees x 22 (changed link_byte v (λ (n : Vowel). vowel_state n (medial_state m (head_state (room_on_top a) h))) o)
    (syllable h m v no_final no_tone ∷ a) (killed o (syllable h m v no_final no_tone) a)
killed_marked x h m v a none c e t = rw (not_bare (is_no_medial m) (is_no_vowel v) (is_final_letter h) e) refl
killed_marked x h m v a (some n) c e t =
    let i : carries_marks h ≡ true = is_true (carries_marks h) c in
    (syllable h m n no_final no_tone ∷ a, (rw i refl), open_state h m n a c, adds_vowel {g = (link_byte n - link_byte v) * 2 ^ 22} {v = v} {u = n} (omega (arith, gained (link_byte v) (link_byte n) t)))

-- a syllable without marks is a head alone
bare_cases : (P : MedialGroup → Vowel → Type 0) (m : MedialGroup) (v : Vowel) → P (group neither false false) no_vowel
    → ((is_no_medial m && is_no_vowel v) ≡ false → P m v) → P m v
bare_cases P m v at_bare at_rest = go (is_no_medial m && is_no_vowel v) refl
  where
    here : (n : MedialGroup) (u : Vowel) → T (is_no_medial n && is_no_vowel u) → P n u
    here (group neither false false) no_vowel t = at_bare
    here (group neither false false) (vowel_aa _) t = elim t [ ]
    here (group neither false false) vowel_i t = elim t [ ]
    here (group neither false false) vowel_ii t = elim t [ ]
    here (group neither false false) vowel_u t = elim t [ ]
    here (group neither false false) vowel_uu t = elim t [ ]
    here (group neither false false) vowel_e t = elim t [ ]
    here (group neither false false) vowel_ai t = elim t [ ]
    here (group neither false false) (vowel_e_aa _) t = elim t [ ]
    here (group neither false false) (vowel_e_aa_killer _) t = elim t [ ]
    here (group neither false false) vowel_am t = elim t [ ]
    here (group neither false false) vowel_i_u t = elim t [ ]
    here (group neither false false) vowel_u_am t = elim t [ ]
    here (group neither false true) u t = elim t [ ]
    here (group neither true _) u t = elim t [ ]
    here (group ya _ _) u t = elim t [ ]
    here (group ra _ _) u t = elim t [ ]

    go : (b : Bool) → (is_no_medial m && is_no_vowel v) ≡ b → P m v
    go true e = here m v (subst T (sym e) tt)
    go false e = at_rest e

module _ (x : ℕ) where
  killer_closes : (h : ℕ) (f : Final) → Closes x on_killer h (is_final_letter h) f (plain_and h f)
  unfolding pick
  killer_closes h no_final = (killer_moves (is_final_letter h) (eqb h 0x1004), λ s. refl, omega arith, first_plain)
  killer_closes h (plain b) = (killer_moves_second (is_final_letter h), λ s. refl, omega arith, second_plain)
  killer_closes h (plain_pair b d) = killer_stays
  killer_closes h (stacked b) = killer_stays
  killer_closes h kinzi = killer_stays
  killer_closes h great_sa = killer_stays

  killer_open : (h : ℕ) (m : MedialGroup) (v : Vowel) (f : Final) (t : ToneMark) (a : Row) → T (carries_marks h) → T (is_open f t)
      → Follows x 22 on_killer step_killer (syllable h m v f t ∷ a)
  killer_open h m v no_final no_tone a c o =
      bare_cases (λ (n : MedialGroup). λ (u : Vowel). Follows x 22 on_killer step_killer (syllable h n u no_final no_tone ∷ a))
      m v
      (on_open x 22 on_killer _ h (group neither false false) no_vowel a (λ (b : Bool). when (is_final_letter h) (close (plain_and h) a)) c refl
      (close_followed x on_killer h (plain_and h) (is_final_letter h) (λ l. l) killer_stays (killer_closes h) a))
      (λ e. let r = or_second (is_no_medial m && is_no_vowel v) _ e (killer_right_lem m v (room_on_top a) h) in
      on_open x 22 on_killer _ h m v a (λ (b : Bool). killed (vowel_and 0x103A v) (syllable h m v no_final no_tone) a) c
      (same_equal _ _ (both_right (grown link_byte v (vowel_and 0x103A v)) _ r))
      (killed_marked x h m v a (vowel_and 0x103A v) c e (both_left (grown link_byte v (vowel_and 0x103A v)) _ r)))
  killer_open h m v no_final dot a c o = elim o [ ]
  killer_open h m v no_final visarga a c o = elim o [ ]
  killer_open h m v (plain _) t a c o = elim o [ ]
  killer_open h m v (plain_pair _ _) t a c o = elim o [ ]
  killer_open h m v (stacked _) t a c o = elim o [ ]
  killer_open h m v kinzi t a c o = elim o [ ]
  killer_open h m v great_sa t a c o = elim o [ ]

killer_none : (o : Option Vowel) (h : ℕ) (m : MedialGroup) (v : Vowel) (f : Final) (t : ToneMark) (a : Row)
    → (carries_marks h && is_open f t) ≡ false → killed o (syllable h m v f t) a ≡ none
killer_none none h m v f t a e =
    rw (no_closing (carries_marks h) (is_open f t) (is_no_medial m) (is_no_vowel v) (is_final_letter h) e (no_letter h)) refl
killer_none (some n) h m v f t a e = rw e refl

pub killer_followed : (x : ℕ) (kept : Row) → KeptOk kept → Follows x 22 on_killer step_killer kept
unfolding pick
killer_followed x [] k = refused x 22 (on_killer done) [] none (shut 0 done tt).killer refl
killer_followed x (syllable h m v f t ∷ a) k =
    if_marked x 22 on_killer step_killer h m v f t a k.1 refl (λ n. (shut 0 (state_of (syllable h m v f t ∷ a)) n).killer)
    (killer_none (vowel_and 0x103A v) h m v f t a) (killer_open x h m v f t a)

-- the stacker on a syllable with marks does nothing
abbrev stacker_right : MedialGroup → Vowel → State → Bool
stacker_right m v s = (is_no_medial m && is_no_vowel v) || same (on_stacker (vowel_state v (medial_state m s))) refuse

stacker_right_lem : (m : MedialGroup) (v : Vowel) (room : Room) (h : ℕ) → T (stacker_right m v (head_state room h))
unfolding pick
stacker_right_lem m v room h = each_open stacker_right tt m v room h

stacker_closes : (x h : ℕ) (f : Final) → Closes x on_stacker h (is_final_letter h && not (eqb h 0x1004)) f (stacked_and h f)
unfolding pick
stacker_closes x h no_final = (stacker_moves (is_final_letter h) (eqb h 0x1004), λ s. refl, omega arith, first_stacked)
stacker_closes x h (plain b) = stacker_moves_not (is_final_letter h)
stacker_closes x h (plain_pair b d) = stacker_stays
stacker_closes x h (stacked b) = stacker_stays
stacker_closes x h kinzi = stacker_stays
stacker_closes x h great_sa = stacker_stays

stacker_open : (x h : ℕ) (m : MedialGroup) (v : Vowel) (a : Row) → T (carries_marks h)
    → Follows x 22 on_stacker step_stacker (syllable h m v no_final no_tone ∷ a)
unfolding pick
stacker_open x h m v a c =
    bare_cases (λ (n : MedialGroup). λ (u : Vowel). Follows x 22 on_stacker step_stacker (syllable h n u no_final no_tone ∷ a))
    m v
    (on_open x 22 on_stacker _ h (group neither false false) no_vowel a
    (λ (b : Bool). when (is_final_letter h && not (eqb h 0x1004)) (close (stacked_and h) a)) c refl
    (close_followed x on_stacker h (stacked_and h) (is_final_letter h && not (eqb h 0x1004)) (both_left (is_final_letter h) (not (eqb h 0x1004)))
    stacker_stays (stacker_closes x h) a))
    (λ e. on_open x 22 on_stacker refuse h m v a (λ (b : Bool). step_stacker (syllable h m v no_final no_tone ∷ a)) c
    (same_equal _ _ (or_second (is_no_medial m && is_no_vowel v) _ e (stacker_right_lem m v (room_on_top a) h)))
    (rw (not_bare (is_no_medial m) (is_no_vowel v) (is_final_letter h && not (eqb h 0x1004)) e) refl))

-- and after a tone, two finals, a stacked final, kinzi or 103F
stack_refused : (c : Bool) (t : ToneMark) (s : State) → T (is waiting s || (is done s || is pair_final s)) → on_stacker (pick c (tone_state t s) done) ≡ refuse
unfolding pick
stack_refused true no_tone waiting i = refl
stack_refused true no_tone done i = refl
stack_refused true no_tone pair_final i = refl
stack_refused true dot s i = refl
stack_refused true visarga s i = refl
stack_refused false t s i = refl
stack_refused true no_tone plain_final_lem i = elim i [ ]
stack_refused true no_tone nga_final i = elim i [ ]
stack_refused true no_tone head_stays i = elim i [ ]
stack_refused true no_tone head_second i = elim i [ ]
stack_refused true no_tone head_closes i = elim i [ ]
stack_refused true no_tone head_nga i = elim i [ ]
stack_refused true no_tone Rattle.states.specs.State.after_ya_ra i = elim i [ ]
stack_refused true no_tone Rattle.states.specs.State.after_wa i = elim i [ ]
stack_refused true no_tone Rattle.states.specs.State.after_ha i = elim i [ ]
stack_refused true no_tone Rattle.states.specs.State.with_e i = elim i [ ]
stack_refused true no_tone Rattle.states.specs.State.with_e_aa i = elim i [ ]
stack_refused true no_tone Rattle.states.specs.State.with_i i = elim i [ ]
stack_refused true no_tone Rattle.states.specs.State.with_u i = elim i [ ]
stack_refused true no_tone Rattle.states.specs.State.with_vowel i = elim i [ ]

toned_refused : (c : Bool) (t : ToneMark) (s : State) → T (is_open_state s) → T (not (is_open_state (pick c (tone_state t s) done)))
    → on_stacker (pick c (tone_state t s) done) ≡ refuse
unfolding pick
toned_refused true no_tone s i n = go (is_open_state s) i n
  where
    go : (b : Bool) → T b → T (not b) → on_stacker s ≡ refuse
    go true i n = absurd n
    go false i n = absurd i
toned_refused true dot s i n = refl
toned_refused true visarga s i n = refl
toned_refused false t s i n = refl

-- on a plain 1004 it makes kinzi
kinzi_followed : (x : ℕ) (c : Bool) (h : ℕ) (m : MedialGroup) (v : Vowel) (d : ℕ) (t : ToneMark) (a : Row) → T (carries_final h) → c ≡ carries_final h
    → Agrees x 22 (on_stacker (pick c (tone_state t (pick (eqb d 0x1004) nga_final plain_final_lem)) done)) (syllable h m v (plain d) t ∷ a)
    (when (eqb d 0x1004 && is_no_tone t) (some (syllable h m v kinzi t ∷ a)))
unfolding pick
kinzi_followed x c h m v d t a i e = go (eqb d 0x1004) refl c e t
  where
    go : (p : Bool) → eqb d 0x1004 ≡ p → (c : Bool) → c ≡ carries_final h → (t : ToneMark)
        → Agrees x 22 (on_stacker (pick c (tone_state t (pick p nga_final plain_final_lem)) done)) (syllable h m v (plain d) t ∷ a)
        (when (p && is_no_tone t) (some (syllable h m v kinzi t ∷ a)))
    go true q true e no_tone =
        let made : ℕ → Type 0 = λ (k : ℕ). Makes x 1 (1 * 2 ^ 22) (syllable h m v (plain k) no_tone ∷ a) (syllable h m v kinzi no_tone ∷ a) in
        let n : d ≡ 0x1004 = eqb→eq d 0x1004 (subst T (sym q) tt) in
        (syllable h m v kinzi no_tone ∷ a, refl, carried (carries_final h) _ i, subst made (sym n) makes_kinzi)
    go false q true e no_tone = refl
    go true q true e dot = refl
    go false q true e dot = refl
    go true q true e visarga = refl
    go false q true e visarga = refl
    go p q false e t = absurd (subst T (sym e) i)

pub stacker_followed : (x : ℕ) (kept : Row) → KeptOk kept → Follows x 22 on_stacker step_stacker kept
unfolding pick
stacker_followed x [] k = refused x 22 (on_stacker done) [] none (stack_refused true no_tone done tt) refl
stacker_followed x (syllable h m v no_final t ∷ a) k =
    if_marked x 22 on_stacker step_stacker h m v no_final t a k.1 refl
    (toned_refused (carries_final h) t _ (opened m v (room_on_top a) h))
    (λ e. rw (no_closing (carries_marks h) (is_no_tone t) (is_no_medial m) (is_no_vowel v) (is_final_letter h && not (eqb h 0x1004)) e
    (λ i. rw (no_letter h i) refl)) refl)
    (stack_open t)
  where
    stack_open : (t : ToneMark) → T (carries_marks h) → T (is_no_tone t)
        → Follows x 22 on_stacker step_stacker (syllable h m v no_final t ∷ a)
    stack_open no_tone c o = stacker_open x h m v a c
    stack_open dot c o = elim o [ ]
    stack_open visarga c o = elim o [ ]
stacker_followed x (syllable h m v (plain c) t ∷ a) k =
    kinzi_followed x (carries_final h) h m v c t a (or_false (carries_final h) (apart h m v (plain c) t k.1).closing) refl
stacker_followed x (syllable h m v (plain_pair c d) t ∷ a) k = refused x 22 _ _ none (stack_refused (carries_final h) t pair_final tt) refl
stacker_followed x (syllable h m v (stacked c) t ∷ a) k = refused x 22 _ _ none (stack_refused (carries_final h) t waiting tt) refl
stacker_followed x (syllable h m v kinzi t ∷ a) k = refused x 22 _ _ none (stack_refused (carries_final h) t waiting tt) refl
stacker_followed x (syllable h m v great_sa t ∷ a) k = refused x 22 _ _ none (stack_refused (carries_final h) t done tt) refl
