-- A mark on the last syllable, where that is open, and its refusal where it is not; of medials and vowels by computing at every one.
-- Assumes nothing.
use mathlib.Core.Path.{◌≡◌, refl, ap, sym, subst, ◌∙◌}
use mathlib.Core.Bool.{Bool, true, false, not, ◌&&◌}
use mathlib.Core.List.{[], ◌∷◌}
use mathlib.Core.Option.{Option, none, some}
use Prim.Native.Nat.{ℕ, ◌+◌, ◌-◌, ◌*◌, ◌^◌, ◌≤◌}
use native.Mathlib.Omega.{arith}
use lib.Dec.{T, leb, leb→le}
use Rattle.letters.specs.Choice.{pick}
use Rattle.letters.specs.Letters.{is_medial, is_vowel_mark}
use Rattle.letters.specs.Marks.{MedialGroup, Vowel, ToneMark, no_tone}
use Rattle.letters.specs.Weights.{medial_set}
use Rattle.letters.proofs.Picks.{and_no_right}
use Rattle.letters.proofs.Tests.{is_true}
use Rattle.formula.proofs.Lists.{both, both_left, both_right}
use Rattle.formula.specs.Syllable.{Final, no_final, syllable, carries_marks, carries_final, is_no_vowel, is_syllable}
use Rattle.formula.specs.Row.{Row}
use Rattle.rows.specs.Machine.{medial_and, vowel_and, when, onto, KeptOk, is_open, step_medial, step_vowel}
use Rattle.formula.proofs.Classes.{within_bounds, mark_bounds}
use Rattle.states.specs.State.{State, done, pair_final, plain_final_lem, nga_final, waiting, with_vowel, Room, head_state, medial_state, vowel_state, room_on_top, state_of}
use Rattle.states.specs.Transition.{Transition, refuse, to, same, is_open_state, on_medial, on_vowel, on_killer, vowel_byte, Makes, adds_medial, adds_vowel, Agrees}
use Rattle.states.proofs.Tested.{each_open, everywhere, in_class_lem, same_equal}
use Rattle.states.proofs.Known.{known, open_state, unmarked_state}

-- a mark that changes a piece of the last syllable, whose number grows from w v to w n
abbrev pub changed : {A : Type 0} → (A → ℕ) → A → (A → State) → Option A → Transition
changed w v f none = refuse
changed w v f (some n) = to 1 (w n - w v) (f n)

abbrev pub grown : {A : Type 0} → (A → ℕ) → A → Option A → Bool
grown w v none = true
grown w v (some n) = leb (w v) (w n)

pub gained : (m n : ℕ) → T (leb m n) → n ≡ m + (n - m)
gained m n t = let l : m ≤ n = leb→le m n t in omega arith

changed_agrees : {A : Type 0} (x bit : ℕ) (w : A → ℕ) (v : A) (f : A → State) (g : A → Row) (kept : Row) (p : Bool) (o : Option A)
    → ((n : A) → f n ≡ state_of (g n)) → ((n : A) → w n ≡ w v + (w n - w v) → Makes x 1 ((w n - w v) * 2 ^ bit) kept (g n)) → T (grown w v o)
    → Agrees x bit (pick p (changed w v f o) refuse) kept (when p (onto g o))
unfolding pick
changed_agrees x bit w v f g kept true none e l t = refl
changed_agrees x bit w v f g kept true (some n) e l t = (g n, refl, e n, l n (gained (w v) (w n) t))
changed_agrees x bit w v f g kept false o e l t = refl

-- a state that is not open takes no such mark
pub record Shut (x : ℕ) (s : State) : Type 0 where
  pub medial : on_medial x s ≡ refuse
  pub vowel : on_vowel x s ≡ refuse
  pub killer : on_killer s ≡ refuse

pub shut : (x : ℕ) (s : State) → T (not (is_open_state s)) → Shut x s
unfolding pick
shut x done t = record { medial = refl; vowel = refl; killer = refl }
shut x pair_final t = record { medial = refl; vowel = refl; killer = refl }
shut x plain_final_lem t = record { medial = refl; vowel = refl; killer = refl }
shut x nga_final t = record { medial = refl; vowel = refl; killer = refl }
shut x waiting t = record { medial = refl; vowel = refl; killer = refl }
shut x Rattle.states.specs.State.head_stays t = elim t [ ]
shut x Rattle.states.specs.State.head_second t = elim t [ ]
shut x Rattle.states.specs.State.head_closes t = elim t [ ]
shut x Rattle.states.specs.State.head_nga t = elim t [ ]
shut x Rattle.states.specs.State.after_ya_ra t = elim t [ ]
shut x Rattle.states.specs.State.after_wa t = elim t [ ]
shut x Rattle.states.specs.State.after_ha t = elim t [ ]
shut x Rattle.states.specs.State.with_e t = elim t [ ]
shut x Rattle.states.specs.State.with_e_aa t = elim t [ ]
shut x Rattle.states.specs.State.with_i t = elim t [ ]
shut x Rattle.states.specs.State.with_u t = elim t [ ]
shut x with_vowel t = elim t [ ]

pub refused : (x bit : ℕ) (t : Transition) (kept : Row) (o : Option Row) → t ≡ refuse → o ≡ none → Agrees x bit t kept o
refused x bit t kept o e i = rw e i

-- what this does to the state is what that does to the row
abbrev pub Follows : ℕ → ℕ → (State → Transition) → (Row → Option Row) → Row → Type 0
Follows x bit moved step kept = Agrees x bit (moved (state_of kept)) kept (step kept)

-- the cases of a mark that only an open syllable takes whose head carries marks
module _ (x bit : ℕ) (moved : State → Transition) (step : Row → Option Row) (h : ℕ) (m : MedialGroup) (v : Vowel) (f : Final) (t : ToneMark) (a : Row)
    (ok : T (is_syllable (syllable h m v f t))) (at_vowel : moved with_vowel ≡ refuse) where
  abbrev row : Row
  row = syllable h m v f t ∷ a

  unmarked : (carries_marks h && is_open f t) ≡ false → T (carries_final h && is_open f t) → moved (state_of row) ≡ refuse
  unmarked e i = go (carries_marks h) refl
    where
      o : T (is_open f t)
      o = both_right (carries_final h) (is_open f t) i

      go : (b : Bool) → carries_marks h ≡ b → moved (state_of row) ≡ refuse
      go true q = absurd (subst T e (both (carries_marks h) (is_open f t) (subst T (sym q) tt) o))
      go false q = ap moved (unmarked_state h m v f t a q (both_left (carries_final h) (is_open f t) i) ok o) ∙ at_vowel

  not_taken : (T (not (is_open_state (state_of row))) → moved (state_of row) ≡ refuse) → (carries_marks h && is_open f t) ≡ false
      → moved (state_of row) ≡ refuse
  not_taken no_move e = go (carries_final h && is_open f t) refl
    where
      go : (b : Bool) → (carries_final h && is_open f t) ≡ b → moved (state_of row) ≡ refuse
      go true q = unmarked e (subst T (sym q) tt)
      go false q = no_move (subst (λ (b : Bool). T (not b)) (sym ((known h m v f t a).0 ∙ q)) tt)

  pub if_marked : (T (not (is_open_state (state_of row))) → moved (state_of row) ≡ refuse)
      → ((carries_marks h && is_open f t) ≡ false → step row ≡ none)
      → (T (carries_marks h) → T (is_open f t) → Follows x bit moved step row) → Follows x bit moved step row
  if_marked no_move no_step at_open = go (carries_marks h && is_open f t) refl
    where
      go : (b : Bool) → (carries_marks h && is_open f t) ≡ b → Follows x bit moved step row
      go true e =
          let i : T (carries_marks h && is_open f t) = subst T (sym e) tt in
          at_open (both_left (carries_marks h) (is_open f t) i) (both_right (carries_marks h) (is_open f t) i)
      go false e = refused x bit (moved (state_of row)) row (step row) (not_taken no_move e) (no_step e)

-- what is shown of the state of an open syllable and of what the machine does where the head carries marks
pub on_open : (x bit : ℕ) (moved : State → Transition) (u : Transition) (h : ℕ) (m : MedialGroup) (v : Vowel) (a : Row) (o : Bool → Option Row)
    → T (carries_marks h) → moved (vowel_state v (medial_state m (head_state (room_on_top a) h))) ≡ u
    → Agrees x bit u (syllable h m v no_final no_tone ∷ a) (o true)
    → Agrees x bit (moved (state_of (syllable h m v no_final no_tone ∷ a))) (syllable h m v no_final no_tone ∷ a) (o (carries_marks h))
on_open x bit moved u h m v a o c e g =
    let q : moved (state_of (syllable h m v no_final no_tone ∷ a)) ≡ u = ap moved (sym (open_state h m v a c)) ∙ e in
    let i : carries_marks h ≡ true = is_true (carries_marks h) c in
    rw (q, i) g

-- medials
abbrev medial_right : ℕ → MedialGroup → Vowel → State → Bool
medial_right x m v s =
    grown medial_set m (medial_and x m)
    && same (on_medial x (vowel_state v (medial_state m s)))
    (pick (is_no_vowel v && true) (changed medial_set m (λ (n : MedialGroup). vowel_state v (medial_state n s)) (medial_and x m)) refuse)

medial_right_lem : (x : ℕ) (m : MedialGroup) (v : Vowel) (room : Room) (h : ℕ) → T (is_medial x) → T (medial_right x m v (head_state room h))
unfolding pick
medial_right_lem x m v room h i =
    let l = within_bounds 0x103B 0x103E x i in
    each_open (medial_right x) (in_class_lem is_medial (λ (y : ℕ). everywhere (medial_right y)) tt x i (omega arith)) m v room h

medial_open : (x h : ℕ) (m : MedialGroup) (v : Vowel) (f : Final) (t : ToneMark) (a : Row) → T (is_medial x) → T (carries_marks h) → T (is_open f t)
    → Follows x 8 (on_medial x) (step_medial x) (syllable h m v f t ∷ a)
medial_open x h m v no_final no_tone a i c o =
    let r = medial_right_lem x m v (room_on_top a) h i in
    on_open x 8 (on_medial x) _ h m v a
    (λ (b : Bool). when (b && (is_no_vowel v && true)) (onto (λ (n : MedialGroup). syllable h n v no_final no_tone ∷ a) (medial_and x m))) c
    (same_equal _ _ (both_right (grown medial_set m (medial_and x m)) _ r))
    (changed_agrees x 8 medial_set m (λ (n : MedialGroup). vowel_state v (medial_state n (head_state (room_on_top a) h)))
    (λ (n : MedialGroup). syllable h n v no_final no_tone ∷ a)
    (syllable h m v no_final no_tone ∷ a) (is_no_vowel v && true) (medial_and x m) (λ n. open_state h n v a c) (λ n e. adds_medial (omega (arith, e)))
    (both_left (grown medial_set m (medial_and x m)) _ r))
medial_open x h m v no_final Rattle.letters.specs.Marks.dot a i c o = elim o [ ]
medial_open x h m v no_final Rattle.letters.specs.Marks.visarga a i c o = elim o [ ]
medial_open x h m v (Rattle.formula.specs.Syllable.plain _) t a i c o = elim o [ ]
medial_open x h m v (Rattle.formula.specs.Syllable.plain_pair _ _) t a i c o = elim o [ ]
medial_open x h m v (Rattle.formula.specs.Syllable.stacked _) t a i c o = elim o [ ]
medial_open x h m v Rattle.formula.specs.Syllable.kinzi t a i c o = elim o [ ]
medial_open x h m v Rattle.formula.specs.Syllable.great_sa t a i c o = elim o [ ]

not_marked : (c p o : Bool) → (c && o) ≡ false → (c && (p && o)) ≡ false
not_marked true p o e = and_no_right p o e
not_marked false p o e = refl

pub medial_followed : (x : ℕ) (kept : Row) → KeptOk kept → T (is_medial x) → Follows x 8 (on_medial x) (step_medial x) kept
unfolding pick
medial_followed x [] k i = refused x 8 _ [] none (shut x done tt).medial refl
medial_followed x (syllable h m v f t ∷ a) k i =
    if_marked x 8 (on_medial x) (step_medial x) h m v f t a k.1 refl (λ n. (shut x (state_of (syllable h m v f t ∷ a)) n).medial)
    (λ e. rw (not_marked (carries_marks h) (is_no_vowel v) (is_open f t) e) refl) (medial_open x h m v f t a i)

-- vowels
abbrev vowel_right : ℕ → MedialGroup → Vowel → State → Bool
vowel_right x m v s =
    grown vowel_byte v (vowel_and x v)
    && same (on_vowel x (vowel_state v (medial_state m s))) (changed vowel_byte v (λ (n : Vowel). vowel_state n (medial_state m s)) (vowel_and x v))

vowel_right_lem : (x : ℕ) (m : MedialGroup) (v : Vowel) (room : Room) (h : ℕ) → T (is_vowel_mark x) → T (vowel_right x m v (head_state room h))
unfolding pick
vowel_right_lem x m v room h i =
    let l = mark_bounds x i in
    each_open (vowel_right x) (in_class_lem is_vowel_mark (λ (y : ℕ). everywhere (vowel_right y)) tt x i (omega arith)) m v room h

vowel_open : (x h : ℕ) (m : MedialGroup) (v : Vowel) (f : Final) (t : ToneMark) (a : Row) → T (is_vowel_mark x) → T (carries_marks h) → T (is_open f t)
    → Follows x 24 (on_vowel x) (step_vowel x) (syllable h m v f t ∷ a)
unfolding pick
vowel_open x h m v no_final no_tone a i c o =
    let r = vowel_right_lem x m v (room_on_top a) h i in
    on_open x 24 (on_vowel x) _ h m v a (λ (b : Bool). when (b && true) (onto (λ (n : Vowel). syllable h m n no_final no_tone ∷ a) (vowel_and x v))) c
    (same_equal _ _ (both_right (grown vowel_byte v (vowel_and x v)) _ r))
    (changed_agrees x 24 vowel_byte v (λ (n : Vowel). vowel_state n (medial_state m (head_state (room_on_top a) h)))
    (λ (n : Vowel). syllable h m n no_final no_tone ∷ a)
    (syllable h m v no_final no_tone ∷ a) true (vowel_and x v) (λ n. open_state h m n a c) (λ n e. adds_vowel (omega (arith, e)))
    (both_left (grown vowel_byte v (vowel_and x v)) _ r))
vowel_open x h m v no_final Rattle.letters.specs.Marks.dot a i c o = elim o [ ]
vowel_open x h m v no_final Rattle.letters.specs.Marks.visarga a i c o = elim o [ ]
vowel_open x h m v (Rattle.formula.specs.Syllable.plain _) t a i c o = elim o [ ]
vowel_open x h m v (Rattle.formula.specs.Syllable.plain_pair _ _) t a i c o = elim o [ ]
vowel_open x h m v (Rattle.formula.specs.Syllable.stacked _) t a i c o = elim o [ ]
vowel_open x h m v Rattle.formula.specs.Syllable.kinzi t a i c o = elim o [ ]
vowel_open x h m v Rattle.formula.specs.Syllable.great_sa t a i c o = elim o [ ]

pub vowel_followed : (x : ℕ) (kept : Row) → KeptOk kept → T (is_vowel_mark x) → Follows x 24 (on_vowel x) (step_vowel x) kept
unfolding pick
vowel_followed x [] k i = refused x 24 _ [] none (shut x done tt).vowel refl
vowel_followed x (syllable h m v f t ∷ a) k i =
    if_marked x 24 (on_vowel x) (step_vowel x) h m v f t a k.1 refl (λ n. (shut x (state_of (syllable h m v f t ∷ a)) n).vowel) (λ e. rw e refl)
    (vowel_open x h m v f t a i)
