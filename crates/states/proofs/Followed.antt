-- The transition of the state is the machine's step: the same refusals, the state of the new row, and what it makes of the row.
-- Assumes nothing.
use mathlib.Core.Path.{◌≡◌, refl, sym, ◌∙◌}
use mathlib.Core.Bool.{Bool, true, false, not, ◌&&◌}
use mathlib.Core.List.{[], ◌∷◌}
use mathlib.Core.Option.{Option, none, some}
use Prim.Native.Nat.{ℕ, ◌-◌, ◌*◌, ◌^◌}
use native.Mathlib.Omega.{arith}
use lib.Dec.{T, eqb, eqb→eq}
use Rattle.letters.specs.Choice.{pick}
use Rattle.letters.specs.Letters.{is_tone, kind_of}
use Rattle.letters.specs.Marks.{MedialGroup, Vowel, ToneMark, no_tone, dot, visarga}
use Rattle.letters.specs.Weights.{is_head, tone_weight}
use Rattle.letters.specs.declared.kind.Kind.{Kind}
use Rattle.letters.specs.declared.kind.Kind.TheVariants.{Consonant, IndependentVowel, Medial, VowelMark, Tone, Killer, Stacker, GreatSa, Digit, Stop, Sign, Foreign}
use Rattle.letters.proofs.Picks.{and_no_right}
use Rattle.formula.proofs.Classes.{in_class, kind_class, head_of_lem, within_bounds}
use Rattle.formula.proofs.Lists.{both_left, both_right}
use Rattle.formula.specs.Syllable.{Final, no_final, plain, plain_pair, stacked, kinzi, great_sa, syllable, bare, carries_marks, carries_final, is_no_tone, is_closed}
use Rattle.formula.specs.Row.{Row}
use Rattle.rows.specs.Machine.{tone_of, when, onto, end_of, KeptOk, is_not_great_sa, admits, step_head, step_tone, step_great_sa, act, step}
use Rattle.states.specs.State.{State, done, head_stays, Room, no_room, head_state, begun_state, tone_state, room_on_top, state_of}
use Rattle.states.specs.Transition.{refuse, to, takes_head, room_at, on_head, on_tone, on_great_sa, transition, bit_of, begins, begins_great_sa, adds_tone, Agrees}
use Rattle.states.proofs.Tested.{in_class_lem}
use Rattle.states.proofs.Known.{admits_is, known, room_is}
use Rattle.states.proofs.Marked.{Follows, medial_followed, vowel_followed}
use Rattle.states.proofs.Closing.{killer_followed, stacker_followed}

pushed : (x bit : ℕ) (kept : Row) (p q : Bool) (room : Room) → q ≡ p → room ≡ room_on_top kept → T (is_head x)
    → Agrees x bit (pick p (to 2 0 (pick (carries_final x) (begun_state room x) done)) refuse) kept (when q (some (bare x ∷ kept)))
unfolding pick
pushed x bit kept true q room e i h = rw (e, i) (bare x ∷ kept, refl, refl, begins h)
pushed x bit kept false q room e i h = rw e refl

head_followed : (x bit : ℕ) (kept : Row) → T (is_head x) → KeptOk kept → T (is_not_great_sa (end_of kept)) → Follows x bit (on_head x) (step_head x) kept
head_followed x bit kept h k n =
    pushed x bit kept (takes_head x (state_of kept)) (admits (end_of kept) x) (room_at (state_of kept)) (admits_is x kept k n) (room_is kept) h

-- 103F
great_sa_shut : (y h : ℕ) (m : MedialGroup) (v : Vowel) (t : ToneMark) (a : Row)
    → head_state (room_on_top (syllable h m v great_sa t ∷ a)) y ≡ head_stays
unfolding pick
great_sa_shut y h m v t a = go (carries_final h)
  where
    go : (c : Bool) → head_state (pick c no_room no_room) y ≡ head_stays
    go true = refl
    go false = refl

module _ (x bit : ℕ) (y : x ≡ 0x103F) where
  great_sa_on : (p q : Bool) (h : ℕ) (m : MedialGroup) (v : Vowel) (t : ToneMark) (a : Row) → p ≡ q
      → Agrees x bit (pick p (to 2 0 head_stays) refuse) (syllable h m v no_final t ∷ a)
      (when q (some (bare 0x101E ∷ syllable h m v great_sa t ∷ a)))
  unfolding pick carries_marks carries_final
  great_sa_on p true h m v t a e =
      rw e (bare 0x101E ∷ syllable h m v great_sa t ∷ a, refl, sym (great_sa_shut 0x101E h m v t a), begins_great_sa y)
  great_sa_on p false h m v t a e = rw e refl

  great_sa_no : (p c : Bool) (kept : Row) (o : Option Row) → p ≡ (c && false)
      → Agrees x bit (pick p (to 2 0 head_stays) refuse) kept (when (c && false) o)
  unfolding pick
  great_sa_no p c kept o e = let z = and_no_right c false refl in rw (e ∙ z, z) refl

  great_sa_followed : (kept : Row) → Follows x bit on_great_sa step_great_sa kept
  unfolding pick
  great_sa_followed [] = refl
  great_sa_followed (syllable h m v no_final t ∷ a) = great_sa_on _ _ h m v t a (known h m v no_final t a).0
  great_sa_followed (syllable h m v (plain c) t ∷ a) = great_sa_no _ (carries_final h) _ _ (known h m v (plain c) t a).0
  great_sa_followed (syllable h m v (plain_pair c d) t ∷ a) = great_sa_no _ (carries_final h) _ _ (known h m v (plain_pair c d) t a).0
  great_sa_followed (syllable h m v (stacked c) t ∷ a) = great_sa_no _ (carries_final h) _ _ (known h m v (stacked c) t a).0
  great_sa_followed (syllable h m v kinzi t ∷ a) = great_sa_no _ (carries_final h) _ _ (known h m v kinzi t a).0
  great_sa_followed (syllable h m v great_sa t ∷ a) = great_sa_no _ (carries_final h) _ _ (known h m v great_sa t a).0

-- a tone
abbrev tone_right : ℕ → Option ToneMark → Bool
tone_right x none = false
tone_right x (some n) = not (is_no_tone n) && eqb (tone_weight n) (x - 0x1036)

tone_right_lem : (x : ℕ) → T (is_tone x) → T (tone_right x (tone_of x))
tone_right_lem x i =
    let b = within_bounds 0x1037 0x1038 x i in
    in_class_lem is_tone (λ (y : ℕ). tone_right y (tone_of y)) tt x i (omega arith)

toned_state : (n : ToneMark) (s : State) (c : Bool) → T (not (is_no_tone n)) → done ≡ pick c (tone_state n s) done
unfolding pick
toned_state dot s true i = refl
toned_state dot s false i = refl
toned_state visarga s true i = refl
toned_state visarga s false i = refl
toned_state no_tone s c i = elim i [ ]

no_tone_weight : (t : ToneMark) → T (is_no_tone t) → tone_weight t ≡ 0
no_tone_weight no_tone i = refl
no_tone_weight dot i = elim i [ ]
no_tone_weight visarga i = elim i [ ]

tone_on : (x : ℕ) (p q : Bool) (o : Option ToneMark) (h : ℕ) (m : MedialGroup) (v : Vowel) (f : Final) (t : ToneMark) (a : Row) → p ≡ q
    → (T q → T (is_no_tone t)) → T (tone_right x o)
    → Agrees x 32 (pick p (to 1 (x - 0x1036) done) refuse) (syllable h m v f t ∷ a) (when q (onto (λ (n : ToneMark). syllable h m v f n ∷ a) o))
unfolding pick
tone_on x p true (some n) h m v f t a e z i =
    let w : tone_weight n ≡ x - 0x1036 = eqb→eq _ _ (both_right (not (is_no_tone n)) _ i) in
    let u : tone_weight t ≡ 0 = no_tone_weight t (z tt) in
    rw e (syllable h m v f n ∷ a, refl, toned_state n _ (carries_final h) (both_left (not (is_no_tone n)) _ i), adds_tone {g = (x - 0x1036) * 2 ^ 32} {t = t} {n = n} (omega arith))
tone_on x p true none h m v f t a e z i = absurd i
tone_on x p false o h m v f t a e z i = rw e refl

tone_followed : (x : ℕ) (kept : Row) → T (is_tone x) → Follows x 32 (on_tone x) (step_tone x) kept
unfolding pick
tone_followed x [] i = refl
tone_followed x (syllable h m v f t ∷ a) i =
    tone_on x _ _ (tone_of x) h m v f t a (known h m v f t a).2
    (λ q. both_right (is_closed f) (is_no_tone t) (both_right (carries_final h) (is_closed f && is_no_tone t) q)) (tone_right_lem x i)

-- every value
followed_by : (j : Kind) (x : ℕ) (kept : Row) → T (in_class j x) → KeptOk kept → T (is_not_great_sa (end_of kept))
    → Follows x (bit_of j) (transition j x) (act j x) kept
followed_by Consonant x kept i k n = head_followed x 0 kept (head_of_lem Consonant x i tt) k n
followed_by IndependentVowel x kept i k n = head_followed x 0 kept (head_of_lem IndependentVowel x i tt) k n
followed_by Medial x kept i k n = medial_followed x kept k i
followed_by VowelMark x kept i k n = vowel_followed x kept k i
followed_by Tone x kept i k n = tone_followed x kept i
followed_by Killer x kept i k n = killer_followed x kept k
followed_by Stacker x kept i k n = stacker_followed x kept k
followed_by GreatSa x kept i k n = great_sa_followed x 0 (eqb→eq x 0x103F i) kept
followed_by Digit x kept i k n = head_followed x 0 kept (head_of_lem Digit x i tt) k n
followed_by Stop x kept i k n = head_followed x 0 kept (head_of_lem Stop x i tt) k n
followed_by Sign x kept i k n = head_followed x 0 kept (head_of_lem Sign x i tt) k n
followed_by Foreign x kept i k n = refl

pub followed : (x : ℕ) (kept : Row) → KeptOk kept → T (is_not_great_sa (end_of kept))
    → Agrees x (bit_of (kind_of x)) (transition (kind_of x) x (state_of kept)) kept (step kept x)
followed x kept k n = followed_by (kind_of x) x kept (kind_class x) k n
