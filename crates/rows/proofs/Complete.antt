-- Every row is read: `run` on what the row gives when joined keeps that row.
-- Assumes nothing.
use mathlib.Core.Path.{◌≡◌, refl, ap, sym, ◌∙◌}
use mathlib.Core.Bool.{Bool, true, false, not, ◌&&◌, ◌||◌}
use mathlib.Core.List.{List, [], ◌∷◌, ◌++◌, reverse, reverse_aux}
use mathlib.Core.Option.{Option, none, some}
use Prim.Native.Nat.{ℕ, ◌≤◌, ◌<◌}
use native.Mathlib.Omega.{arith}
use lib.Dec.{T, eqb, eqb→eq, leb, leb→le, le→leb}
use Rattle.letters.specs.Choice.{pick}
use Rattle.letters.specs.Letters.{within, is_consonant, is_independent_vowel, is_medial, is_vowel_mark, is_tone, is_killer, is_stacker, is_great_sa, is_digit, is_stop, is_sign, kind_of}
use Rattle.letters.specs.Marks.{neither, ya, ra, MedialGroup, group, medial_text, Vowel, no_vowel, vowel_aa, vowel_i, vowel_ii, vowel_u, vowel_uu, vowel_e, vowel_ai, vowel_e_aa, vowel_e_aa_killer, vowel_am, vowel_i_u, vowel_u_am, vowel_text, ToneMark, no_tone, dot, visarga, tone_text}
use Rattle.letters.specs.Weights.{is_head, is_final_letter}
use Rattle.letters.specs.declared.kind.Kind.{Kind}
use Rattle.letters.specs.declared.kind.Kind.TheVariants.{Consonant, IndependentVowel, Medial, VowelMark, Tone, Killer, Stacker, GreatSa, Digit, Stop, Sign, Foreign}
use Rattle.letters.proofs.Tests.{is_true, either, or_false, or_both_left, or_both_right, pick_true, on_pick}
use Rattle.formula.proofs.Lists.{both, both_left, both_right}
use Rattle.formula.specs.Syllable.{Final, no_final, plain, plain_pair, stacked, kinzi, great_sa, Syllable, syllable, bare, head_of, final_of, carries_marks, carries_final, is_no_medial, is_no_vowel, is_no_final, is_no_tone, is_closed, is_final, takes_tone, is_syllable, follows, final_text, head_text, part}
use Rattle.formula.specs.Row.{Row, is_row_after, IsRow, join_after, join}
use Rattle.rows.specs.Machine.{when, end_of, KeptOk, admits, plain_and, step_head, act, step, and_then, run}
use Rattle.rows.proofs.Sound.{apart}

-- runs one after the other
then_step : (x : ℕ) (w : List ℕ) (a b : Row) (o : Option Row) → step a x ≡ some b → run w b ≡ o → run (x ∷ w) a ≡ o
then_step x w a b o e f = ap (λ (p : Option Row). and_then p (run w)) e ∙ f

pub run_append : (u w : List ℕ) (a : Row) → run (u ++ w) a ≡ and_then (run u a) (run w)
run_append [] w a = refl
run_append (x ∷ u) w a = go (step a x) (run_append u w)
  where
    go : (o : Option Row) → ((b : Row) → run (u ++ w) b ≡ and_then (run u b) (run w)) → and_then o (run (u ++ w)) ≡ and_then (and_then o (run u)) (run w)
    go none f = refl
    go (some b) f = f b

then_run : (u w : List ℕ) (a b : Row) (o : Option Row) → run u a ≡ some b → run w b ≡ o → run (u ++ w) a ≡ o
then_run u w a b o e f = run_append u w a ∙ ap (λ (p : Option Row). and_then p (run w)) e ∙ f

when_true : (b : Bool) (o : Option Row) → T b → when b o ≡ o
when_true true o t = refl
when_true false o t = absurd t

-- `within`, as two orders, and back
pub low : (a b x : ℕ) → T (within a b x) → a ≤ x
low a b x t = leb→le a x (both_left (leb a x) (leb x b) t)

pub high : (a b x : ℕ) → T (within a b x) → x ≤ b
high a b x t = leb→le x b (both_right (leb a x) (leb x b) t)

pub inside : (a b x : ℕ) → a ≤ x → x ≤ b → T (within a b x)
inside a b x l h = both (leb a x) (leb x b) (le→leb a x l) (le→leb x b h)

-- the kinds of heads
pub consonant_kind : (x : ℕ) → T (is_consonant x) → kind_of x ≡ Consonant
consonant_kind x t = pick_true (is_consonant x) Consonant _ (is_true (is_consonant x) t)

pub final_consonant : (x : ℕ) → T (is_final_letter x) → T (is_consonant x)
final_consonant x t =
    let l : 0x1000 ≤ x = low 0x1000 0x1020 x t in
    let h : x ≤ 0x1020 = high 0x1000 0x1020 x t in
    inside 0x1000 0x1021 x l (omega arith)

-- a kind that begins a syllable
abbrev pub is_head_kind : Kind → Bool
is_head_kind Consonant = true
is_head_kind IndependentVowel = true
is_head_kind Medial = false
is_head_kind VowelMark = false
is_head_kind Tone = false
is_head_kind Killer = false
is_head_kind Stacker = false
is_head_kind GreatSa = false
is_head_kind Digit = true
is_head_kind Stop = true
is_head_kind Sign = true
is_head_kind Foreign = false

head_acts : (k : Kind) (x : ℕ) (a : Row) → T (is_head_kind k) → act k x a ≡ step_head x a
head_acts Consonant x a t = refl
head_acts IndependentVowel x a t = refl
head_acts Medial x a t = absurd t
head_acts VowelMark x a t = absurd t
head_acts Tone x a t = absurd t
head_acts Killer x a t = absurd t
head_acts Stacker x a t = absurd t
head_acts GreatSa x a t = absurd t
head_acts Digit x a t = refl
head_acts Stop x a t = refl
head_acts Sign x a t = refl
head_acts Foreign x a t = absurd t

-- x is none of the marks, which stand from 102B to 103F
abbrev NoMark : ℕ → Type 0
NoMark x = 0x102B ≤ x → x ≤ 0x103F → ⊥

below_marks : (a b x : ℕ) → b < 0x102B → T (within a b x) → NoMark x
below_marks a b x q t =
    let h : x ≤ b = high a b x t in
    λ l u. omega arith

above_marks : (a b x : ℕ) → 0x103F < a → T (within a b x) → NoMark x
above_marks a b x q t =
    let l : a ≤ x = low a b x t in
    λ m u. omega arith

head_no_mark : (x : ℕ) → T (is_head x) → NoMark x
head_no_mark x =
    either (NoMark x) (is_consonant x) _ (below_marks 0x1000 0x1021 x (omega arith))
    (either (NoMark x) (is_independent_vowel x) _
    (either (NoMark x) (within 0x1023 0x1027 x) _ (below_marks 0x1023 0x1027 x (omega arith)) (below_marks 0x1029 0x102A x (omega arith)))
    (either (NoMark x) (is_digit x) _ (above_marks 0x1040 0x1049 x (omega arith))
    (either (NoMark x) (is_stop x) (is_sign x) (above_marks 0x104A 0x104B x (omega arith)) (above_marks 0x104C 0x104F x (omega arith)))))

-- a mark of a range, and one by itself
no_head_within : (a b x : ℕ) → 0x102B ≤ a → b ≤ 0x103F → NoMark x → T (within a b x) → ⊥
no_head_within a b x p q n t =
    let l : a ≤ x = low a b x t in
    let h : x ≤ b = high a b x t in
    n (omega arith) (omega arith)

no_head_at : (a x : ℕ) → 0x102B ≤ a → a ≤ 0x103F → NoMark x → T (eqb x a) → ⊥
no_head_at a x p q n t =
    let e : x ≡ a = eqb→eq x a t in
    n (omega arith) (omega arith)

abbrev HeadKind : Kind → Type 0
HeadKind k = T (is_head_kind k)

pub head_kind : (x : ℕ) → T (is_head x) → T (is_head_kind (kind_of x))
head_kind x i =
    let n : NoMark x = head_no_mark x i in
    on_pick HeadKind (is_consonant x) Consonant _ (λ t. tt)
    (λ c. on_pick HeadKind (is_independent_vowel x) IndependentVowel _ (λ t. tt)
    (λ v. on_pick HeadKind (is_medial x) Medial _ (no_head_within 0x103B 0x103E x (omega arith) (omega arith) n)
    (λ _. on_pick HeadKind (is_vowel_mark x) VowelMark _
    (either ⊥ (within 0x102B 0x1032 x) _ (no_head_within 0x102B 0x1032 x (omega arith) (omega arith) n) (no_head_at 0x1036 x (omega arith) (omega arith) n))
    (λ _. on_pick HeadKind (is_tone x) Tone _ (no_head_within 0x1037 0x1038 x (omega arith) (omega arith) n)
    (λ _. on_pick HeadKind (is_killer x) Killer _ (no_head_at 0x103A x (omega arith) (omega arith) n)
    (λ _. on_pick HeadKind (is_stacker x) Stacker _ (no_head_at 0x1039 x (omega arith) (omega arith) n)
    (λ _. on_pick HeadKind (is_great_sa x) GreatSa _ (no_head_at 0x103F x (omega arith) (omega arith) n)
    (λ _. on_pick HeadKind (is_digit x) Digit _ (λ t. tt)
    (λ d. on_pick HeadKind (is_stop x) Stop _ (λ t. tt)
    (λ p. on_pick HeadKind (is_sign x) Sign Foreign (λ t. tt)
    (λ s. either ⊥ (is_consonant x) _ c (either ⊥ (is_independent_vowel x) _ v (either ⊥ (is_digit x) _ d (either ⊥ (is_stop x) (is_sign x) p s))) i)))))))))))

-- a head is read by `step_head`
pub head_step : (x : ℕ) (a : Row) → T (is_head x) → step a x ≡ step_head x a
head_step x a i = head_acts (kind_of x) x a (head_kind x i)

-- what is kept before 103F is read: the final is not yet known
abbrev pub un_great_sa : Final → Final
un_great_sa no_final = no_final
un_great_sa (plain c) = plain c
un_great_sa (plain_pair c d) = plain_pair c d
un_great_sa (stacked c) = stacked c
un_great_sa kinzi = kinzi
un_great_sa great_sa = no_final

abbrev pub clear : Row → Row
clear [] = []
clear (syllable h m v f t ∷ a) = syllable h m v (un_great_sa f) t ∷ a

clear_closed : (a : Row) → T (is_closed (end_of a)) → clear a ≡ a
clear_closed [] t = refl
clear_closed (syllable h m v no_final q ∷ a) t = refl
clear_closed (syllable h m v (plain c) q ∷ a) t = refl
clear_closed (syllable h m v (plain_pair c d) q ∷ a) t = refl
clear_closed (syllable h m v (stacked c) q ∷ a) t = absurd t
clear_closed (syllable h m v kinzi q ∷ a) t = absurd t
clear_closed (syllable h m v great_sa q ∷ a) t = absurd t

-- the head of a syllable
great_sa_step : (i h : ℕ) (m : MedialGroup) (v : Vowel) (t : ToneMark) (a : Row) → h ≡ 0x101E → T (is_syllable (syllable i m v great_sa t))
    → step (syllable i m v no_final t ∷ a) 0x103F ≡ some (bare h ∷ syllable i m v great_sa t ∷ a)
unfolding pick
great_sa_step i h m v t a e q =
    let p = apart i m v great_sa t q in
    when_true (carries_final i && is_no_tone t) (some (bare 0x101E ∷ syllable i m v great_sa t ∷ a))
    (both (carries_final i) (is_no_tone t) (or_false (carries_final i) p.closing) p.tone)
    ∙ ap (λ (y : ℕ). some (bare y ∷ syllable i m v great_sa t ∷ a)) (sym e)

head_run : (a : Row) (h : ℕ) → KeptOk a → T (is_head h) → T (follows (end_of a) h) → step (clear a) (head_text (end_of a) h) ≡ some (bare h ∷ a)
head_run [] h k i q = head_step h [] i
head_run (syllable y m v no_final t ∷ a) h k i q = head_step h (syllable y m v no_final t ∷ a) i
head_run (syllable y m v (plain c) t ∷ a) h k i q = head_step h (syllable y m v (plain c) t ∷ a) i
head_run (syllable y m v (plain_pair c d) t ∷ a) h k i q = head_step h (syllable y m v (plain_pair c d) t ∷ a) i
head_run (syllable y m v (stacked c) t ∷ a) h k i q =
    head_step h (syllable y m v (stacked c) t ∷ a) i ∙ when_true (is_final_letter h) (some (bare h ∷ syllable y m v (stacked c) t ∷ a)) q
head_run (syllable y m v kinzi t ∷ a) h k i q =
    head_step h (syllable y m v kinzi t ∷ a) i ∙ when_true (is_final_letter h) (some (bare h ∷ syllable y m v kinzi t ∷ a)) q
head_run (syllable y m v great_sa t ∷ a) h k i q = great_sa_step y h m v t a (eqb→eq h 0x101E q) k.1

-- the marks of a syllable
carries : (b : Bool) → T (b || false) → b ≡ true
carries b q = is_true b (or_false b q)

medial_run : (h : ℕ) (m : MedialGroup) (a : Row) → T (carries_marks h || is_no_medial m)
    → run (medial_text m) (bare h ∷ a) ≡ some (syllable h m no_vowel no_final no_tone ∷ a)
unfolding pick
medial_run h (group neither false false) a q = refl
medial_run h (group neither false true) a q = simp (carries (carries_marks h) q)
medial_run h (group neither true false) a q = simp (carries (carries_marks h) q)
medial_run h (group neither true true) a q = simp (carries (carries_marks h) q)
medial_run h (group ya false false) a q = simp (carries (carries_marks h) q)
medial_run h (group ya false true) a q = simp (carries (carries_marks h) q)
medial_run h (group ya true false) a q = simp (carries (carries_marks h) q)
medial_run h (group ya true true) a q = simp (carries (carries_marks h) q)
medial_run h (group ra false false) a q = simp (carries (carries_marks h) q)
medial_run h (group ra false true) a q = simp (carries (carries_marks h) q)
medial_run h (group ra true false) a q = simp (carries (carries_marks h) q)
medial_run h (group ra true true) a q = simp (carries (carries_marks h) q)

vowel_run : (h : ℕ) (m : MedialGroup) (v : Vowel) (a : Row) → T (carries_marks h || is_no_vowel v)
    → run (vowel_text v) (syllable h m no_vowel no_final no_tone ∷ a) ≡ some (syllable h m v no_final no_tone ∷ a)
unfolding pick
vowel_run h m no_vowel a q = refl
vowel_run h m (vowel_aa true) a q = simp (carries (carries_marks h) q)
vowel_run h m (vowel_aa false) a q = simp (carries (carries_marks h) q)
vowel_run h m vowel_i a q = simp (carries (carries_marks h) q)
vowel_run h m vowel_ii a q = simp (carries (carries_marks h) q)
vowel_run h m vowel_u a q = simp (carries (carries_marks h) q)
vowel_run h m vowel_uu a q = simp (carries (carries_marks h) q)
vowel_run h m vowel_e a q = simp (carries (carries_marks h) q)
vowel_run h m vowel_ai a q = simp (carries (carries_marks h) q)
vowel_run h m (vowel_e_aa true) a q = simp (carries (carries_marks h) q)
vowel_run h m (vowel_e_aa false) a q = simp (carries (carries_marks h) q)
vowel_run h m (vowel_e_aa_killer true) a q = simp (carries (carries_marks h) q)
vowel_run h m (vowel_e_aa_killer false) a q = simp (carries (carries_marks h) q)
vowel_run h m vowel_am a q = simp (carries (carries_marks h) q)
vowel_run h m vowel_i_u a q = simp (carries (carries_marks h) q)
vowel_run h m vowel_u_am a q = simp (carries (carries_marks h) q)

-- a final letter stands on top as a head until 103A or 1039 shows what it is
letter_run : (c : ℕ) (a : Row) → admits (end_of a) c ≡ true → T (is_final_letter c) → step a c ≡ some (bare c ∷ a)
letter_run c a e i =
    ap (λ (k : Kind). act k c a) (consonant_kind c (final_consonant c i)) ∙ ap (λ (b : Bool). when b (some (bare c ∷ a))) e

-- and 103A shows that it is a plain one
plain_run : (c h : ℕ) (m : MedialGroup) (v : Vowel) (f g : Final) (a : Row) → T (carries_final h) → T (is_final_letter c) → admits f c ≡ true
    → plain_and c f ≡ some g → run (c ∷ 0x103A ∷ []) (syllable h m v f no_tone ∷ a) ≡ some (syllable h m v g no_tone ∷ a)
unfolding pick
plain_run c h m v f g a q i e d =
    let s : Syllable = syllable h m v f no_tone in
    then_step c (0x103A ∷ []) (s ∷ a) (bare c ∷ s ∷ a) _ (letter_run c (s ∷ a) e i)
    (then_step 0x103A [] (bare c ∷ s ∷ a) (syllable h m v g no_tone ∷ a) _ (simp (is_true (carries_final h) q, is_true (is_final_letter c) i, d)) refl)

final_run : (h : ℕ) (m : MedialGroup) (v : Vowel) (f : Final) (a : Row) → T (carries_final h || is_no_final f) → T (is_final f)
    → run (final_text f) (syllable h m v no_final no_tone ∷ a) ≡ some (syllable h m v (un_great_sa f) no_tone ∷ a)
unfolding pick
final_run h m v no_final a q i = refl
final_run h m v (plain c) a q i = plain_run c h m v no_final (plain c) a (or_false (carries_final h) q) i refl refl
final_run h m v (plain_pair c d) a q i =
    then_run (c ∷ 0x103A ∷ []) (d ∷ 0x103A ∷ []) (syllable h m v no_final no_tone ∷ a) (syllable h m v (plain c) no_tone ∷ a) _
    (plain_run c h m v no_final (plain c) a (or_false (carries_final h) q) (both_left (is_final_letter c) (is_final_letter d) i) refl refl)
    (plain_run d h m v (plain c) (plain_pair c d) a (or_false (carries_final h) q) (both_right (is_final_letter c) (is_final_letter d) i) refl refl)
final_run h m v (stacked c) a q i =
    let s : Syllable = syllable h m v no_final no_tone in
    then_step c (0x1039 ∷ []) (s ∷ a) (bare c ∷ s ∷ a) _ (letter_run c (s ∷ a) refl (both_left (is_final_letter c) (not (eqb c 0x1004)) i))
    (then_step 0x1039 [] (bare c ∷ s ∷ a) (syllable h m v (stacked c) no_tone ∷ a) _
    (simp (carries (carries_final h) q, is_true (is_final_letter c && not (eqb c 0x1004)) i)) refl)
final_run h m v kinzi a q i = simp (carries (carries_final h) q)
final_run h m v great_sa a q i = refl

tone_run : (h : ℕ) (m : MedialGroup) (v : Vowel) (f : Final) (t : ToneMark) (a : Row) → T (carries_final h || is_no_tone t) → T (takes_tone f t)
    → run (tone_text t) (syllable h m v (un_great_sa f) no_tone ∷ a) ≡ some (syllable h m v (un_great_sa f) t ∷ a)
unfolding pick
tone_run h m v f no_tone a q i = refl
tone_run h m v no_final dot a q i = simp (carries (carries_final h) q)
tone_run h m v (plain c) dot a q i = simp (carries (carries_final h) q)
tone_run h m v (plain_pair c d) dot a q i = simp (carries (carries_final h) q)
tone_run h m v (stacked c) dot a q i = absurd i
tone_run h m v kinzi dot a q i = absurd i
tone_run h m v great_sa dot a q i = absurd i
tone_run h m v no_final visarga a q i = simp (carries (carries_final h) q)
tone_run h m v (plain c) visarga a q i = simp (carries (carries_final h) q)
tone_run h m v (plain_pair c d) visarga a q i = simp (carries (carries_final h) q)
tone_run h m v (stacked c) visarga a q i = absurd i
tone_run h m v kinzi visarga a q i = absurd i
tone_run h m v great_sa visarga a q i = absurd i

-- a syllable's part
part_run : (s : Syllable) (a : Row) → KeptOk a → T (follows (end_of a) (head_of s)) → T (is_syllable s)
    → run (part (end_of a) s) (clear a) ≡ some (clear (s ∷ a))
part_run (syllable h m v f t) a k q i =
    let p = apart h m v f t i in
    then_step (head_text (end_of a) h) (medial_text m ++ (vowel_text v ++ (final_text f ++ tone_text t))) (clear a) (bare h ∷ a) _ (head_run a h k p.head q)
    (then_run (medial_text m) (vowel_text v ++ (final_text f ++ tone_text t)) (bare h ∷ a) (syllable h m no_vowel no_final no_tone ∷ a) _
    (medial_run h m a (or_both_left (carries_marks h) (is_no_medial m) (is_no_vowel v) p.marks))
    (then_run (vowel_text v) (final_text f ++ tone_text t) (syllable h m no_vowel no_final no_tone ∷ a) (syllable h m v no_final no_tone ∷ a) _
    (vowel_run h m v a (or_both_right (carries_marks h) (is_no_medial m) (is_no_vowel v) p.marks))
    (then_run (final_text f) (tone_text t) (syllable h m v no_final no_tone ∷ a) (syllable h m v (un_great_sa f) no_tone ∷ a) _
    (final_run h m v f a (or_both_left (carries_final h) (is_no_final f) (is_no_tone t) p.closing) p.final)
    (tone_run h m v f t a (or_both_right (carries_final h) (is_no_final f) (is_no_tone t) p.closing) p.tone))))

-- the parts of `is_row_after`
pub record First (f : Final) (s : Syllable) (r : Row) : Type 0 where
  pub follow : T (follows f (head_of s))
  pub is : T (is_syllable s)
  pub rest : T (is_row_after (final_of s) r)

pub first : (f : Final) (s : Syllable) (r : Row) → T (is_row_after f (s ∷ r)) → First f s r
first f s r q =
    let after : T (is_syllable s && is_row_after (final_of s) r) = both_right (follows f (head_of s)) (is_syllable s && is_row_after (final_of s) r) q in
    record {
      follow = both_left (follows f (head_of s)) (is_syllable s && is_row_after (final_of s) r) q;
      is = both_left (is_syllable s) (is_row_after (final_of s) r) after;
      rest = both_right (is_syllable s) (is_row_after (final_of s) r) after;
    }

row_run : (r a : Row) → KeptOk a → T (is_row_after (end_of a) r) → run (join_after (end_of a) r) (clear a) ≡ some (reverse_aux r a)
row_run [] a k q = ap some (clear_closed a q)
row_run (s ∷ r) a k q =
    let p = first (end_of a) s r q in
    then_run (part (end_of a) s) (join_after (final_of s) r) (clear a) (clear (s ∷ a)) _ (part_run s a k p.follow p.is)
    (row_run r (s ∷ a) (p.follow, p.is, k) p.rest)

pub complete : (r : Row) → IsRow r → run (join r) [] ≡ some (reverse r)
complete r q = row_run r [] tt q
