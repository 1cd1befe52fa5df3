-- What is kept is right: it is a row as far as it goes, and joined it gives the values read.
-- Assumes nothing.
use mathlib.Core.Path.{◌≡◌, refl, ap, subst, sym, ◌∙◌}
use mathlib.Core.Bool.{Bool, true, false, not, ◌&&◌, ◌||◌}
use mathlib.Core.List.{List, [], ◌∷◌, ◌++◌, append_assoc, append-nil, reverse, reverse_aux}
use mathlib.Core.Option.{Option, none, some}
use Prim.Native.Nat.{ℕ}
use lib.Dec.{T, eqb, eqb→eq}
use Rattle.letters.specs.Letters.{kind_of}
use Rattle.letters.specs.Marks.{MedialGroup, group, neither, medial_groups, no_medial, medial_text, Vowel, no_vowel, vowels, vowel_text, ToneMark, no_tone, dot, visarga, tone_marks, tone_text}
use Rattle.letters.specs.Weights.{is_head, is_final_letter}
use Rattle.letters.specs.declared.kind.Kind.{Kind}
use Rattle.letters.specs.declared.kind.Kind.TheVariants.{Consonant, IndependentVowel, Medial, VowelMark, Tone, Killer, Stacker, GreatSa, Digit, Stop, Sign, Foreign}
use Rattle.formula.proofs.Classes.{in_class, kind_class, head_of_lem}
use Rattle.letters.proofs.Tests.{or_left, or_right, or_false}
use Rattle.formula.proofs.Lists.{both, both_left, both_right, same_list, same_list_equal}
use Rattle.formula.proofs.Pieces.{no_medial_is, no_vowel_is}
use Rattle.formula.specs.Syllable.{Final, no_final, plain, plain_pair, stacked, kinzi, great_sa, Syllable, syllable, bare, head_of, final_of, carries_marks, carries_final, is_no_medial, is_no_vowel, is_no_final, is_no_tone, is_closed, is_final, takes_tone, is_syllable, follows, final_text, head_text, part}
use Rattle.formula.specs.Row.{Row, is_row_after, IsRow, join_after, join, Gives}
use Rattle.rows.specs.Machine.{first_of, written_as, medial_and, vowel_and, tone_of, when, onto, end_of, KeptOk, kept_join, is_not_great_sa, is_open, is_bare, admits, step_head, step_medial, step_vowel, step_tone, step_great_sa, plain_and, stacked_and, close, killed, step_killer, stacks, step_stacker, act, step, and_then, run}

-- absent pieces are written with nothing
pub no_medial_text : (m : MedialGroup) → T (is_no_medial m) → medial_text m ≡ []
no_medial_text m t = ap medial_text (no_medial_is m t)

pub no_vowel_text : (v : Vowel) → T (is_no_vowel v) → vowel_text v ≡ []
no_vowel_text v t = ap vowel_text (no_vowel_is v t)

pub no_final_text : (f : Final) → T (is_no_final f) → final_text f ≡ []
no_final_text no_final t = refl
no_final_text (plain c) t = absurd t
no_final_text (plain_pair c d) t = absurd t
no_final_text (stacked c) t = absurd t
no_final_text kinzi t = absurd t
no_final_text great_sa t = absurd t

pub no_tone_text : (t : ToneMark) → T (is_no_tone t) → tone_text t ≡ []
no_tone_text no_tone q = refl
no_tone_text dot q = absurd q
no_tone_text visarga q = absurd q

-- an open syllable has neither
pub record Open (f : Final) (t : ToneMark) : Type 0 where
  pub final : final_text f ≡ []
  pub tone : tone_text t ≡ []
  pub untoned : T (is_no_tone t)

pub opened : (f : Final) (t : ToneMark) → T (is_open f t) → Open f t
opened f t q =
    let u : T (is_no_tone t) = both_right (is_no_final f) (is_no_tone t) q in
    record { final = no_final_text f (both_left (is_no_final f) (is_no_tone t) q); tone = no_tone_text t u; untoned = u }

-- the parts of `is_syllable`
pub record Parts (h : ℕ) (m : MedialGroup) (v : Vowel) (f : Final) (t : ToneMark) : Type 0 where
  pub head : T (is_head h)
  pub marks : T (carries_marks h || (is_no_medial m && is_no_vowel v))
  pub closing : T (carries_final h || (is_no_final f && is_no_tone t))
  pub final : T (is_final f)
  pub tone : T (takes_tone f t)

pub apart : (h : ℕ) (m : MedialGroup) (v : Vowel) (f : Final) (t : ToneMark) → T (is_syllable (syllable h m v f t)) → Parts h m v f t
apart h m v f t q =
    let marks = carries_marks h || (is_no_medial m && is_no_vowel v) in
    let closing = carries_final h || (is_no_final f && is_no_tone t) in
    let last = is_final f && takes_tone f t in
    let a : T (marks && (closing && last)) = both_right (is_head h) (marks && (closing && last)) q in
    let b : T (closing && last) = both_right marks (closing && last) a in
    let d : T last = both_right closing last b in
    record {
      head = both_left (is_head h) (marks && (closing && last)) q;
      marks = both_left marks (closing && last) a;
      closing = both_left closing last b;
      final = both_left (is_final f) (takes_tone f t) d;
      tone = both_right (is_final f) (takes_tone f t) d;
    }

pub together : (h : ℕ) (m : MedialGroup) (v : Vowel) (f : Final) (t : ToneMark) → Parts h m v f t → T (is_syllable (syllable h m v f t))
together h m v f t p =
    both (is_head h) _ p.head (both (carries_marks h || (is_no_medial m && is_no_vowel v)) _ p.marks
    (both (carries_final h || (is_no_final f && is_no_tone t)) _ p.closing (both (is_final f) (takes_tone f t) p.final p.tone)))

-- other marks on a head that carries marks, another final and tone on one that carries a final
pub remarked : (h : ℕ) (m n : MedialGroup) (v u : Vowel) (f : Final) (t : ToneMark) → T (carries_marks h) → T (is_syllable (syllable h m v f t))
    → T (is_syllable (syllable h n u f t))
remarked h m n v u f t g q =
    let p = apart h m v f t q in
    together h n u f t
    (record { head = p.head; marks = or_left (carries_marks h) (is_no_medial n && is_no_vowel u) g; closing = p.closing; final = p.final; tone = p.tone })

pub reclosed : (h : ℕ) (m : MedialGroup) (v : Vowel) (f g : Final) (t u : ToneMark) → T (carries_final h) → T (is_final g) → T (takes_tone g u)
    → T (is_syllable (syllable h m v f t)) → T (is_syllable (syllable h m v g u))
reclosed h m v f g t u c i k q =
    let p = apart h m v f t q in
    together h m v g u
    (record { head = p.head; marks = p.marks; closing = or_left (carries_final h) (is_no_final g && is_no_tone u) c; final = i; tone = k })

-- a head alone
pub bare_ok : (x : ℕ) → T (is_head x) → T (is_syllable (bare x))
bare_ok x q =
    together x no_medial no_vowel no_final no_tone
    (record { head = q; marks = or_right (carries_marks x) true tt; closing = or_right (carries_final x) true tt; final = tt; tone = tt })

-- what a search among pieces finds is written so
abbrev pub Written : {A : Type 0} → (A → List ℕ) → List ℕ → Option A → Type 0
Written text values none = Unit {0}
Written text values (some piece) = text piece ≡ values

pub written : {A : Type 0} (text : A → List ℕ) (pieces : List A) (values : List ℕ) → Written text values (written_as text pieces values)
written text [] values = tt
written text (piece ∷ pieces) values = go (same_list (text piece) values) (same_list_equal (text piece) values) (written text pieces values)
  where
    go : (b : Bool) → (T b → text piece ≡ values) → Written text values (written_as text pieces values)
        → Written text values (first_of b piece (written_as text pieces values))
    go true e w = e tt
    go false e w = w

-- b is right after a and the value x
abbrev pub Out : Row → ℕ → Option Row → Type 0
Out a x none = Unit {0}
Out a x (some b) = KeptOk b × (kept_join b ≡ kept_join a ++ (x ∷ [])) × T (is_not_great_sa (end_of b))

on_when : (a : Row) (x : ℕ) (t : Bool) (o : Option Row) → (T t → Out a x o) → Out a x (when t o)
on_when a x true o f = f tt
on_when a x false o f = tt

on_piece : {A : Type 0} (a : Row) (x : ℕ) (text : A → List ℕ) (values : List ℕ) (f : A → Row) (o : Option A) → Written text values o
    → ((n : A) → text n ≡ values → Out a x (some (f n))) → Out a x (onto f o)
on_piece a x text values f none w g = tt
on_piece a x text values f (some n) w g = g n w

no_final_not_great : (f : Final) → T (is_no_final f) → T (is_not_great_sa f)
no_final_not_great no_final t = tt
no_final_not_great (plain c) t = tt
no_final_not_great (plain_pair c d) t = tt
no_final_not_great (stacked c) t = tt
no_final_not_great kinzi t = tt
no_final_not_great great_sa t = t

closed_not_great : (f : Final) → T (is_closed f) → T (is_not_great_sa f)
closed_not_great no_final t = tt
closed_not_great (plain c) t = tt
closed_not_great (plain_pair c d) t = tt
closed_not_great (stacked c) t = tt
closed_not_great kinzi t = tt
closed_not_great great_sa t = t

-- the syllable on top is written with x more
grow : (u : List ℕ) (y : ℕ) (s n : List ℕ) (x : ℕ) → n ≡ s ++ (x ∷ []) → u ++ (y ∷ n) ≡ (u ++ (y ∷ s)) ++ (x ∷ [])
grow u y s n x e = ap (λ (l : List ℕ). u ++ (y ∷ l)) e ∙ sym (append_assoc u (y ∷ s) (x ∷ []))

medial_out : (x : ℕ) (a : Row) → KeptOk a → Out a x (step_medial x a)
medial_out x [] k = tt
medial_out x (syllable h m v f t ∷ a) k =
    on_when (syllable h m v f t ∷ a) x (carries_marks h && (is_no_vowel v && is_open f t)) _
    (λ q. let free : T (is_no_vowel v && is_open f t) = both_right (carries_marks h) (is_no_vowel v && is_open f t) q in
    let o : Open f t = opened f t (both_right (is_no_vowel v) (is_open f t) free) in
    let e : vowel_text v ≡ [] = no_vowel_text v (both_left (is_no_vowel v) (is_open f t) free) in
    on_piece (syllable h m v f t ∷ a) x medial_text (medial_text m ++ (x ∷ [])) _ (medial_and x m) (written medial_text medial_groups (medial_text m ++ (x ∷ [])))
    (λ n d. (
      (k.0, remarked h m n v v f t (both_left (carries_marks h) (is_no_vowel v && is_open f t) q) k.1, k.2),
      grow (kept_join a) (head_text (end_of a) h) _ _ x (simp (d, e, o.final, o.tone, append-nil)),
      no_final_not_great f (both_left (is_no_final f) (is_no_tone t) (both_right (is_no_vowel v) (is_open f t) free)),
    )))

-- a longer vowel on the syllable on top
vowel_changed : (x h : ℕ) (m : MedialGroup) (v : Vowel) (f : Final) (t : ToneMark) (a : Row) → KeptOk (syllable h m v f t ∷ a)
    → T (carries_marks h && is_open f t) → (n : Vowel) → vowel_text n ≡ vowel_text v ++ (x ∷ [])
    → Out (syllable h m v f t ∷ a) x (some (syllable h m n f t ∷ a))
vowel_changed x h m v f t a k q n d =
    let free : T (is_open f t) = both_right (carries_marks h) (is_open f t) q in
    let o : Open f t = opened f t free in (
      (k.0, remarked h m m v n f t (both_left (carries_marks h) (is_open f t) q) k.1, k.2),
      grow (kept_join a) (head_text (end_of a) h) _ _ x (simp (d, o.final, o.tone, append-nil, append_assoc)),
      no_final_not_great f (both_left (is_no_final f) (is_no_tone t) free),
    )

-- a syllable that has a final carries one; kinzi in the place of a plain 1004
carries_final_lem : (h : ℕ) (c : ℕ) (t : ToneMark) → T (carries_final h || (is_no_final (plain c) && is_no_tone t)) → T (carries_final h)
carries_final_lem h c t q = or_false (carries_final h) q

kinzi_ok : (h : ℕ) (m : MedialGroup) (v : Vowel) (c : ℕ) (t : ToneMark) → T (is_no_tone t) → T (is_syllable (syllable h m v (plain c) t))
    → T (is_syllable (syllable h m v kinzi t))
kinzi_ok h m v c t u q = reclosed h m v (plain c) kinzi t t (carries_final_lem h c t (apart h m v (plain c) t q).closing) tt u q

vowel_out : (x : ℕ) (a : Row) → KeptOk a → Out a x (step_vowel x a)
vowel_out x [] k = tt
vowel_out x (syllable h m v f t ∷ a) k =
    on_when (syllable h m v f t ∷ a) x (carries_marks h && is_open f t) _
    (λ q. on_piece (syllable h m v f t ∷ a) x vowel_text (vowel_text v ++ (x ∷ [])) _ (vowel_and x v) (written vowel_text vowels (vowel_text v ++ (x ∷ [])))
    (vowel_changed x h m v f t a k q))

tone_out : (x : ℕ) (a : Row) → KeptOk a → Out a x (step_tone x a)
tone_out x [] k = tt
tone_out x (syllable h m v f t ∷ a) k =
    on_when (syllable h m v f t ∷ a) x (carries_final h && (is_closed f && is_no_tone t)) _
    (λ q. let free : T (is_closed f && is_no_tone t) = both_right (carries_final h) (is_closed f && is_no_tone t) q in
    let closed : T (is_closed f) = both_left (is_closed f) (is_no_tone t) free in
    let e : tone_text t ≡ [] = no_tone_text t (both_right (is_closed f) (is_no_tone t) free) in
    on_piece (syllable h m v f t ∷ a) x tone_text (x ∷ []) _ (tone_of x) (written tone_text tone_marks (x ∷ []))
    (λ n d. (
      (
        k.0,
        reclosed h m v f f t n (both_left (carries_final h) (is_closed f && is_no_tone t) q) (apart h m v f t k.1).final
            (or_left (is_closed f) (is_no_tone n) closed) k.1,
        k.2,
      ),
      grow (kept_join a) (head_text (end_of a) h) _ _ x (simp (d, e, append-nil, append_assoc)),
      closed_not_great f closed,
    )))

great_sa_out : (a : Row) → KeptOk a → Out a 0x103F (step_great_sa a)
great_sa_out [] k = tt
great_sa_out (syllable h m v f t ∷ a) k =
    on_when (syllable h m v f t ∷ a) 0x103F (carries_final h && is_open f t) _
    (λ q. let o : Open f t = opened f t (both_right (carries_final h) (is_open f t) q) in
    let u : T (is_no_tone t) = o.untoned in (
      (tt, bare_ok 0x101E tt, (k.0, reclosed h m v f great_sa t t (both_left (carries_final h) (is_open f t) q) tt u k.1, k.2)),
      simp (o.final, o.tone, append-nil),
      tt,
    ))

-- a final with the letter c and the value x more is one, and written so
abbrev pub Grown : ℕ → ℕ → Final → Option Final → Type 0
Grown c x f none = Unit {0}
Grown c x f (some g) = T (is_final g) × T (is_not_great_sa g) × (final_text g ≡ final_text f ++ (c ∷ x ∷ [])) × (head_text f c ≡ c)

plain_grown : (c : ℕ) → T (is_final_letter c) → (f : Final) → T (is_final f) → Grown c 0x103A f (plain_and c f)
plain_grown c l no_final i = (l, tt, refl, refl)
plain_grown c l (plain b) i = (both (is_final_letter b) (is_final_letter c) i l, tt, refl, refl)
plain_grown c l (plain_pair b d) i = tt
plain_grown c l (stacked b) i = tt
plain_grown c l kinzi i = tt
plain_grown c l great_sa i = tt

stacked_grown : (c : ℕ) → T (is_final_letter c && not (eqb c 0x1004)) → (f : Final) → T (is_final f) → Grown c 0x1039 f (stacked_and c f)
stacked_grown c l no_final i = (l, tt, refl, refl)
stacked_grown c l (plain b) i = tt
stacked_grown c l (plain_pair b d) i = tt
stacked_grown c l (stacked b) i = tt
stacked_grown c l kinzi i = tt
stacked_grown c l great_sa i = tt

-- the letter h on top is one more in the final of the syllable before, by the value x
close_out : (h x : ℕ) (more : Final → Option Final) (a : Row) → ((f : Final) → T (is_final f) → Grown h x f (more f)) → KeptOk (bare h ∷ a)
    → Out (bare h ∷ a) x (close more a)
close_out h x more [] w k = tt
close_out h x more (syllable y m v f t ∷ a) w k =
    on_when (bare h ∷ syllable y m v f t ∷ a) x (carries_final y && is_no_tone t) _ (go (more f) (w f (apart y m v f t k.2.1).final))
  where
    go : (o : Option Final) → Grown h x f o → T (carries_final y && is_no_tone t)
        → Out (bare h ∷ syllable y m v f t ∷ a) x (onto (λ (g : Final). syllable y m v g t ∷ a) o)
    go none r q = tt
    go (some g) r q =
        let u : T (is_no_tone t) = both_right (carries_final y) (is_no_tone t) q in (
          (k.2.0, reclosed y m v f g t t (both_left (carries_final y) (is_no_tone t) q) r.0 (or_right (is_closed g) (is_no_tone t) u) k.2.1, k.2.2),
          simp (r.2, r.3, no_tone_text t u, append-nil, append_assoc),
          r.1,
        )

-- a head alone is what it says
bare_is : (h : ℕ) (m : MedialGroup) (v : Vowel) (f : Final) (t : ToneMark) → T (is_bare m v f t) → syllable h m v f t ≡ bare h
bare_is h (group neither false false) no_vowel no_final no_tone q = refl
bare_is h (group neither false false) no_vowel no_final dot q = elim q [ ]
bare_is h (group neither false false) no_vowel no_final visarga q = elim q [ ]
bare_is h (group neither false false) no_vowel (plain _) t q = elim q [ ]
bare_is h (group neither false false) no_vowel (plain_pair _ _) t q = elim q [ ]
bare_is h (group neither false false) no_vowel (stacked _) t q = elim q [ ]
bare_is h (group neither false false) no_vowel kinzi t q = elim q [ ]
bare_is h (group neither false false) no_vowel great_sa t q = elim q [ ]
bare_is h (group neither false false) (Rattle.letters.specs.Marks.vowel_aa _) f t q = elim q [ ]
bare_is h (group neither false false) Rattle.letters.specs.Marks.vowel_i f t q = elim q [ ]
bare_is h (group neither false false) Rattle.letters.specs.Marks.vowel_ii f t q = elim q [ ]
bare_is h (group neither false false) Rattle.letters.specs.Marks.vowel_u f t q = elim q [ ]
bare_is h (group neither false false) Rattle.letters.specs.Marks.vowel_uu f t q = elim q [ ]
bare_is h (group neither false false) Rattle.letters.specs.Marks.vowel_e f t q = elim q [ ]
bare_is h (group neither false false) Rattle.letters.specs.Marks.vowel_ai f t q = elim q [ ]
bare_is h (group neither false false) (Rattle.letters.specs.Marks.vowel_e_aa _) f t q = elim q [ ]
bare_is h (group neither false false) (Rattle.letters.specs.Marks.vowel_e_aa_killer _) f t q = elim q [ ]
bare_is h (group neither false false) Rattle.letters.specs.Marks.vowel_am f t q = elim q [ ]
bare_is h (group neither false false) Rattle.letters.specs.Marks.vowel_i_u f t q = elim q [ ]
bare_is h (group neither false false) Rattle.letters.specs.Marks.vowel_u_am f t q = elim q [ ]
bare_is h (group neither false true) v f t q = elim q [ ]
bare_is h (group neither true _) v f t q = elim q [ ]
bare_is h (group Rattle.letters.specs.Marks.ya _ _) v f t q = elim q [ ]
bare_is h (group Rattle.letters.specs.Marks.ra _ _) v f t q = elim q [ ]

top_is : (s r : Syllable) (a : Row) (x : ℕ) (o : Option Row) → s ≡ r → KeptOk (s ∷ a) → (KeptOk (r ∷ a) → Out (r ∷ a) x o) → Out (s ∷ a) x o
top_is s r a x o e k f = subst (λ (u : Syllable). Out (u ∷ a) x o) (sym e) (f (subst (λ (u : Syllable). KeptOk (u ∷ a)) e k))

killed_out : (o : Option Vowel) (h : ℕ) (m : MedialGroup) (v : Vowel) (f : Final) (t : ToneMark) (a : Row)
    → Written vowel_text (vowel_text v ++ (0x103A ∷ [])) o → KeptOk (syllable h m v f t ∷ a)
    → Out (syllable h m v f t ∷ a) 0x103A (killed o (syllable h m v f t) a)
killed_out none h m v f t a w k =
    on_when (syllable h m v f t ∷ a) 0x103A (is_bare m v f t && is_final_letter h) _
    (λ q. let e = bare_is h m v f t (both_left (is_bare m v f t) (is_final_letter h) q) in
    top_is (syllable h m v f t) (bare h) a 0x103A (close (plain_and h) a) e k
    (close_out h 0x103A (plain_and h) a (plain_grown h (both_right (is_bare m v f t) (is_final_letter h) q))))
killed_out (some n) h m v f t a w k =
    on_when (syllable h m v f t ∷ a) 0x103A (carries_marks h && is_open f t) _ (λ q. vowel_changed 0x103A h m v f t a k q n w)

killer_out : (a : Row) → KeptOk a → Out a 0x103A (step_killer a)
killer_out [] k = tt
killer_out (syllable h m v f t ∷ a) k =
    killed_out (vowel_and 0x103A v) h m v f t a (written vowel_text vowels (vowel_text v ++ (0x103A ∷ []))) k

stacks_out : (g : Final) (h : ℕ) (m : MedialGroup) (v : Vowel) (t : ToneMark) (a : Row) → KeptOk (syllable h m v g t ∷ a)
    → Out (syllable h m v g t ∷ a) 0x1039 (stacks g (syllable h m v g t) a)
stacks_out no_final h m v t a k =
    on_when (syllable h m v no_final t ∷ a) 0x1039 (is_bare m v no_final t && (is_final_letter h && not (eqb h 0x1004))) _
    (λ q. let e = bare_is h m v no_final t (both_left (is_bare m v no_final t) (is_final_letter h && not (eqb h 0x1004)) q) in
    top_is (syllable h m v no_final t) (bare h) a 0x1039 (close (stacked_and h) a) e k
    (close_out h 0x1039 (stacked_and h) a (stacked_grown h (both_right (is_bare m v no_final t) (is_final_letter h && not (eqb h 0x1004)) q))))
stacks_out (plain c) h m v t a k =
    on_when (syllable h m v (plain c) t ∷ a) 0x1039 (eqb c 0x1004 && is_no_tone t) _
    (λ q. let e : c ≡ 0x1004 = eqb→eq c 0x1004 (both_left (eqb c 0x1004) (is_no_tone t) q) in
    let u : T (is_no_tone t) = both_right (eqb c 0x1004) (is_no_tone t) q in (
      (k.0, kinzi_ok h m v c t u k.1, k.2),
      grow (kept_join a) (head_text (end_of a) h) _ _ 0x1039 (simp (e, no_tone_text t u, append-nil, append_assoc)),
      tt,
    ))
stacks_out (plain_pair c d) h m v t a k = tt
stacks_out (stacked c) h m v t a k = tt
stacks_out kinzi h m v t a k = tt
stacks_out great_sa h m v t a k = tt

stacker_out : (a : Row) → KeptOk a → Out a 0x1039 (step_stacker a)
stacker_out [] k = tt
stacker_out (syllable h m v f t ∷ a) k = stacks_out f h m v t a k

-- a value that begins a syllable
admitted : (f : Final) (x : ℕ) → T (admits f x) → T (follows f x) × (head_text f x ≡ x)
admitted no_final x t = (tt, refl)
admitted (plain c) x t = (tt, refl)
admitted (plain_pair c d) x t = (tt, refl)
admitted (stacked c) x t = (t, refl)
admitted kinzi x t = (t, refl)
admitted great_sa x t = absurd t

head_out : (x : ℕ) (a : Row) → T (is_head x) → KeptOk a → Out a x (step_head x a)
head_out x a i k =
    on_when a x (admits (end_of a) x) _
    (λ q. let d = admitted (end_of a) x q in
    ((d.0, bare_ok x i, k), ap (λ (y : ℕ). kept_join a ++ (y ∷ [])) d.1, tt))

at_value : (x y : ℕ) (a : Row) (o : Option Row) → T (eqb x y) → Out a y o → Out a x o
at_value x y a o t r = subst (λ (z : ℕ). Out a z o) (sym (eqb→eq x y t)) r

act_out : (j : Kind) (x : ℕ) (a : Row) → T (in_class j x) → KeptOk a → Out a x (act j x a)
act_out Consonant x a e k = head_out x a (head_of_lem Consonant x e tt) k
act_out IndependentVowel x a e k = head_out x a (head_of_lem IndependentVowel x e tt) k
act_out Medial x a e k = medial_out x a k
act_out VowelMark x a e k = vowel_out x a k
act_out Tone x a e k = tone_out x a k
act_out Killer x a e k = at_value x 0x103A a (step_killer a) e (killer_out a k)
act_out Stacker x a e k = at_value x 0x1039 a (step_stacker a) e (stacker_out a k)
act_out GreatSa x a e k = at_value x 0x103F a (step_great_sa a) e (great_sa_out a k)
act_out Digit x a e k = head_out x a (head_of_lem Digit x e tt) k
act_out Stop x a e k = head_out x a (head_of_lem Stop x e tt) k
act_out Sign x a e k = head_out x a (head_of_lem Sign x e tt) k
act_out Foreign x a e k = tt

-- one value
pub step_out : (a : Row) (x : ℕ) → KeptOk a → Out a x (step a x)
step_out a x k = act_out (kind_of x) x a (kind_class x) k

-- any number of values
abbrev pub RunOut : Row → List ℕ → Option Row → Type 0
RunOut a w none = Unit {0}
RunOut a w (some b) = KeptOk b × (kept_join b ≡ kept_join a ++ w) × (T (is_not_great_sa (end_of a)) → T (is_not_great_sa (end_of b)))

further : (a b : Row) (x : ℕ) (w : List ℕ) (o : Option Row) → kept_join b ≡ kept_join a ++ (x ∷ []) → T (is_not_great_sa (end_of b)) → RunOut b w o
    → RunOut a (x ∷ w) o
further a b x w none e n k = tt
further a b x w (some d) e n k = (k.0, k.1 ∙ ap (λ (l : List ℕ). l ++ w) e ∙ append_assoc (kept_join a) (x ∷ []) w, λ _. k.2 n)

pub run_out : (w : List ℕ) (a : Row) → KeptOk a → RunOut a w (run w a)
run_out [] a k = (k, sym (append-nil (kept_join a)), λ n. n)
run_out (x ∷ w) a k = go (step a x) (step_out a x k) (run_out w)
  where
    go : (o : Option Row) → Out a x o → ((b : Row) → KeptOk b → RunOut b w (run w b)) → RunOut a (x ∷ w) (and_then o (run w))
    go none q f = tt
    go (some b) q f = further a b x w (run w b) q.1 q.2 (f b q.0)

-- what is kept, turned round, is a row
pub row_of_lem : (a r : Row) → KeptOk a → T (is_row_after (end_of a) r) → IsRow (reverse_aux a r)
row_of_lem [] r k q = q
row_of_lem (s ∷ a) r k q =
    row_of_lem a (s ∷ r) k.2
    (both (follows (end_of a) (head_of s)) _ k.0 (both (is_syllable s) (is_row_after (final_of s) r) k.1 q))

pub join_of : (a r : Row) → join (reverse_aux a r) ≡ kept_join a ++ join_after (end_of a) r
join_of [] r = refl
join_of (s ∷ a) r = join_of a (s ∷ r) ∙ sym (append_assoc (kept_join a) (part (end_of a) s) (join_after (final_of s) r))

-- a word that is read through to an end is that row
pub sound : (w : List ℕ) (a : Row) → run w [] ≡ some a → T (is_closed (end_of a)) → Gives (reverse a) w
sound w a e t =
    let q : RunOut [] w (some a) = subst (RunOut [] w) e (run_out w [] tt) in
    record { is_row = row_of_lem a [] q.0 t; joined = join_of a [] ∙ append-nil (kept_join a) ∙ q.1 }
