-- What a value adds makes no syllable of an earlier edition out of another, so a beginning of a row of that edition which is a row is one of it: a word
-- that was unfinished is unfinished still. Assumes nothing.
use mathlib.Core.Path.{◌≡◌, refl, ap, sym, subst, ◌∙◌}
use mathlib.Core.Bool.{Bool, true, false, ◌&&◌, ◌||◌}
use mathlib.Core.List.{List, [], ◌∷◌, ◌++◌, reverse, reverse_aux}
use mathlib.Core.Option.{Option, none, some, some-injective, none-ne-some}
use Prim.Native.Nat.{ℕ, ◌+◌, ◌*◌, ◌≤◌}
use native.Mathlib.Omega.{arith}
use lib.Dec.{T}
use lib.ListN.{length}
use Rattle.letters.specs.Letters.{is_admitted, is_consonant, kind_of}
use Rattle.letters.specs.Marks.{MedialGroup, Vowel, ToneMark, no_tone, dot, visarga}
use Rattle.letters.specs.Weights.{tone_weight}
use Rattle.letters.proofs.Tests.{or_left, or_right, or_false, either}
use Rattle.formula.specs.Syllable.{Final, no_final, plain, kinzi, great_sa, syllable, bare, head_of, final_of, is_no_final, is_no_tone, is_syllable, follows}
use Rattle.formula.specs.Row.{Row, is_row_of, is_row_after, Gives}
use Rattle.formula.specs.Earlier.{Edition, base, independent_finals, is_single, is_syllable_in, limit_in, GivesIn}
use Rattle.formula.proofs.Lists.{both, both_left, both_right, every, every_at}
use Rattle.refusals.specs.Outcome.{Outcome, refuses}
use Rattle.rows.specs.Machine.{end_of, KeptOk, is_not_great_sa, step, and_then, run}
use Rattle.rows.proofs.Sound.{Out, step_out, RunOut, run_out}
use Rattle.rows.proofs.Complete.{run_append}
use Rattle.rows.proofs.Viable.{read_back}
use Rattle.rows.proofs.Admitted.{run_admitted}
use Rattle.rows.proofs.Earlier.{asks, earlier_exactly, earlier_gives, earlier_viable}
use Rattle.states.specs.State.{state_of}
use Rattle.states.specs.Transition.{Transition, refuse, to, transition, bit_of, Joins, first_plain, first_stacked, second_plain, Makes, begins, begins_great_sa, adds_medial, adds_vowel, adds_tone, makes_kinzi, closes, Agrees}
use Rattle.states.proofs.Followed.{followed}
use Rattle.recogniser.specs.Answer.{Answers, unfinished}
use Rattle.recogniser.proofs.Determined.{answers_alike}
use Rattle.recogniser.proofs.Earlier.{edition_within}

-- a head that has a final in 01 is a C, and a final of one letter has at most that
final_asks : (edition : Edition) (h : ℕ) (f g : Final) (t o : ToneMark) → is_no_final g ≡ false → (T (is_single g) → T (is_single f)) → T (asks edition h g o)
    → T (asks edition h f t)
final_asks base h f g t o e w i =
    let c : T (is_consonant h || (is_no_final g && is_no_tone o)) = both_left (is_consonant h || (is_no_final g && is_no_tone o)) (is_single g) i in
    both (is_consonant h || (is_no_final f && is_no_tone t)) (is_single f)
    (or_left (is_consonant h) _ (or_false (is_consonant h) (subst (λ (b : Bool). T (is_consonant h || (b && is_no_tone o))) e c)))
    (w (both_right (is_consonant h || (is_no_final g && is_no_tone o)) (is_single g) i))
final_asks independent_finals h f g t o e w i = w i

tone_asks : (edition : Edition) (h : ℕ) (f : Final) (t o : ToneMark) → (T (is_no_tone o) → T (is_no_tone t)) → T (asks edition h f o) → T (asks edition h f t)
tone_asks base h f t o w i =
    let c : T (is_consonant h || (is_no_final f && is_no_tone o)) = both_left (is_consonant h || (is_no_final f && is_no_tone o)) (is_single f) i in
    both (is_consonant h || (is_no_final f && is_no_tone t)) (is_single f)
    (either (T (is_consonant h || (is_no_final f && is_no_tone t))) (is_consonant h) (is_no_final f && is_no_tone o) (or_left (is_consonant h) _)
    (λ j. or_right (is_consonant h) _
    (both (is_no_final f) (is_no_tone t) (both_left (is_no_final f) (is_no_tone o) j) (w (both_right (is_no_final f) (is_no_tone o) j))))
    c)
    (both_right (is_consonant h || (is_no_final f && is_no_tone o)) (is_single f) i)
tone_asks independent_finals h f t o w i = i

bare_asks : (edition : Edition) (h : ℕ) → T (asks edition h no_final no_tone)
bare_asks base h = both (is_consonant h || true) true (or_right (is_consonant h) true tt) tt
bare_asks independent_finals h = tt

tone_was : (t n : ToneMark) (g : ℕ) → 0x100000000 * tone_weight n ≡ 0x100000000 * tone_weight t + g → T (is_no_tone n) → T (is_no_tone t)
tone_was no_tone n g e i = tt
tone_was dot no_tone g e i = let z : ⊥ = omega arith in absurd z
tone_was visarga no_tone g e i = let z : ⊥ = omega arith in absurd z
tone_was dot dot g e i = elim i [ ]
tone_was dot visarga g e i = elim i [ ]
tone_was visarga dot g e i = elim i [ ]
tone_was visarga visarga g e i = elim i [ ]

-- what a letter joins is a final, and where that is a single one it joins a single one or none
made_final : {c : ℕ} {f made : Final} → Joins c f made → (is_no_final made ≡ false) × (T (is_single made) → T (is_single f))
made_final first_plain = (refl, λ i. tt)
made_final first_stacked = (refl, λ i. tt)
made_final second_plain = (refl, λ i. tt)

module _ (edition : Edition) where
  -- each syllable is one of the edition
  abbrev AllIn : Row → Type 0
  AllIn row = T (every (is_syllable_in edition) row)

  module _ (h : ℕ) (m n : MedialGroup) (v u : Vowel) (f g : Final) (t o : ToneMark) (kept : Row) where
    -- the last syllable is made of one that asks no more
    changed : (T (asks edition h g o) → T (asks edition h f t)) → KeptOk (syllable h m v f t ∷ kept) → AllIn (syllable h n u g o ∷ kept)
        → AllIn (syllable h m v f t ∷ kept)
    changed w k q =
        let made = is_syllable_in edition (syllable h n u g o) in
        let is : T (is_syllable (syllable h n u g o) && asks edition h g o) = subst T (earlier_exactly edition h n u g o) (both_left made _ q) in
        let was : T (asks edition h f t) = w (both_right (is_syllable (syllable h n u g o)) (asks edition h g o) is) in
        both (is_syllable_in edition (syllable h m v f t)) _
        (subst T (sym (earlier_exactly edition h m v f t)) (both (is_syllable (syllable h m v f t)) (asks edition h f t) k.1 was))
        (both_right made _ q)

  bare_in : (c : ℕ) → T (is_syllable (bare c)) → T (is_syllable_in edition (bare c))
  bare_in c i = subst T (sym (earlier_exactly edition c _ _ no_final no_tone)) (both (is_syllable (bare c)) _ i (bare_asks edition c))

  back : {x d g : ℕ} {kept b : Row} → Makes x d g kept b → KeptOk kept → AllIn b → AllIn kept
  back {x = x} (begins i) k q = both_right (is_syllable_in edition (bare x)) _ q
  back (begins_great_sa {h = h} {m = m} {v = v} {t = t} {kept = kept} e) k q =
      changed h m m v v no_final great_sa t t kept (final_asks edition h no_final great_sa t t refl (λ i. tt)) k
      (both_right (is_syllable_in edition (bare 0x101E)) _ q)
  back (adds_medial {h = h} {m = m} {n = n} {v = v} {f = f} {t = t} {kept = kept} e) k q = changed h m n v v f f t t kept (λ i. i) k q
  back (adds_vowel {h = h} {m = m} {v = v} {u = u} {f = f} {t = t} {kept = kept} e) k q = changed h m m v u f f t t kept (λ i. i) k q
  back (adds_tone {g = g} {h = h} {m = m} {v = v} {f = f} {t = t} {n = n} {kept = kept} e) k q =
      changed h m m v v f f t n kept (tone_asks edition h f t n (tone_was t n g e)) k q
  back (makes_kinzi {h = h} {m = m} {v = v} {t = t} {kept = kept}) k q =
      changed h m m v v (plain 0x1004) kinzi t t kept (final_asks edition h (plain 0x1004) kinzi t t refl (λ i. tt)) k q
  back (closes {c = c} {h = h} {m = m} {v = v} {f = f} {made = made} {t = t} {kept = kept} l j e) k q =
      both (is_syllable_in edition (bare c)) _ (bare_in c k.1)
      (changed h m m v v f made t t kept (final_asks edition h f made t t (made_final j).0 (made_final j).1) k.2 q)

  -- one value, and any number of them
  step_back : (x : ℕ) (kept b : Row) → KeptOk kept → T (is_not_great_sa (end_of kept)) → step kept x ≡ some b → AllIn b → AllIn kept
  step_back x kept b k n e q = go (transition (kind_of x) x (state_of kept)) (followed x kept k n)
    where
      go : (t : Transition) → Agrees x (bit_of (kind_of x)) t kept (step kept x) → AllIn kept
      go refuse a = absurd (none-ne-some b (sym a ∙ e))
      go (to d m s) a = back a.3 k (subst AllIn (some-injective b a.0 (sym e ∙ a.1)) q)

  run_back : (w : List ℕ) (kept b : Row) → KeptOk kept → T (is_not_great_sa (end_of kept)) → run w kept ≡ some b → AllIn b → AllIn kept
  run_back [] kept b k n e q = subst AllIn (sym (some-injective kept b e)) q
  run_back (x ∷ w) kept b k n e q = go (step kept x) refl (step_out kept x k) e (run_back w)
    where
      go : (o : Option Row) → step kept x ≡ o → Out kept x o → and_then o (run w) ≡ some b
          → ((c a : Row) → KeptOk c → T (is_not_great_sa (end_of c)) → run w c ≡ some a → AllIn a → AllIn c) → AllIn kept
      go none s r f rest = absurd (none-ne-some b f)
      go (some c) s r f rest = step_back x kept c k n s (rest c b r.0 r.2 f q)

  -- a row of the edition is a row of its syllables, in either order
  turned : (row kept : Row) → AllIn row → AllIn kept → AllIn (reverse_aux row kept)
  turned [] kept p q = q
  turned (s ∷ row) kept p q =
      turned row (s ∷ kept) (both_right (is_syllable_in edition s) _ p)
      (both (is_syllable_in edition s) _ (both_left (is_syllable_in edition s) _ p) q)

  turned_back : (row kept : Row) → AllIn (reverse_aux row kept) → AllIn row × AllIn kept
  turned_back [] kept p = (tt, p)
  turned_back (s ∷ row) kept p =
      let r = turned_back row (s ∷ kept) p in
      (both (is_syllable_in edition s) _ (both_left (is_syllable_in edition s) _ r.1) r.0, both_right (is_syllable_in edition s) _ r.1)

  row_all : (f : Final) (row : Row) → T (is_row_of (is_syllable_in edition) f row) → AllIn row
  row_all f [] q = tt
  row_all f (s ∷ row) q =
      let rest : T (is_syllable_in edition s && is_row_of (is_syllable_in edition) (final_of s) row) = both_right (follows f (head_of s)) _ q in
      both (is_syllable_in edition s) _ (both_left (is_syllable_in edition s) _ rest) (row_all (final_of s) row (both_right (is_syllable_in edition s) _ rest))

  row_of_all : (f : Final) (row : Row) → T (is_row_after f row) → AllIn row → T (is_row_of (is_syllable_in edition) f row)
  row_of_all f [] q p = q
  row_of_all f (s ∷ row) q p =
      let rest : T (is_syllable s && is_row_after (final_of s) row) = both_right (follows f (head_of s)) _ q in
      both (follows f (head_of s)) _ (both_left (follows f (head_of s)) _ q)
      (both (is_syllable_in edition s) _ (both_left (is_syllable_in edition s) _ p)
      (row_of_all (final_of s) row (both_right (is_syllable s) _ rest) (both_right (is_syllable_in edition s) _ p)))

  module _ (word continuation : List ℕ) (whole : Row) (w : GivesIn edition whole (word ++ continuation)) where
    came : run (word ++ continuation) [] ≡ some (reverse whole)
    came = read_back whole (word ++ continuation) (earlier_gives edition whole (word ++ continuation) w)

    -- a beginning of what a row of the edition gives is given by no other row than one of it
    pub earlier_beginning : (row : Row) → Gives row word → GivesIn edition row word
    earlier_beginning row g =
        let e : run word [] ≡ some (reverse row) = read_back row word g in
        let k : RunOut [] word (some (reverse row)) = subst (RunOut [] word) e (run_out word [] tt) in
        let on : run continuation (reverse row) ≡ some (reverse whole) =
        sym (run_append word continuation [] ∙ ap (λ (o : Option Row). and_then o (run continuation)) e) ∙ came in
        let all : AllIn (reverse row) =
        run_back continuation (reverse row) (reverse whole) k.0 (k.2 tt) on (turned whole [] (row_all no_final whole w.is_row) tt) in
        record { is_row = row_of_all no_final row g.is_row (turned_back row [] all).0; joined = g.joined }

    read_on : (o : Option Row) → run word [] ≡ o → T (every is_admitted word)
    read_on none e =
        absurd (none-ne-some (reverse whole) (sym (run_append word continuation [] ∙ ap (λ (o : Option Row). and_then o (run continuation)) e) ∙ came))
    read_on (some kept) e = run_admitted word [] kept e

    -- of the answers: a word that was unfinished in the edition is so still
    pub earlier_unfinished : length word ≤ limit_in edition → ((row : Row) → GivesIn edition row word → ⊥) → (outcome : Outcome) → Answers word outcome
        → outcome ≡ refuses 4 (length word)
    earlier_unfinished short none_gives outcome a =
        answers_alike word outcome (refuses 4 (length word)) a
        (unfinished (record { short = omega (arith, edition_within edition); admitted = every_at is_admitted word (read_on (run word []) refl) })
        (λ row g. none_gives row (earlier_beginning row g)) (earlier_viable edition whole word continuation w))
