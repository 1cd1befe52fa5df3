-- The starred words of documents 01 and 02: the answer that the definitions give each word, its weights and its spelled syllables.
-- Assumes nothing.
use mathlib.Core.Path.{◌≡◌, refl, ap, sym, subst, ◌∙◌}
use mathlib.Core.Bool.{Bool, true, false, ◌&&◌}
use mathlib.Core.List.{List, [], ◌∷◌, ◌++◌, map, reverse, reverse-reverse}
use mathlib.Core.Option.{Option, none, some, some-injective}
use Prim.Native.Nat.{ℕ, suc, ◌+◌, ◌≤◌, ◌<◌}
use native.Mathlib.Numerals.{add-one}
use native.Mathlib.Omega.{arith}
use lib.Dec.{T, leb, leb→le}
use lib.ListN.{length, get_or, take, drop, length-drop, length-reverse}
use lib.Seq.{take_all, drop-cons}
use Rattle.letters.specs.Choice.{pick}
use Rattle.letters.specs.Letters.{is_admitted}
use Rattle.formula.specs.Limits.{limit}
use Rattle.formula.specs.Syllable.{carries_marks, carries_final, is_closed}
use Rattle.formula.specs.Row.{Row, Gives, Viable}
use Rattle.formula.specs.Spelled.{spelled}
use Rattle.formula.specs.Weighing.{weights_of, weights}
use Rattle.formula.proofs.Lists.{both_left, both_right, every, All, every_all, every_at, same_lists, same_lists_equal}
use Rattle.formula.proofs.Words.{Example, examples}
use Rattle.rows.specs.Machine.{end_of, step, run}
use Rattle.rows.proofs.Sound.{sound}
use Rattle.rows.proofs.Viable.{read_back, only_row, unfinished, alive, stops, goes_on, longest}
use Rattle.refusals.specs.Outcome.{Outcome, accepts, refuses}
use Rattle.refusals.proofs.Same.{same_outcome, same_outcome_lem}
use Rattle.recogniser.specs.Answer.{Admissible, RefusedWith, no_continuation, unfinished as open_end, Answers}

-- the answer of the machine
abbrev at_end : Bool → ℕ → ℕ → Outcome
at_end true n at = accepts n
at_end false n at = refuses 4 at

abbrev after : Option Row → ℕ → (Row → Outcome) → Outcome
after none at f = refuses 3 at
after (some kept) at f = f kept

abbrev verdict : ℕ → Row → List ℕ → Outcome
verdict at kept [] = at_end (is_closed (end_of kept)) (length kept) at
verdict at kept (x ∷ w) = after (step kept x) at (λ (b : Row). verdict (at + 1) b w)

module _ (word : List ℕ) (a : Admissible word) where
  ended : (at : ℕ) (kept : Row) → at ≡ length word → run (take at word) [] ≡ some kept → Answers word (at_end (is_closed (end_of kept)) (length kept) at)
  ended at kept h e = go (is_closed (end_of kept)) refl
    where
      came : run word [] ≡ some kept
      came = subst (λ (w : List ℕ). run w [] ≡ some kept) (take_all at word (omega arith)) e

      go : (b : Bool) → is_closed (end_of kept) ≡ b → Answers word (at_end b (length kept) at)
      go true d =
          let g : Gives (reverse kept) word = sound word kept came (subst T (sym d) tt) in
          record { admissible = a; row = reverse kept; gives = g; only = λ other i. only_row other (reverse kept) word i g; count = length-reverse kept }
      go false d =
          subst (RefusedWith word 4) (sym h)
          (open_end a (unfinished word kept came (λ (t : T (is_closed (end_of kept))). subst T d t)) (alive word kept came))

  verdict_right : (w : List ℕ) (at : ℕ) (kept : Row) → drop at word ≡ w → at ≤ length word → run (take at word) [] ≡ some kept → Answers word (verdict at kept w)
  verdict_right [] at kept d h e = ended at kept (let l = ap length d in omega (arith, length-drop at word)) e
  verdict_right (x ∷ w) at kept d h e = go (step kept x) refl (verdict_right w (at + 1))
    where
      inside : at < length word
      inside = let l = ap length d in omega (arith, length-drop at word)

      cons : get_or word at 0 ∷ drop (suc at) word ≡ x ∷ w
      cons = sym (drop-cons word at 0 inside) ∙ d

      value : get_or word at 0 ≡ x
      value = ap (λ (l : List ℕ). get_or l 0 0) cons

      rest : drop (at + 1) word ≡ w
      rest = ap (λ (n : ℕ). drop n word) (add-one at) ∙ ap (drop 1) cons

      go : (o : Option Row) → step kept x ≡ o
          → ((b : Row) → drop (at + 1) word ≡ w → at + 1 ≤ length word → run (take (at + 1) word) [] ≡ some b → Answers word (verdict (at + 1) b w))
          → Answers word (after o at (λ (b : Row). verdict (at + 1) b w))
      go none s f =
          let t : step kept (get_or word at 0) ≡ none = ap (step kept) value ∙ s in
          no_continuation a
          (λ (v : Viable word). stops word at kept inside e t (length word) inside (subst Viable (sym (take_all (length word) word (omega arith))) v))
          (longest word at kept inside e t)
      go (some b) s f =
          f b rest (omega (arith, inside))
          (subst (λ (n : ℕ). run (take n word) [] ≡ some b) (sym (add-one at)) (goes_on word at kept b inside e (ap (step kept) value ∙ s)))

-- what the documents say of a word: its syllables' weights and spelled forms, or the number and place of its refusal
pub data Expected : Type 0 where
  readable : List (List ℕ) → List (List ℕ) → Expected
  refused : ℕ → ℕ → Expected

abbrev pub expected_outcome : Expected → Outcome
expected_outcome (readable w s) = accepts (length w)
expected_outcome (refused n p) = refuses n p

-- a word of the one table of readable words, with the weights and the spelled syllables that it has there
abbrev pub as_expected : Example → List ℕ × Expected
as_expected e = (e.word, readable e.weigh e.spell)

-- the starred words: the readable ones, and those that are refused
abbrev pub starred : List (List ℕ × Expected)
starred =
    map as_expected examples
    ++ ((0x1000 ∷ 0x1039 ∷ [], refused 3 1)
    ∷ (0x1000 ∷ 0x1000 ∷ 0x1039 ∷ [], refused 4 3)
    ∷ (0x1000 ∷ 0x1004 ∷ 0x1039 ∷ 0x1000 ∷ [], refused 3 2)
    ∷ (0x103F ∷ [], refused 3 0)
    ∷ (0x1000 ∷ 0x103B ∷ 0x103C ∷ [], refused 3 2)
    ∷ (0x1000 ∷ 0x102C ∷ 0x103A ∷ [], refused 3 2)
    -- document 02, E2: an I or 104E carries no medial and no vowel mark, and 103F follows no tone
    ∷ (0x1025 ∷ 0x103B ∷ [], refused 3 1)
    ∷ (0x1025 ∷ 0x102C ∷ [], refused 3 1)
    ∷ (0x104E ∷ 0x103E ∷ [], refused 3 1)
    ∷ (0x104E ∷ 0x102D ∷ [], refused 3 1)
    ∷ (0x1023 ∷ 0x1038 ∷ 0x103F ∷ [], refused 3 2)
    -- a stacked final at the end waits for a letter; "An I or 104E after 1039 is still refused"
    ∷ (0x1023 ∷ 0x1000 ∷ 0x1039 ∷ [], refused 4 3)
    ∷ (0x1000 ∷ 0x1000 ∷ 0x1039 ∷ 0x1025 ∷ [], refused 3 3)
    ∷ (0x1025 ∷ 0x1000 ∷ 0x1039 ∷ 0x104E ∷ [], refused 3 3)
    -- "104E alone among the signs": 104C, 104D, 104F, N and P carry nothing
    ∷ (0x104C ∷ 0x1000 ∷ 0x103A ∷ [], refused 3 2)
    ∷ (0x104D ∷ 0x1038 ∷ [], refused 3 1)
    ∷ (0x104F ∷ 0x103F ∷ [], refused 3 1)
    ∷ (0x1040 ∷ 0x1000 ∷ 0x1039 ∷ [], refused 3 2)
    ∷ (0x104A ∷ 0x1037 ∷ [], refused 3 1)
    -- what 1025 103A is stored as
    ∷ (0x1009 ∷ 0x103A ∷ [], refused 3 1)
    -- document 02, E5: two finals at most, the second plain and before the tone, with no kinzi and no 103F after it
    ∷ (0x1000 ∷ 0x1000 ∷ 0x103A ∷ 0x1005 ∷ 0x103A ∷ 0x1019 ∷ 0x103A ∷ [], refused 3 6)
    ∷ (0x1000 ∷ 0x1000 ∷ 0x103A ∷ 0x1004 ∷ 0x103A ∷ 0x1039 ∷ [], refused 3 5)
    ∷ (0x1000 ∷ 0x1000 ∷ 0x103A ∷ 0x1005 ∷ 0x1039 ∷ [], refused 3 4)
    ∷ (0x1000 ∷ 0x1000 ∷ 0x103A ∷ 0x1005 ∷ 0x103A ∷ 0x103F ∷ [], refused 3 5)
    ∷ (0x1000 ∷ 0x1000 ∷ 0x103A ∷ 0x1021 ∷ 0x103A ∷ [], refused 3 4)
    -- what 1000 1010 1037 103A 1005 103A is stored as, a tone between the finals
    ∷ (0x1000 ∷ 0x1010 ∷ 0x103A ∷ 0x1037 ∷ 0x1005 ∷ 0x103A ∷ [], refused 3 5)
    -- a second final after a stacked one, kinzi or 103F
    ∷ (0x1000 ∷ 0x1000 ∷ 0x1039 ∷ 0x1005 ∷ 0x103A ∷ [], refused 3 4)
    ∷ (0x1000 ∷ 0x1004 ∷ 0x103A ∷ 0x1039 ∷ 0x1005 ∷ 0x103A ∷ [], refused 3 5)
    ∷ (0x1000 ∷ 0x103F ∷ 0x103A ∷ [], refused 3 2)
    ∷ [])

-- the row that was kept has these weights and spelled syllables
abbrev has_forms : Expected → Option Row → Bool
has_forms (readable w s) none = false
has_forms (readable w s) (some kept) = same_lists (weights (reverse kept)) w && same_lists (spelled (reverse kept)) s
has_forms (refused n p) o = true

abbrev is_right : List ℕ × Expected → Bool
is_right e =
    leb (length e.0) limit
    && (every is_admitted e.0 && (same_outcome (verdict 0 [] e.0) (expected_outcome e.1) && has_forms e.1 (run e.0 [])))

starred_computed : T (every is_right starred)
unfolding weights_of pick carries_marks carries_final
starred_computed = tt

-- what the definitions say of a starred word
abbrev pub Forms : List ℕ → Expected → Type 0
Forms word (readable w s) = (row : Row) → Gives row word → (weights row ≡ w) × (spelled row ≡ s)
Forms word (refused n p) = Unit {0}

pub record Right (e : List ℕ × Expected) : Type 0 where
  pub answers : Answers e.0 (expected_outcome e.1)
  pub forms : Forms e.0 e.1

forms_right : (word : List ℕ) (e : Expected) (o : Option Row) → run word [] ≡ o → T (has_forms e o) → Forms word e
forms_right word (readable w s) none d t = absurd t
forms_right word (readable w s) (some kept) d t =
    λ row g. let k : row ≡ reverse kept = sym (reverse-reverse row) ∙ ap reverse (some-injective (reverse row) kept (sym (read_back row word g) ∙ d)) in (
      ap weights k ∙ same_lists_equal (weights (reverse kept)) w (both_left (same_lists (weights (reverse kept)) w) _ t),
      ap spelled k ∙ same_lists_equal (spelled (reverse kept)) s (both_right (same_lists (weights (reverse kept)) w) (same_lists (spelled (reverse kept)) s) t),
    )
forms_right word (refused n p) o d t = tt

right : (e : List ℕ × Expected) → T (is_right e) → Right e
right e t =
    let short = leb (length e.0) limit in
    let known = every is_admitted e.0 in
    let same = same_outcome (verdict 0 [] e.0) (expected_outcome e.1) in
    let forms = has_forms e.1 (run e.0 []) in
    let u : T (known && (same && forms)) = both_right short (known && (same && forms)) t in
    let v : T (same && forms) = both_right known (same && forms) u in
    let a : Admissible e.0 =
    record {
      short = leb→le (length e.0) limit (both_left short (known && (same && forms)) t);
      admitted = every_at is_admitted e.0 (both_left known (same && forms) u);
    } in
    record {
      answers =
          subst (Answers e.0) (same_outcome_lem (verdict 0 [] e.0) (expected_outcome e.1) (both_left same forms v))
          (verdict_right e.0 a e.0 0 [] refl (omega arith) refl);
      forms = forms_right e.0 e.1 (run e.0 []) refl (both_right same forms v);
    }

pub starred_right : All Right starred
starred_right = every_all is_right Right right starred starred_computed
