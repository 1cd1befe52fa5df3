-- The stored form of a word is made from its last value to its first: composing looks at a value and the next one, and what is composed begins with a mark or a stacker where the word does.
-- Assumes nothing.
use mathlib.Core.Path.{◌≡◌, refl, sym, ap, subst, ◌∙◌}
use mathlib.Core.Bool.{Bool, true, false, not, ◌||◌}
use mathlib.Core.List.{List, [], ◌∷◌}
use Prim.Native.Nat.{ℕ}
use lib.Dec.{T, eqb}
use borrow.Author.Tests.{eqb-true}
use Rattle.letters.specs.Choice.{pick}
use Rattle.letters.proofs.Picks.{and_no_right}
use Rattle.storage.specs.Stored.{is_run_mark, goes_behind, insert, sort_runs, makes_long_vowel, makes_letter, compose, stored_form, itself}
use Rattle.storage.specs.Putting.{join_front, put_front}
use Rattle.storage.proofs.Ranks.{is_false, mark_test, behind_apart, behind_marks}
use Rattle.storage.proofs.Inserting.{insert_behind, insert_here, on_insert, insert_none}

-- only a 1025 becomes another value
pub other_vowel : (x y : ℕ) → eqb x 0x1025 ≡ false → makes_long_vowel x y ≡ false
unfolding makes_long_vowel
other_vowel x y e = rw e

pub other_letter : (x y : ℕ) → eqb x 0x1025 ≡ false → makes_letter x y ≡ false
unfolding makes_letter
other_letter x y e = rw e

-- no mark is 1025
pub mark_other : (x : ℕ) → T (is_run_mark x) → eqb x 0x1025 ≡ false
mark_other x t = is_false (eqb x 0x1025) (mark_test (λ (y : ℕ). not (eqb y 0x1025)) tt x t)

-- any value but 1025 is composed as it is
compose_other : (x : ℕ) (values : List ℕ) → eqb x 0x1025 ≡ false → compose (x ∷ values) ≡ x ∷ compose values
unfolding pick
compose_other x [] e = refl
compose_other x (y ∷ values) e = rw (other_vowel x y e, other_letter x y e)

-- what is composed from a 1025 on begins with 1025, 1026 or 1009
module _ (P : List ℕ → Type 0) (kept : (values : List ℕ) → P (0x1025 ∷ values)) (vowel : (values : List ℕ) → P (0x1026 ∷ values))
    (letter : (values : List ℕ) → P (0x1009 ∷ values)) where
  by_tests : (long short : Bool) (left right : List ℕ) → P (pick long (0x1026 ∷ left) (pick short 0x1009 0x1025 ∷ right))
  unfolding pick
  by_tests true short left right = vowel left
  by_tests false true left right = letter right
  by_tests false false left right = kept right

  on_vowel_lem : (values : List ℕ) → P (compose (0x1025 ∷ values))
  on_vowel_lem [] = kept []
  on_vowel_lem (y ∷ values) = by_tests (makes_long_vowel 0x1025 y) (makes_letter 0x1025 y) (compose values) (compose (y ∷ values))

-- before each of those nothing changes
pub same_before : (x y : ℕ) → eqb y 0x102E ≡ false → (eqb y 0x103A || eqb y 0x1039) ≡ false → (makes_long_vowel x y ≡ false) × (makes_letter x y ≡ false)
unfolding makes_long_vowel makes_letter
same_before x y e f = (and_no_right (eqb x 0x1025) (eqb y 0x102E) e, and_no_right (eqb x 0x1025) (eqb y 0x103A || eqb y 0x1039) f)

pub join_same : (x y : ℕ) (values : List ℕ) → (makes_long_vowel x y ≡ false) × (makes_letter x y ≡ false) → x ∷ y ∷ values ≡ join_front x (y ∷ values)
unfolding pick
join_same x y values s = rw (s.0, s.1)

compose_same : (x y : ℕ) (values : List ℕ) → (makes_long_vowel x y ≡ false) × (makes_letter x y ≡ false) → compose (x ∷ y ∷ values) ≡ x ∷ compose (y ∷ values)
unfolding pick
compose_same x y values s = rw (s.0, s.1)

-- one value before what is composed
compose_front : (x : ℕ) (values : List ℕ) → compose (x ∷ values) ≡ join_front x (compose values)
compose_front x [] = refl
compose_front x (y ∷ values) = go (eqb y 0x1025) refl
  where
    go : (b : Bool) → eqb y 0x1025 ≡ b → compose (x ∷ y ∷ values) ≡ join_front x (compose (y ∷ values))
    go true e =
        subst (λ (v : ℕ). compose (x ∷ v ∷ values) ≡ join_front x (compose (v ∷ values))) (sym (eqb-true y 0x1025 e))
        (compose_same x 0x1025 values (same_before x 0x1025 refl refl)
        ∙ on_vowel_lem (λ (l : List ℕ). x ∷ l ≡ join_front x l) (λ l. join_same x 0x1025 l (same_before x 0x1025 refl refl))
        (λ l. join_same x 0x1026 l (same_before x 0x1026 refl refl)) (λ l. join_same x 0x1009 l (same_before x 0x1009 refl refl)) values)
    go false e = rw (compose_other y values e)

-- a mark goes behind the same values before and after composing
here_composed : (x y : ℕ) (values : List ℕ) → goes_behind x y ≡ false → insert x (compose (y ∷ values)) ≡ x ∷ compose (y ∷ values)
unfolding is_run_mark
here_composed x y values h = go (eqb y 0x1025) refl
  where
    go : (b : Bool) → eqb y 0x1025 ≡ b → insert x (compose (y ∷ values)) ≡ x ∷ compose (y ∷ values)
    go true e =
        subst (λ (v : ℕ). insert x (compose (v ∷ values)) ≡ x ∷ compose (v ∷ values)) (sym (eqb-true y 0x1025 e))
        (on_vowel_lem (λ (l : List ℕ). insert x l ≡ x ∷ l) (λ l. insert_here itself x 0x1025 l (behind_apart x 0x1025 refl))
        (λ l. insert_here itself x 0x1026 l (behind_apart x 0x1026 refl)) (λ l. insert_here itself x 0x1009 l (behind_apart x 0x1009 refl)) values)
    go false e = rw (compose_other y values e) (insert_here itself x y (compose values) h)

behind_other : (x y : ℕ) → goes_behind x y ≡ true → eqb y 0x1025 ≡ false
behind_other x y h = mark_other y (subst T (sym (behind_marks x y h).1) tt)

compose_insert : (x : ℕ) (values : List ℕ) → T (is_run_mark x) → compose (insert x values) ≡ insert x (compose values)
compose_insert x values t =
    on_insert itself x (λ (l r : List ℕ). compose r ≡ insert x (compose l)) refl
    (λ y l h p. compose_other y (insert x l) (behind_other x y h) ∙ ap (λ (r : List ℕ). y ∷ r) p
    ∙ sym (ap (insert x) (compose_other y l (behind_other x y h)) ∙ insert_behind itself x y (compose l) h))
    (λ y l h. compose_other x (y ∷ l) (mark_other x t) ∙ sym (here_composed x y l h)) values

-- one value before a stored form
pub stored_front : (x : ℕ) (word : List ℕ) → stored_form (x ∷ word) ≡ put_front x (stored_form word)
unfolding stored_form put_front pick
stored_front x word = go (is_run_mark x) refl
  where
    go : (b : Bool) → is_run_mark x ≡ b → compose (insert x (sort_runs word)) ≡ pick b (insert x (compose (sort_runs word))) (join_front x (compose (sort_runs word)))
    go true e = compose_insert x (sort_runs word) (subst T (sym e) tt)
    go false e = ap compose (insert_none itself x (sort_runs word) e) ∙ compose_front x (sort_runs word)
