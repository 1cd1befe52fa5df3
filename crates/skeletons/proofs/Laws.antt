-- A skeleton replaced again does not change, since none of the values that are put is one of the four; and values of which none is are their own skeleton.
-- Assumes nothing.
use mathlib.Core.Path.{◌≡◌, refl, sym, ap, ◌∙◌}
use mathlib.Core.Bool.{false, not, false≢true}
use mathlib.Core.List.{List, [], ◌∷◌, ◌++◌}
use Prim.Native.Nat.{ℕ}
use borrow.Author.Tests.{not-true}
use lib.Dec.{T}
use Rattle.letters.specs.Choice.{pick}
use Rattle.letters.proofs.Tests.{is_true, both_left, both_right}
use Rattle.formula.specs.Lists.{every}
use Rattle.skeletons.specs.Skeleton.{replaced, skeleton_of, is_replaced}
use Rattle.skeletons.proofs.Replacing.{Replacing, zero_digit, seven_digit, letter_u, letter_o, stays, replacing}
use Rattle.skeletons.proofs.Filling.{skeleton_append}

-- a value that is none of the four stays
pub unreplaced : (x : ℕ) → is_replaced x ≡ false → replaced x ≡ x ∷ []
unfolding is_replaced
unreplaced x n = go x (replaced x) n (replacing x)
  where
    go : (y : ℕ) (l : List ℕ) → is_replaced y ≡ false → Replacing y l → l ≡ y ∷ []
    go y l m zero_digit = absurd (false≢true (sym m))
    go y l m seven_digit = absurd (false≢true (sym m))
    go y l m letter_u = absurd (false≢true (sym m))
    go y l m letter_o = absurd (false≢true (sym m))
    go y l m (stays z e) = refl

-- "The skeleton's own values, put through the same replacements again, don't change."
value_again : (x : ℕ) → skeleton_of (replaced x) ≡ replaced x
unfolding replaced pick
value_again x = go x (replaced x) (replacing x)
  where
    go : (y : ℕ) (l : List ℕ) → Replacing y l → skeleton_of l ≡ l
    go y l zero_digit = refl
    go y l seven_digit = refl
    go y l letter_u = refl
    go y l letter_o = refl
    go y l (stays z e) = ap (λ (r : List ℕ). r ++ []) (unreplaced z e)

pub skeleton_again : (word : List ℕ) → skeleton_of (skeleton_of word) ≡ skeleton_of word
skeleton_again [] = refl
skeleton_again (x ∷ word) =
    skeleton_append (replaced x) (skeleton_of word)
    ∙ ap (λ (l : List ℕ). l ++ skeleton_of (skeleton_of word)) (value_again x)
    ∙ ap (λ (l : List ℕ). replaced x ++ l) (skeleton_again word)

-- values of which none is one of the four
pub own_skeleton : (word : List ℕ) → T (every (λ (x : ℕ). not (is_replaced x)) word) → skeleton_of word ≡ word
own_skeleton [] t = refl
own_skeleton (x ∷ word) t =
    ap (λ (l : List ℕ). l ++ skeleton_of word) (unreplaced x (not-true (is_replaced x) (is_true (not (is_replaced x)) (both_left (not (is_replaced x)) _ t))))
    ∙ ap (λ (l : List ℕ). x ∷ l) (own_skeleton word (both_right (not (is_replaced x)) _ t))
