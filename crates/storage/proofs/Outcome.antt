-- A stored form has at most as many values as its word, and the word's values, 1026 and 1009 alone: each value in front adds one or changes one.
-- Assumes nothing.
use mathlib.Core.Bool.{Bool, true, false}
use mathlib.Core.List.{List, [], ◌∷◌}
use Prim.Native.Nat.{ℕ, suc, ◌≤◌}
use native.Mathlib.Omega.{arith}
use lib.Dec.{T}
use lib.ListN.{length}
use Rattle.letters.specs.Choice.{pick}
use Rattle.letters.specs.Letters.{is_admitted}
use Rattle.formula.proofs.Lists.{every, both, both_left, both_right}
use Rattle.storage.specs.Stored.{is_run_mark, insert, makes_long_vowel, makes_letter, stored_form, itself}
use Rattle.storage.specs.Putting.{join_front, put_front}
use Rattle.storage.proofs.Inserting.{insert_length, insert_every}
use Rattle.storage.proofs.Composing.{stored_front}

-- at most one value more
put_length : (x : ℕ) (values : List ℕ) → length (put_front x values) ≤ suc (length values)
unfolding put_front pick
put_length x values = go (is_run_mark x)
  where
    by_tests : (y : ℕ) (rest : List ℕ) (long letter : Bool) → length (pick long (0x1026 ∷ rest) (pick letter 0x1009 x ∷ y ∷ rest)) ≤ suc (suc (length rest))
    by_tests y rest true letter = omega arith
    by_tests y rest false letter = omega arith

    joined : (values : List ℕ) → length (join_front x values) ≤ suc (length values)
    joined [] = omega arith
    joined (y ∷ rest) = by_tests y rest (makes_long_vowel x y) (makes_letter x y)

    go : (b : Bool) → length (pick b (insert x values) (join_front x values)) ≤ suc (length values)
    go true = omega (arith, insert_length itself x values)
    go false = joined values

pub stored_shorter : (word : List ℕ) → length (stored_form word) ≤ length word
unfolding stored_form
stored_shorter [] = omega arith
stored_shorter (x ∷ word) =
    rw (stored_front x word) (omega (arith, put_length x (stored_form word), stored_shorter word))

-- a test that each value passes, and 1026 and 1009 too
module _ (f : ℕ → Bool) (vowel : T (f 0x1026)) (letter : T (f 0x1009)) where
  put_every : (x : ℕ) (values : List ℕ) → T (f x) → T (every f values) → T (every f (put_front x values))
  unfolding put_front pick
  put_every x values here t = go (is_run_mark x)
    where
      by_tests : (y : ℕ) (rest : List ℕ) (long short : Bool) → T (every f (y ∷ rest)) → T (every f (pick long (0x1026 ∷ rest) (pick short 0x1009 x ∷ y ∷ rest)))
      by_tests y rest true short u = both (f 0x1026) (every f rest) vowel (both_right (f y) (every f rest) u)
      by_tests y rest false true u = both (f 0x1009) (every f (y ∷ rest)) letter u
      by_tests y rest false false u = both (f x) (every f (y ∷ rest)) here u

      joined : (values : List ℕ) → T (every f values) → T (every f (join_front x values))
      joined [] u = both (f x) true here tt
      joined (y ∷ rest) u = by_tests y rest (makes_long_vowel x y) (makes_letter x y) u

      go : (b : Bool) → T (every f (pick b (insert x values) (join_front x values)))
      go true = insert_every itself f x values here t
      go false = joined values t

  pub stored_every : (word : List ℕ) → T (every f word) → T (every f (stored_form word))
  unfolding stored_form
  stored_every [] t = tt
  stored_every (x ∷ word) t =
      rw (stored_front x word) (put_every x (stored_form word) (both_left (f x) (every f word) t) (stored_every word (both_right (f x) (every f word) t)))

-- no foreign value comes in
pub stored_admitted : (word : List ℕ) → T (every is_admitted word) → T (every is_admitted (stored_form word))
stored_admitted = stored_every is_admitted tt tt
