-- Merging two lists in order gives what sorting them one behind the other gives: inserting into the second list and merging is merging and
-- inserting. It holds for any order in which what goes before, and what does not, carries over; equal ones keep their places.
-- Assumes nothing.
use mathlib.Core.Path.{◌≡◌, refl, sym, ap, ◌∙◌}
use mathlib.Core.Bool.{Bool, true, false}
use mathlib.Core.List.{List, [], ◌∷◌, ◌++◌}
use Prim.Native.Nat.{ℕ, suc, ◌+◌}
use native.Mathlib.Omega.{arith}
use lib.ListN.{length}
use Rattle.letters.specs.Choice.{pick}
use Rattle.entries.specs.Rank.{insert}
use Rattle.entries.proofs.Ranked.{length_insert}
use Rattle.sorting.specs.Sorting.{in_order_onto, in_order, merged}
use Rattle.sorting.proofs.Ordered.{true_not_false}

module _ (less : ℕ → ℕ → Bool) where
  pub insert_first : (e x : ℕ) (l : List ℕ) → less e x ≡ true → insert less e (x ∷ l) ≡ e ∷ x ∷ l
  unfolding insert pick
  insert_first e x l q = ap (λ (t : Bool). pick t (e ∷ x ∷ l) (x ∷ insert less e l)) q

  insert_later : (e x : ℕ) (l : List ℕ) → less e x ≡ false → insert less e (x ∷ l) ≡ x ∷ insert less e l
  unfolding insert pick
  insert_later e x l q = ap (λ (t : Bool). pick t (e ∷ x ∷ l) (x ∷ insert less e l)) q

  pub merged_second : (x : ℕ) (xs : List ℕ) (y : ℕ) (ys : List ℕ) → less y x ≡ true → merged less (x ∷ xs) (y ∷ ys) ≡ y ∷ merged less (x ∷ xs) ys
  unfolding merged pick
  merged_second x xs y ys q = ap (λ (t : Bool). pick t (y ∷ merged less (x ∷ xs) ys) (x ∷ merged less xs (y ∷ ys))) q

  pub merged_first : (x : ℕ) (xs : List ℕ) (y : ℕ) (ys : List ℕ) → less y x ≡ false → merged less (x ∷ xs) (y ∷ ys) ≡ x ∷ merged less xs (y ∷ ys)
  unfolding merged pick
  merged_first x xs y ys q = ap (λ (t : Bool). pick t (y ∷ merged less (x ∷ xs) ys) (x ∷ merged less xs (y ∷ ys))) q

  pub merged_nil : (d : List ℕ) → merged less d [] ≡ d
  unfolding merged
  merged_nil [] = refl
  merged_nil (x ∷ d) = refl

  pub length_merged : (xs ys : List ℕ) → length (merged less xs ys) ≡ length xs + length ys
  unfolding merged pick
  length_merged [] ys = omega arith
  length_merged (x ∷ xs) [] = omega arith
  length_merged (x ∷ xs) (y ∷ ys) = go (less y x) (length_merged (x ∷ xs) ys) (length_merged xs (y ∷ ys))
    where
      go : (t : Bool) → length (merged less (x ∷ xs) ys) ≡ suc (length xs) + length ys
          → length (merged less xs (y ∷ ys)) ≡ length xs + suc (length ys)
          → length (pick t (y ∷ merged less (x ∷ xs) ys) (x ∷ merged less xs (y ∷ ys))) ≡ suc (length xs) + suc (length ys)
      go true h i = omega arith
      go false h i = omega arith

  length_onto : (d es : List ℕ) → length (in_order_onto less d es) ≡ length d + length es
  unfolding in_order_onto
  length_onto d [] = omega arith
  length_onto d (e ∷ es) = omega (arith, length_onto (insert less e d) es, length_insert less e d)

  -- sorting keeps the length
  pub length_in_order : (es : List ℕ) → length (in_order less es) ≡ length es
  length_in_order es = omega (arith, length_onto [] es)

  onto_append : (d xs ys : List ℕ) → in_order_onto less d (xs ++ ys) ≡ in_order_onto less (in_order_onto less d xs) ys
  unfolding in_order_onto
  onto_append d [] ys = refl
  onto_append d (x ∷ xs) ys = onto_append (insert less x d) xs ys

  module _ (transitive : (x y z : ℕ) → less x y ≡ true → less y z ≡ true → less x z ≡ true)
      (level : (x y z : ℕ) → less x y ≡ false → less y z ≡ false → less x z ≡ false) where
    merged_insert : (d m : List ℕ) (e : ℕ) → merged less d (insert less e m) ≡ insert less e (merged less d m)
    unfolding merged insert
    merged_insert [] m e = refl
    merged_insert (x ∷ xs) [] e = go (less e x) refl (merged_insert xs [] e)
      where
        go : (t : Bool) → less e x ≡ t → merged less xs (e ∷ []) ≡ insert less e (merged less xs [])
            → merged less (x ∷ xs) (e ∷ []) ≡ insert less e (x ∷ xs)
        go true q h = merged_second x xs e [] q ∙ sym (insert_first e x xs q)
        go false q h =
            merged_first x xs e [] q ∙ ap (λ (l : List ℕ). x ∷ l) (h ∙ ap (insert less e) (merged_nil xs))
            ∙ sym (insert_later e x xs q)
    merged_insert (x ∷ xs) (y ∷ ys) e = go (less e y) refl (less e x) refl (less y x) refl (merged_insert xs (y ∷ ys) e) (merged_insert (x ∷ xs) ys e)
      where
        -- where the entry goes before both firsts, it is the first of all
        front : (u : Bool) → less y x ≡ u → less e x ≡ true → less e y ≡ true
            → insert less e (merged less (x ∷ xs) (y ∷ ys)) ≡ e ∷ merged less (x ∷ xs) (y ∷ ys)
        front true u p q =
            ap (insert less e) (merged_second x xs y ys u) ∙ insert_first e y (merged less (x ∷ xs) ys) q
            ∙ ap (λ (l : List ℕ). e ∷ l) (sym (merged_second x xs y ys u))
        front false u p q =
            ap (insert less e) (merged_first x xs y ys u) ∙ insert_first e x (merged less xs (y ∷ ys)) p
            ∙ ap (λ (l : List ℕ). e ∷ l) (sym (merged_first x xs y ys u))

        -- where the first list's first is taken, the entry goes into what follows it
        behind : less e x ≡ false → less y x ≡ false → merged less xs (insert less e (y ∷ ys)) ≡ insert less e (merged less xs (y ∷ ys))
            → x ∷ merged less xs (insert less e (y ∷ ys)) ≡ insert less e (merged less (x ∷ xs) (y ∷ ys))
        behind p u h =
            ap (λ (l : List ℕ). x ∷ l) h ∙ sym (insert_later e x (merged less xs (y ∷ ys)) p)
            ∙ ap (insert less e) (sym (merged_first x xs y ys u))

        go : (s : Bool) → less e y ≡ s → (t : Bool) → less e x ≡ t → (u : Bool) → less y x ≡ u
            → merged less xs (insert less e (y ∷ ys)) ≡ insert less e (merged less xs (y ∷ ys))
            → merged less (x ∷ xs) (insert less e ys) ≡ insert less e (merged less (x ∷ xs) ys)
            → merged less (x ∷ xs) (insert less e (y ∷ ys)) ≡ insert less e (merged less (x ∷ xs) (y ∷ ys))
        go true s true t u w h i =
            ap (merged less (x ∷ xs)) (insert_first e y ys s) ∙ merged_second x xs e (y ∷ ys) t ∙ sym (front u w t s)
        go true s false t true w h i = true_not_false (sym (transitive e y x s w) ∙ t)
        go true s false t false w h i =
            ap (merged less (x ∷ xs)) (insert_first e y ys s) ∙ merged_first x xs e (y ∷ ys) t
            ∙ ap (λ (l : List ℕ). x ∷ merged less xs l) (sym (insert_first e y ys s)) ∙ behind t w h
        go false s t q true w h i =
            ap (merged less (x ∷ xs)) (insert_later e y ys s) ∙ merged_second x xs y (insert less e ys) w
            ∙ ap (λ (l : List ℕ). y ∷ l) i ∙ sym (insert_later e y (merged less (x ∷ xs) ys) s)
            ∙ ap (insert less e) (sym (merged_second x xs y ys w))
        go false s t q false w h i =
            ap (merged less (x ∷ xs)) (insert_later e y ys s) ∙ merged_first x xs y (insert less e ys) w
            ∙ ap (λ (l : List ℕ). x ∷ merged less xs l) (sym (insert_later e y ys s)) ∙ behind (level e y x s w) w h

    merged_onto : (d m es : List ℕ) → merged less d (in_order_onto less m es) ≡ in_order_onto less (merged less d m) es
    unfolding in_order_onto
    merged_onto d m [] = refl
    merged_onto d m (e ∷ es) = merged_onto d (insert less e m) es ∙ ap (λ (l : List ℕ). in_order_onto less l es) (merged_insert d m e)

    -- two parts in order, merged, are the whole in order
    pub merged_parts : (xs ys : List ℕ) → merged less (in_order less xs) (in_order less ys) ≡ in_order less (xs ++ ys)
    merged_parts xs ys =
        merged_onto (in_order less xs) [] ys ∙ ap (λ (l : List ℕ). in_order_onto less l ys) (merged_nil (in_order less xs))
        ∙ sym (onto_append [] xs ys)
