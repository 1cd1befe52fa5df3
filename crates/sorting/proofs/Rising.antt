-- Parts that are in order as they stand, and starts of which each goes before the one that it follows.
-- Assumes nothing.
use mathlib.Core.Path.{◌≡◌, refl, sym, ap, ◌∙◌}
use mathlib.Core.Bool.{Bool, true, false}
use mathlib.Core.List.{List, [], ◌∷◌, ◌++◌, reverse, reverse_aux}
use Prim.Native.Nat.{ℕ, zero, suc, ◌-◌, ◌≤◌, ◌<◌}
use native.Mathlib.Omega.{arith}
use Rattle.std.specs.Prelude.{◌&&◌}
use lib.ListN.{length, get_or, take, drop, take-append-drop, drop_of_length-le}
use lib.Seq.{drop-cons, length-take-le}
use Rattle.std.proofs.lemmas.List.{get_or-take}
use Rattle.letters.specs.Choice.{pick}
use Rattle.formula.proofs.Lists.{All, all_map}
use Rattle.entries.specs.Rank.{insert}
use Rattle.sorting.specs.Sorting.{in_order_onto, in_order, merged, Rises, falls_behind, falls}
use Rattle.sorting.proofs.Ordered.{true_not_false}
use Rattle.sorting.proofs.Merges.{insert_first, merged_first}

module _ (less : ℕ → ℕ → Bool) where
  all_insert : (P : ℕ → Type 0) (e : ℕ) (l : List ℕ) → P e → All P l → All P (insert less e l)
  unfolding insert pick
  all_insert P e [] p a = (p, tt)
  all_insert P e (x ∷ l) p a = go (less e x) (all_insert P e l p a.1)
    where
      go : (t : Bool) → All P (insert less e l) → All P (pick t (e ∷ x ∷ l) (x ∷ insert less e l))
      go true h = (p, a)
      go false h = (a.0, h)

  module _ (asymmetric : (x y : ℕ) → less x y ≡ true → less y x ≡ false)
      (level : (x y z : ℕ) → less x y ≡ false → less y z ≡ false → less x z ≡ false) where
    rises_insert : (e : ℕ) (l : List ℕ) → Rises less l → Rises less (insert less e l)
    unfolding insert pick
    rises_insert e [] r = (tt, tt)
    rises_insert e (x ∷ l) r = go (less e x) refl (rises_insert e l r.1)
      where
        go : (t : Bool) → less e x ≡ t → Rises less (insert less e l) → Rises less (pick t (e ∷ x ∷ l) (x ∷ insert less e l))
        go true q h = (
          (
            asymmetric e x q,
            all_map (λ (z : ℕ). less z x ≡ false) (λ (z : ℕ). less z e ≡ false) (λ z s. level z x e s (asymmetric e x q)) l r.0,
          ),
          r,
        )
        go false q h = (all_insert (λ (z : ℕ). less z x ≡ false) e l q r.0, h)

    rises_onto : (d l : List ℕ) → Rises less d → Rises less (in_order_onto less d l)
    unfolding in_order_onto
    rises_onto d [] r = r
    rises_onto d (x ∷ l) r = rises_onto (insert less x d) l (rises_insert x d r)

    pub rises_in_order : (l : List ℕ) → Rises less (in_order less l)
    rises_in_order l = rises_onto [] l tt

    -- what does not go before the last of a part that rises goes before none of it
    behind_last : (n : ℕ) (xs : List ℕ) (y : ℕ) → length xs ≡ suc n → less y (get_or xs n 0) ≡ false → Rises less xs → All (λ (z : ℕ). less y z ≡ false) xs
    behind_last n [] y e q r = tt
    behind_last zero (x ∷ []) y e q r = (q, tt)
    behind_last zero (x ∷ x' ∷ l) y e q r = let z : ⊥ = omega arith in absurd z
    behind_last (suc n) (x ∷ []) y e q r = let z : ⊥ = omega arith in absurd z
    behind_last (suc n) (x ∷ x' ∷ l) y e q r =
        let rest : All (λ (z : ℕ). less y z ≡ false) (x' ∷ l) = behind_last n (x' ∷ l) y (omega arith) q r.1 in
        (level y x' x rest.0 r.0.0, rest)

    merged_as_stands : (xs : List ℕ) (y : ℕ) (ys : List ℕ) → All (λ (z : ℕ). less y z ≡ false) xs → merged less xs (y ∷ ys) ≡ xs ++ y ∷ ys
    unfolding merged
    merged_as_stands [] y ys a = refl
    merged_as_stands (x ∷ xs) y ys a = merged_first less x xs y ys a.0 ∙ ap (λ (l : List ℕ). x ∷ l) (merged_as_stands xs y ys a.1)

    -- two parts of which the second begins with none that goes before the last of the first
    pub parts_as_stand : (starts : List ℕ) (middle : ℕ) → 0 < middle → middle < length starts → Rises less (take middle starts)
        → less (get_or starts middle 0) (get_or starts (middle - 1) 0) ≡ false → starts ≡ merged less (take middle starts) (drop middle starts)
    parts_as_stand starts middle h k r q =
        let y : ℕ = get_or starts middle 0 in
        let cut : drop middle starts ≡ y ∷ drop (suc middle) starts = drop-cons starts middle 0 k in
        let all : All (λ (z : ℕ). less y z ≡ false) (take middle starts) =
        behind_last (middle - 1) (take middle starts) y (omega (arith, length-take-le middle starts (omega arith)))
        (ap (less y) (get_or-take middle starts (middle - 1) 0 (omega arith)) ∙ q) r in
        sym
        (ap (merged less (take middle starts)) cut ∙ merged_as_stands (take middle starts) y (drop (suc middle) starts) all
        ∙ ap (λ (l : List ℕ). take middle starts ++ l) (sym cut) ∙ take-append-drop middle starts)

  both_true : (s t : Bool) → (s && t) ≡ true → (s ≡ true) × (t ≡ true)
  both_true true t e = (refl, e)
  both_true false t e = true_not_false (sym e)

  falls_onto : (x : ℕ) (d l : List ℕ) → falls_behind less x l ≡ true → in_order_onto less (x ∷ d) l ≡ reverse_aux l (x ∷ d)
  unfolding in_order_onto
  falls_onto x d [] e = refl
  falls_onto x d (y ∷ l) e =
      let both : (less y x ≡ true) × (falls_behind less y l ≡ true) = both_true (less y x) (falls_behind less y l) e in
      ap (λ (m : List ℕ). in_order_onto less m l) (insert_first less y x d both.0) ∙ falls_onto y (x ∷ d) l both.1

  -- starts that fall, turned round, are in order
  pub reverse_in_order : (l : List ℕ) → falls less l ≡ true → reverse l ≡ in_order less l
  unfolding in_order_onto insert
  reverse_in_order [] e = refl
  reverse_in_order (x ∷ l) e = sym (falls_onto x [] l e)

  -- how a loop tells it: by what is left behind the start that is looked at
  pub fall_first : (l : List ℕ) → falls less l ≡ falls_behind less (get_or l 0 0) (drop 1 l)
  fall_first [] = refl
  fall_first (x ∷ l) = refl

  pub fall_next : (l : List ℕ) (n : ℕ) → n < length l
      → falls_behind less (get_or l (n - 1) 0) (drop n l) ≡ (less (get_or l n 0) (get_or l (n - 1) 0) && falls_behind less (get_or l n 0) (drop (suc n) l))
  fall_next l n h = ap (falls_behind less (get_or l (n - 1) 0)) (drop-cons l n 0 h)

  pub fall_last : (l : List ℕ) (x n : ℕ) → length l ≤ n → falls_behind less x (drop n l) ≡ true
  fall_last l x n h = ap (falls_behind less x) (drop_of_length-le l {i = n} h)
