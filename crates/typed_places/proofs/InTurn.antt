-- Equal values keep the order in which they were typed: a place goes behind places of other values alone, and each is inserted before all that follow it.
-- Assumes nothing.
use mathlib.Core.Path.{◌≡◌, sym, ap, subst, ◌∙◌}
use mathlib.Core.Bool.{Bool, true, false, ◌&&◌}
use mathlib.Core.List.{List, [], ◌∷◌}
use Prim.Native.Nat.{ℕ, zero, suc, ◌<◌}
use native.Mathlib.Omega.{arith}
use lib.Dec.{T, eqb, ltb, lt→ltb, ltb→lt}
use lib.ListN.{length, get_or}
use borrow.Author.Tests.{eq-eqb, ne_eqb, ltb-true}
use Rattle.letters.specs.Choice.{pick}
use Rattle.letters.specs.Counting.{up_from}
use Rattle.letters.proofs.Tests.{implies, implied}
use Rattle.formula.proofs.Lists.{every, every_at, both, both_left, both_right}
use Rattle.storage.specs.Stored.{goes_behind, rank, makes_long_vowel, insert_by, sort_runs_by}
use Rattle.storage.proofs.Ranks.{behind_mark, behind_marks}
use Rattle.storage.proofs.Inserting.{on_insert, insert_every}
use Rattle.typed_places.specs.Typed.{typed_at, sorted_places, compose_places, typed_places}
use Rattle.typed_places.proofs.Sorting.{sort_every}
use Rattle.typed_places.proofs.Laws.{compose_every}

-- what goes behind a value is another value
behind_other : (x y : ℕ) → goes_behind x y ≡ true → eqb y x ≡ false
behind_other x y h =
    let less : rank y < rank x = ltb-true (rank y) (rank x) (sym (behind_mark x y (behind_marks x y h).0) ∙ h) in
    ne_eqb y x (λ e. omega (arith, ap rank e))

module _ (word : List ℕ) where
  -- of equal values the one typed first comes first
  abbrev in_order : ℕ → ℕ → Bool
  in_order p q = implies (eqb (typed_at word p) (typed_at word q)) (ltb p q)

  abbrev in_turn : List ℕ → Bool
  in_turn [] = true
  in_turn (p ∷ places) = every (in_order p) places && in_turn places

  before_all : (p : ℕ) (places : List ℕ) → T (every (ltb p) places) → T (every (in_order p) places)
  before_all p [] t = tt
  before_all p (q ∷ places) t =
      both (in_order p q) (every (in_order p) places) (go (eqb (typed_at word p) (typed_at word q)) (both_left (ltb p q) (every (ltb p) places) t))
      (before_all p places (both_right (ltb p q) (every (ltb p) places) t))
    where
      go : (b : Bool) → T (ltb p q) → T (implies b (ltb p q))
      go true l = l
      go false l = tt

  insert_turn : (p : ℕ) (sorted : List ℕ) → T (every (ltb p) sorted) → T (in_turn sorted) → T (in_turn (insert_by (typed_at word) p sorted))
  insert_turn p =
      on_insert (typed_at word) p (λ (l r : List ℕ). T (every (ltb p) l) → T (in_turn l) → T (in_turn r)) (λ a t. tt)
      (λ q l h f a t. both (every (in_order q) (insert_by (typed_at word) p l)) (in_turn (insert_by (typed_at word) p l))
      (insert_every (typed_at word) (in_order q) p l (subst (λ (b : Bool). T (implies b (ltb q p))) (sym (behind_other (typed_at word p) (typed_at word q) h)) tt)
      (both_left (every (in_order q) l) (in_turn l) t))
      (f (both_right (ltb p q) (every (ltb p) l) a) (both_right (every (in_order q) l) (in_turn l) t)))
      (λ q l h a t. both (every (in_order p) (q ∷ l)) (in_turn (q ∷ l)) (before_all p (q ∷ l) a) t)

  above_every : (p k n : ℕ) → p < k → T (every (ltb p) (up_from k n))
  above_every p k zero h = tt
  above_every p k (suc n) h = both (ltb p k) (every (ltb p) (up_from (suc k) n)) (lt→ltb p k h) (above_every p (suc k) n (omega arith))

  sort_turn : (k n : ℕ) → T (in_turn (sort_runs_by (typed_at word) (up_from k n)))
  sort_turn k zero = tt
  sort_turn k (suc n) =
      insert_turn k (sort_runs_by (typed_at word) (up_from (suc k) n))
      (sort_every (typed_at word) (ltb k) (up_from (suc k) n) (above_every k (suc k) n (omega arith))) (sort_turn (suc k) n)

  compose_turn : (places : List ℕ) → T (in_turn places) → T (in_turn (compose_places word places))
  unfolding pick
  compose_turn [] t = tt
  compose_turn (p ∷ []) t = tt
  compose_turn (p ∷ q ∷ places) t =
      go (makes_long_vowel (typed_at word p) (typed_at word q)) (compose_turn places (both_right (every (in_order q) places) (in_turn places) rest)) (compose_turn (q ∷ places) rest)
    where
      rest : T (in_turn (q ∷ places))
      rest = both_right (every (in_order p) (q ∷ places)) (in_turn (q ∷ places)) t

      ahead : T (every (in_order p) (q ∷ places))
      ahead = both_left (every (in_order p) (q ∷ places)) (in_turn (q ∷ places)) t

      go : (b : Bool) → T (in_turn (compose_places word places)) → T (in_turn (compose_places word (q ∷ places)))
          → T (in_turn (pick b (p ∷ compose_places word places) (p ∷ compose_places word (q ∷ places))))
      go true short long =
          both (every (in_order p) (compose_places word places)) (in_turn (compose_places word places))
          (compose_every word (in_order p) places (both_right (in_order p q) (every (in_order p) places) ahead)) short
      go false short long =
          both (every (in_order p) (compose_places word (q ∷ places))) (in_turn (compose_places word (q ∷ places)))
          (compose_every word (in_order p) (q ∷ places) ahead) long

  turn_at : (places : List ℕ) → T (in_turn places) → (q r : ℕ) → q < r → r < length places → T (in_order (get_or places q 0) (get_or places r 0))
  turn_at [] t q r h l = let z : ⊥ = omega arith in absurd z
  turn_at (p ∷ places) t q zero h l = let z : ⊥ = omega arith in absurd z
  turn_at (p ∷ places) t zero (suc r) h l = every_at (in_order p) places (both_left (every (in_order p) places) (in_turn places) t) r (omega arith)
  turn_at (p ∷ places) t (suc q) (suc r) h l = turn_at places (both_right (every (in_order p) places) (in_turn places) t) q r (omega arith) (omega arith)

  -- of two equal values the one typed first stands first in the stored form
  pub typed_in_turn : (q r : ℕ) → q < r → r < length (typed_places word)
      → typed_at word (get_or (typed_places word) q 0) ≡ typed_at word (get_or (typed_places word) r 0) → get_or (typed_places word) q 0 < get_or (typed_places word) r 0
  unfolding typed_places
  typed_in_turn q r h l e =
      let p = get_or (typed_places word) q 0 in
      let s = get_or (typed_places word) r 0 in
      ltb→lt p s
      (implied (eqb (typed_at word p) (typed_at word s)) (ltb p s)
      (turn_at (typed_places word) (compose_turn (sorted_places word) (sort_turn 0 (length word))) q r h l)
      (subst T (sym (eq-eqb (typed_at word p) (typed_at word s) e)) tt))
