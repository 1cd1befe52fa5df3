-- A list stored into another from a place on: where one is stored another may follow, and nothing before and behind it has changed.
-- Assumes nothing.
use mathlib.Core.Path.{◌≡◌, refl, sym, ap, ◌∙◌}
use mathlib.Core.List.{List, [], ◌∷◌, ◌++◌, append_assoc, append-nil}
use Prim.Native.Nat.{ℕ, suc, ◌+◌, ◌≤◌, ◌<◌}
use native.Mathlib.Nat.{add-zero, zero-add}
use native.Mathlib.Numerals.{add-one}
use native.Mathlib.Omega.{arith}
use borrow.Rule.Slice.PartMut.{put_mid}
use lib.ListN.{length, take, drop, get_or, set, length-append}
use lib.Seq.{sets, sets-eq, paste, take-set-le, take-suc, length-take-le, take_all, take_at, drop_at, drop-length}
use Rattle.std.proofs.lemmas.Slice.{put_mid-paste}

module _ {A : Type 0} where
  -- what is stored behind what was stored
  pub sets_append : (a b l : List A) (i : ℕ) → sets (sets l i a) (i + length a) b ≡ sets l i (a ++ b)
  sets_append [] b l i = ap (λ (k : ℕ). sets l k b) (add-zero i)
  sets_append (x ∷ a) b l i =
      let e : i + suc (length a) ≡ suc i + length a = omega arith in
      ap (λ (k : ℕ). sets (sets (set l i x) (suc i) a) k b) e ∙ sets_append a b (set l i x) (suc i)

  -- one element more of a list
  pub sets_next : (vs l : List A) (i n : ℕ) (z : A) → n < length vs
      → set (sets l i (take n vs)) (i + n) (get_or vs n z) ≡ sets l i (take (n + 1) vs)
  sets_next vs l i n z h =
      ap (λ (k : ℕ). set (sets l i (take n vs)) (i + k) (get_or vs n z)) (sym (length-take-le n vs (omega arith)))
      ∙ sets_append (take n vs) (get_or vs n z ∷ []) l i
      ∙ ap (sets l i) (sym (ap (λ (k : ℕ). take k vs) (add-one n) ∙ take-suc vs n z h))

  -- what stands before the stores stays
  pub sets_before : (vs l : List A) (i q : ℕ) → q ≤ i → take q (sets l i vs) ≡ take q l
  sets_before [] l i q h = refl
  sets_before (x ∷ vs) l i q h = sets_before vs (set l i x) (suc i) q (omega arith) ∙ take-set-le q l i x h

  -- what is stored stands there
  pub sets_there : (vs l : List A) (i : ℕ) → i + length vs ≤ length l → take (length vs) (drop i (sets l i vs)) ≡ vs
  sets_there vs l i h =
      let front : length (take i l) ≡ i = length-take-le i l (omega arith) in
      ap (λ (k : List A). take (length vs) (drop i k)) (sets-eq vs l i h ∙ append_assoc (take i l) vs (drop (i + length vs) l))
      ∙ ap (take (length vs)) (drop_at (take i l) (vs ++ drop (i + length vs) l) i front)
      ∙ take_at vs (drop (i + length vs) l) (length vs) refl

  -- what stands behind the stores stays
  pub sets_behind : (vs l : List A) (i : ℕ) → i + length vs ≤ length l → drop (i + length vs) (sets l i vs) ≡ drop (i + length vs) l
  sets_behind vs l i h =
      ap (drop (i + length vs)) (sets-eq vs l i h)
      ∙ drop_at (take i l ++ vs) (drop (i + length vs) l) (i + length vs)
      (length-append (take i l) vs ∙ ap (λ (n : ℕ). n + length vs) (length-take-le i l (omega arith)))

  -- the front of a list, stored
  pub sets_paste : (vs l : List A) (i n : ℕ) → n ≤ length vs → i + n ≤ length l → sets l i (take n vs) ≡ paste l i vs n
  sets_paste vs l i n h fits =
      let long : length (take n vs) ≡ n = length-take-le n vs h in
      sets-eq (take n vs) l i (omega arith) ∙ ap (λ (k : ℕ). take i l ++ take n vs ++ drop (i + k) l) long

  -- a part of a slice that holds a list: the list is stored where the part begins
  pub sets_part : (ys vs l : List A) (i k : ℕ) → ys ≡ vs → k ≡ length vs → i + k ≤ length l → put_mid i k l ys ≡ sets l i vs
  sets_part ys vs l i k same long fits =
      put_mid-paste i k l ys vs (length vs) same (sym long) refl
      ∙ sym (sets_paste vs l i (length vs) (omega arith) (omega arith)) ∙ ap (sets l i) (take_all (length vs) vs (omega arith))

  -- stored at the front
  pub sets_front : (vs l : List A) → length vs ≤ length l → sets l 0 vs ≡ vs ++ drop (length vs) l
  sets_front vs l h = sets-eq vs l 0 (rw zero-add h) ∙ ap (λ (k : ℕ). vs ++ drop k l) (zero-add (length vs))

  -- stored over the whole
  pub sets_whole : (vs l : List A) → length vs ≡ length l → sets l 0 vs ≡ vs
  sets_whole vs l e =
      sets_front vs l (omega arith) ∙ ap (λ (k : ℕ). vs ++ drop k l) e ∙ ap (λ (r : List A). vs ++ r) (drop-length l) ∙ append-nil vs
