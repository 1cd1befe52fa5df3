-- The run marks are the values of the storage order, so that a mark's rank is its place there, and any other value's rank is 16: by one test over the chart, on which all marks stand.
-- Assumes nothing.
use mathlib.Core.Path.{◌≡◌, refl, sym, ap, subst, ◌∙◌}
use mathlib.Core.Bool.{Bool, true, false, not, ◌&&◌}
use mathlib.Core.List.{List, [], ◌∷◌}
use Prim.Native.Nat.{ℕ, zero, suc, ◌+◌, ◌/◌, ◌%◌, ◌≤◌, ◌<◌}
use native.Mathlib.Decide.{dec_lt}
use native.Mathlib.Omega.{arith}
use lib.Dec.{T, eqb, eqb→eq, ltb, ltb→lt, not_T, T_not}
use lib.ListN.{length, get_or}
use borrow.Author.Tests.{eqb-true, ltb-true, le-ltb}
use Rattle.letters.specs.Choice.{pick}
use Rattle.letters.specs.Letters.{within, is_medial, is_vowel_mark, is_tone, is_killer}
use Rattle.letters.proofs.Counted.{on_chart}
use Rattle.letters.proofs.Picks.{and_no_right}
use Rattle.letters.proofs.Table.{at}
use Rattle.letters.proofs.Tests.{either, is_true, implies, implied}
use Rattle.formula.proofs.Classes.{OnChart, inside}
use Rattle.formula.proofs.Lists.{every, both_left, both_right}
use Rattle.storage.specs.Stored.{is_run_mark, storage_order, place_in, rank, goes_behind}
use Rattle.storage.specs.Putting.{rank_table}

pub is_false : (b : Bool) → T (not b) → b ≡ false
is_false true t = absurd t
is_false false t = refl

-- what stands at the place of x is x
placed : (list : List ℕ) (x : ℕ) → place_in list x < length list → get_or list (place_in list x) 0 ≡ x
unfolding pick
placed [] x h = let z : ⊥ = omega arith in absurd z
placed (y ∷ list) x h = go (eqb x y) refl h (placed list x)
  where
    go : (b : Bool) → eqb x y ≡ b → pick b 0 (suc (place_in list x)) < suc (length list) → (place_in list x < length list → get_or list (place_in list x) 0 ≡ x)
        → get_or (y ∷ list) (pick b 0 (suc (place_in list x))) 0 ≡ x
    go true e l f = sym (eqb-true x y e)
    go false e l f = f (omega arith)

-- a test that each value of the list passes, x passes where it has a place there
on_list : (f : ℕ → Bool) (list : List ℕ) (x : ℕ) → T (every f list) → place_in list x < length list → T (f x)
on_list f list x t h = rw (placed list x h) at (each list (place_in list x) t h)
  where
    each : (list : List ℕ) (k : ℕ) → T (every f list) → k < length list → T (f (get_or list k 0))
    each [] k t h = let z : ⊥ = omega arith in absurd z
    each (y ∷ list) zero t h = both_left (f y) (every f list) t
    each (y ∷ list) (suc k) t h = each list k (both_right (f y) (every f list) t) (omega arith)

-- no place is beyond the list's end
place_most : (list : List ℕ) (x : ℕ) → place_in list x ≤ length list
unfolding pick
place_most [] x = omega arith
place_most (y ∷ list) x = go (eqb x y) (place_most list x)
  where
    go : (b : Bool) → place_in list x ≤ length list → pick b 0 (suc (place_in list x)) ≤ suc (length list)
    go true l = omega arith
    go false l = omega arith

-- a value with a place in the order is a mark
pub rank_mark : (x : ℕ) → rank x < 16 → T (is_run_mark x)
unfolding rank is_run_mark
rank_mark x h = on_list is_run_mark storage_order x tt h

-- all marks stand on the chart
value_on_chart : (a x : ℕ) → OnChart a → T (eqb x a) → OnChart x
value_on_chart a x l t = rw (eqb→eq x a t) l

mark_on_chart : (x : ℕ) → T (is_run_mark x) → OnChart x
unfolding is_run_mark
mark_on_chart x t =
    either (OnChart x) (is_medial x) _ (inside 0x103B 0x103E x tt)
    (either (OnChart x) (is_vowel_mark x) _
    (either (OnChart x) (within 0x102B 0x1032 x) (eqb x 0x1036) (inside 0x102B 0x1032 x tt) (value_on_chart 0x1036 x (omega arith, omega arith)))
    (either (OnChart x) (is_killer x) (is_tone x) (value_on_chart 0x103A x (omega arith, omega arith)) (inside 0x1037 0x1038 x tt))) t

-- a mark of the chart has a place in the order
ranked : ℕ → Bool
ranked x = implies (is_run_mark x) (ltb (rank x) 16)

pub mark_rank : (x : ℕ) → T (is_run_mark x) → rank x < 16
unfolding ranked rank is_run_mark pick
mark_rank x t =
    let on = mark_on_chart x t in
    ltb→lt (rank x) 16 (implied (is_run_mark x) (ltb (rank x) 16) (on_chart ranked tt x on.0 on.1) t)

-- a test that the values of the order pass, each mark passes
pub mark_test : (f : ℕ → Bool) → T (every f storage_order) → (x : ℕ) → T (is_run_mark x) → T (f x)
unfolding rank
mark_test f t x m = on_list f storage_order x t (mark_rank x m)

-- what passes a test that no value of the order passes is no mark
pub no_mark : (f : ℕ → Bool) → T (every (λ (y : ℕ). not (f y)) storage_order) → (x : ℕ) → T (f x) → is_run_mark x ≡ false
no_mark f t x h = is_false (is_run_mark x) (not_T (is_run_mark x) (λ m. T_not (f x) (mark_test (λ (y : ℕ). not (f y)) t x m) h))

-- and its rank is the number of marks
pub no_mark_rank : (x : ℕ) → is_run_mark x ≡ false → rank x ≡ 16
unfolding rank
no_mark_rank x e = go (dec_lt (rank x) 16)
  where
    go : Dec (rank x < 16) → rank x ≡ 16
    go (yes l) = absurd (rw e at (rank_mark x l))
    go (no l) = omega (arith, place_most storage_order x)

-- the rank tells marks apart
pub rank_injective : (x y : ℕ) → T (is_run_mark x) → T (is_run_mark y) → rank x ≡ rank y → x ≡ y
unfolding rank
rank_injective x y t u e =
    sym (placed storage_order x (mark_rank x t)) ∙ ap (λ (k : ℕ). get_or storage_order k 0) e ∙ placed storage_order y (mark_rank y u)

-- where both are no marks, or one is none, nothing moves
pub behind_none : (x y : ℕ) → is_run_mark x ≡ false → goes_behind x y ≡ false
unfolding goes_behind
behind_none x y e = rw e

pub behind_apart : (x y : ℕ) → is_run_mark y ≡ false → goes_behind x y ≡ false
unfolding goes_behind
behind_apart x y e = rw e (and_no_right (is_run_mark x) false refl)

-- of a mark, the ranks alone decide: a value that ranks below it is a mark
pub behind_mark : (x y : ℕ) → is_run_mark x ≡ true → goes_behind x y ≡ ltb (rank y) (rank x)
unfolding goes_behind
behind_mark x y e = rw e (go (ltb (rank y) (rank x)) refl)
  where
    go : (b : Bool) → ltb (rank y) (rank x) ≡ b → (is_run_mark y && b) ≡ b
    go true l =
        let h : rank y < rank x = ltb-true (rank y) (rank x) l in
        let most : rank x < 16 = mark_rank x (subst T (sym e) tt) in
        rw (is_true (is_run_mark y) (rank_mark y (omega arith)))
    go false l = and_no_right (is_run_mark y) false refl

-- of any value, its rank modulo 16 decides, which is 0 for what is no mark
pub behind_rank : (x y : ℕ) → goes_behind x y ≡ ltb (rank y) (rank x % 16)
behind_rank x y = go (is_run_mark x) refl
  where
    go : (b : Bool) → is_run_mark x ≡ b → goes_behind x y ≡ ltb (rank y) (rank x % 16)
    go true e =
        let own : rank x % 16 ≡ rank x = omega (arith, mark_rank x (subst T (sym e) tt)) in
        rw own (behind_mark x y e)
    go false e =
        let none : rank x % 16 ≡ 0 = omega (arith, no_mark_rank x e) in
        rw none (behind_none x y e ∙ sym (le-ltb (rank y) 0 (omega arith)))

-- a mark goes behind marks alone
pub behind_marks : (x y : ℕ) → goes_behind x y ≡ true → (is_run_mark x ≡ true) × (is_run_mark y ≡ true)
unfolding goes_behind
behind_marks x y h =
    let test : Bool = is_run_mark y && ltb (rank y) (rank x) in
    let t : T (is_run_mark x && test) = subst T (sym h) tt in (
      is_true (is_run_mark x) (both_left (is_run_mark x) test t),
      is_true (is_run_mark y) (both_left (is_run_mark y) (ltb (rank y) (rank x)) (both_right (is_run_mark x) test t)),
    )

-- the table has the rank of each value from 1000 to 103F
entry_right : ℕ → ℕ → Bool
entry_right k r = eqb r (rank (0x1000 + k))

pub rank_entry : (x : ℕ) → x / 64 ≡ 0x40 → get_or rank_table (x % 64) 0 ≡ rank x
unfolding entry_right rank pick
rank_entry x e =
    let value : 0x1000 + x % 64 ≡ x = omega arith in
    eqb→eq (get_or rank_table (x % 64) 0) (rank (0x1000 + x % 64)) (at entry_right rank_table tt (x % 64) (omega arith)) ∙ ap rank value

-- and no other value is a mark
pub rank_outside : (x : ℕ) → (x / 64 ≡ 0x40 → ⊥) → rank x ≡ 16
rank_outside x n =
    no_mark_rank x
    (is_false (is_run_mark x) (not_T (is_run_mark x) (λ t. n (eqb→eq (x / 64) 0x40 (mark_test (λ (y : ℕ). eqb (y / 64) 0x40) tt x t)))))
