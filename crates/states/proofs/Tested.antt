-- A test over the medial groups, vowels and heads that an open syllable can have, and over the values of a class, is one computation.
-- Assumes nothing.
use mathlib.Core.Path.{◌≡◌, refl, ap, sym, ◌∙◌}
use mathlib.Core.Bool.{Bool, true, false, not, ◌&&◌, ◌||◌}
use mathlib.Core.List.{List, [], ◌∷◌}
use Prim.Native.Nat.{ℕ, ◌+◌, ◌≤◌, ◌<◌}
use native.Mathlib.Omega.{arith}
use lib.Dec.{T, eqb, eqb→eq}
use Rattle.letters.specs.Choice.{pick}
use Rattle.letters.specs.Marks.{MedialGroup, medial_groups, Vowel, vowels}
use Rattle.letters.specs.Weights.{is_final_letter}
use Rattle.letters.proofs.Counted.{on_chart}
use Rattle.letters.proofs.Table.{up_to}
use Rattle.formula.proofs.Lists.{both_left, both_right, every, every_all, All}
use Rattle.formula.proofs.Pieces.{each_vowel, each_medial}
use Rattle.states.specs.State.{State, done, pair_final, plain_final_lem, nga_final, waiting, head_stays, head_second, head_closes, head_nga, after_ya_ra, after_wa, after_ha, with_e, with_e_aa, with_i, with_u, with_vowel, Room, any_final, second_final, no_room, head_state, state_number, state_at, state_count}
use Rattle.states.specs.Transition.{Transition, refuse, to, same}

-- a state is known by its number
pub numbered : (s : State) → state_at (state_number s) ≡ s
numbered done = refl
numbered pair_final = refl
numbered plain_final_lem = refl
numbered nga_final = refl
numbered waiting = refl
numbered head_stays = refl
numbered head_second = refl
numbered head_closes = refl
numbered head_nga = refl
numbered after_ya_ra = refl
numbered after_wa = refl
numbered after_ha = refl
numbered with_e = refl
numbered with_e_aa = refl
numbered with_i = refl
numbered with_u = refl
numbered with_vowel = refl

-- which is below their number
pub state_small : (s : State) → state_number s < state_count
state_small done = omega arith
state_small pair_final = omega arith
state_small plain_final_lem = omega arith
state_small nga_final = omega arith
state_small waiting = omega arith
state_small head_stays = omega arith
state_small head_second = omega arith
state_small head_closes = omega arith
state_small head_nga = omega arith
state_small after_ya_ra = omega arith
state_small after_wa = omega arith
state_small after_ha = omega arith
state_small with_e = omega arith
state_small with_e_aa = omega arith
state_small with_i = omega arith
state_small with_u = omega arith
state_small with_vowel = omega arith

-- the states of heads, and that a test which passes at each of the list passes at any
abbrev heads : List State
heads = head_stays ∷ head_second ∷ head_closes ∷ head_nga ∷ []

each_head : (f : State → Bool) → T (every f heads) → (room : Room) (h : ℕ) → T (f (head_state room h))
unfolding pick
each_head f t room h = go room
  where
    each : All (λ (s : State). T (f s)) heads
    each = every_all f (λ (s : State). T (f s)) (λ (s : State). λ (q : T (f s)). q) heads t

    second : (p : Bool) → T (f (pick p head_second head_stays))
    second true = each.1.0
    second false = each.0

    first : (p q : Bool) → T (f (pick p (pick q head_nga head_closes) head_stays))
    first true true = each.1.1.1.0
    first true false = each.1.1.0
    first false q = each.0

    go : (room : Room) → T (f (head_state room h))
    go any_final = first (is_final_letter h) (eqb h 0x1004)
    go second_final = second (is_final_letter h)
    go no_room = each.0

module _ (f : MedialGroup → Vowel → State → Bool) where
  -- the test passes at each medial group and vowel on each head
  abbrev pub at_heads : MedialGroup → Vowel → Bool
  at_heads m v = every (f m v) heads

  abbrev pub everywhere : Bool
  everywhere = every (λ (m : MedialGroup). every (at_heads m) vowels) medial_groups

  pub each_open : T everywhere → (m : MedialGroup) (v : Vowel) (room : Room) (h : ℕ) → T (f m v (head_state room h))
  each_open t m v room h =
      each_head (f m v) (each_vowel (at_heads m) (each_medial (λ (n : MedialGroup). every (at_heads n) vowels) t m) v) room h

-- a test that passes at each value of a class on the chart
pub in_class_lem : (class f : ℕ → Bool) → T (up_to (λ (k : ℕ). not (class (0x1000 + k)) || f (0x1000 + k)) 80) → (x : ℕ) → T (class x)
    → (0x1000 ≤ x) × (x ≤ 0x104F) → T (f x)
in_class_lem class f t x c b = go (class x) c (on_chart (λ (y : ℕ). not (class y) || f y) t x b.0 b.1)
  where
    go : (p : Bool) → T p → T (not p || f x) → T (f x)
    go true i q = q
    go false i q = absurd i

-- transitions that pass the test are the same
pub same_equal : (t u : Transition) → T (same t u) → t ≡ u
same_equal refuse refuse q = refl
same_equal refuse (to e b r) q = absurd q
same_equal (to d a s) refuse q = absurd q
same_equal (to d a s) (to e b r) q =
    let rest = both_right (eqb d e) (eqb a b && eqb (state_number s) (state_number r)) q in
    let i : d ≡ e = eqb→eq d e (both_left (eqb d e) (eqb a b && eqb (state_number s) (state_number r)) q) in
    let l : a ≡ b = eqb→eq a b (both_left (eqb a b) (eqb (state_number s) (state_number r)) rest) in
    let j : state_number s ≡ state_number r = eqb→eq _ _ (both_right (eqb a b) (eqb (state_number s) (state_number r)) rest) in
    let k : s ≡ r = sym (numbered s) ∙ ap state_at j ∙ numbered r in
    rw (i, l, k) refl
