-- The arms of a `match` on a number, as the code has them: what is so at each key of an arm is so of the number there, and what no arm has is no arm's key.
-- Assumes nothing.
use mathlib.Core.Path.{◌≡◌, refl}
use mathlib.Core.Logic.{inl, inr}
use mathlib.Core.Bool.{Bool, false, ◌||◌}
use mathlib.Core.List.{List, [], ◌∷◌, map}
use Prim.Native.Nat.{ℕ}
use lib.Dec.{T}
use lib.ListN.{length, replicate}
use mir.Syntax.{Body, skip, seq, assign, block, loop, cond, switch, exit, return, unreachable, call, call_v, lend_static, Arms, arm, default, no_default}
use mir.Val.{has_key}
use types.Run.{OneOf, hit}
use Rattle.letters.proofs.Picks.{or_no}
use Rattle.letters.proofs.Tests.{is_false}

-- the keys of each arm, in the order of the code
abbrev keys_of : Arms → List (List ℕ)
keys_of (arm keys body arms) = keys ∷ keys_of arms
keys_of (default body) = []
keys_of no_default = []

-- the arms of a body that begins with a `match`
abbrev pub arms_of : Body → List (List ℕ)
arms_of (switch on arms) = keys_of arms
arms_of (seq first rest) = arms_of first
arms_of skip = []
arms_of (assign place value) = []
arms_of (block body) = []
arms_of (loop body) = []
arms_of (cond test first second) = []
arms_of (exit depth) = []
arms_of return = []
arms_of (call name arguments place) = []
arms_of unreachable = []
arms_of (call_v a b c d) = []
arms_of (lend_static a b c) = []

-- f is r at each of the arm's keys, so it is at x
pub same_at : {A : Type 0} (f : ℕ → A) (r : A) (ks : List ℕ) → replicate (length ks) r ≡ map f ks → (x : ℕ) → OneOf ks x → r ≡ f x
same_at f r [] e x o = absurd o
same_at f r (k ∷ []) e x o = let h : r ≡ f k = cc in rw o h
same_at f r (k ∷ (j ∷ ks)) e x (inl o) = let h : r ≡ f k = cc in rw o h
same_at f r (k ∷ (j ∷ ks)) e x (inr o) = same_at f r (j ∷ ks) (cc) x o

-- x is a key of one of the arms
abbrev pub in_arms : List (List ℕ) → ℕ → Bool
in_arms [] x = false
in_arms (ks ∷ arms) x = has_key ks x || in_arms arms x

-- what the last arm knows of x: the arm before it comes first
abbrev pub InNone : List (List ℕ) → ℕ → Type 0
InNone [] x = Unit {0}
InNone (ks ∷ arms) x = InNone arms x × (OneOf ks x → ⊥)

pub in_none : (arms : List (List ℕ)) (x : ℕ) → InNone arms x → in_arms arms x ≡ false
in_none [] x n = refl
in_none (ks ∷ arms) x n = or_no (has_key ks x) (in_arms arms x) (is_false (has_key ks x) (λ (t : T (has_key ks x)). n.1 (hit ks x t))) (in_none arms x n.0)
