-- Tests as facts: what a test that passes or fails says, by itself, with another, and of a choice by it.
-- Assumes nothing.
use mathlib.Core.Path.{◌≡◌, refl, ap, sym, subst}
use mathlib.Core.Logic.{◌⊎◌, inl, inr}
use mathlib.Core.Bool.{Bool, true, false, not, ◌&&◌, ◌||◌}
use lib.Dec.{T, T_not}
use Rattle.letters.specs.Choice.{pick}

pub is_true : (a : Bool) → T a → a ≡ true
is_true true t = refl
is_true false t = absurd t

pub is_false : (a : Bool) → (T a → ⊥) → a ≡ false
is_false true n = absurd (n tt)
is_false false n = refl

pub of_true : (a : Bool) → a ≡ true → T a
of_true a e = subst T (sym e) tt

-- both of two
pub both : (a b : Bool) → T a → T b → T (a && b)
both true b s t = t
both false b s t = absurd s

pub both_left : (a b : Bool) → T (a && b) → T a
both_left true b t = tt
both_left false b t = t

pub both_right : (a b : Bool) → T (a && b) → T b
both_right true b t = t
both_right false b t = absurd t

-- not both
pub clash : (a b : Bool) → T a → T b → T (not (a && b)) → ⊥
clash true true s t u = u
clash true false s t u = t
clash false b s t u = s

-- one of two
pub or_left : (a b : Bool) → T a → T (a || b)
or_left true b t = tt
or_left false b t = absurd t

pub or_right : (a b : Bool) → T b → T (a || b)
or_right true b t = tt
or_right false b t = t

pub either : (P : Type 0) (a b : Bool) → (T a → P) → (T b → P) → T (a || b) → P
either P true b f g t = f tt
either P false b f g t = g t

pub or_cases : (a b : Bool) → T (a || b) → T a ⊎ T b
or_cases a b t = either (T a ⊎ T b) a b inl inr t

-- the other one, where one fails
pub or_second : (a b : Bool) → a ≡ false → T (a || b) → T b
or_second a b e t = either (T b) a b (λ s. absurd (subst T e s)) (λ s. s) t

pub or_false : (a : Bool) → T (a || false) → T a
or_false a t = either (T a) a false (λ s. s) (λ s. absurd s) t

pub or_not : (a b : Bool) → T (a || not b) → a ≡ false → b ≡ false
or_not a b t e = is_false b (T_not b (or_second a (not b) e t))

-- one, or each of two others
pub or_both_left : (a b c : Bool) → T (a || (b && c)) → T (a || b)
or_both_left a b c t = either (T (a || b)) a (b && c) (or_left a b) (λ s. or_right a b (both_left b c s)) t

pub or_both_right : (a b c : Bool) → T (a || (b && c)) → T (a || c)
or_both_right a b c t = either (T (a || c)) a (b && c) (or_left a c) (λ s. or_right a c (both_right b c s)) t

-- the second passes where the first does
abbrev pub implies : Bool → Bool → Bool
implies true b = b
implies false b = true

pub implied : (a b : Bool) → T (implies a b) → T a → T b
implied true b t s = t
implied false b t s = absurd s

-- both pass, or neither
abbrev pub same : Bool → Bool → Bool
same true b = b
same false b = not b

pub same_equal : (a b : Bool) → T (same a b) → a ≡ b
same_equal true true t = refl
same_equal true false t = absurd t
same_equal false true t = absurd t
same_equal false false t = refl

-- what is chosen
pub pick_true : {A : Type 0} (a : Bool) (x y : A) → a ≡ true → pick a x y ≡ x
unfolding pick
pick_true a x y e = ap (λ (b : Bool). pick b x y) e

pub pick_false : {A : Type 0} (a : Bool) (x y : A) → a ≡ false → pick a x y ≡ y
unfolding pick
pick_false a x y e = ap (λ (b : Bool). pick b x y) e

-- what is so of each of the two, where it is chosen
pub on_pick : {A : Type 0} (P : A → Type 0) (a : Bool) (x y : A) → (T a → P x) → ((T a → ⊥) → P y) → P (pick a x y)
unfolding pick
on_pick P true x y f g = f tt
on_pick P false x y f g = g (λ t. t)
