-- What a call that writes one list of values tells: they stand at the front of the output, or, where there is room for them, what is handed in is refused.
-- Assumes nothing.
use mathlib.Core.Path.{◌≡◌, refl, sym, ap, subst, ◌∙◌}
use mathlib.Core.List.{List, ◌++◌}
use Prim.Native.Nat.{ℕ, ◌≤◌}
use native.Mathlib.Omega.{arith}
use lib.ListN.{length, take, drop, length-append}
use lib.Seq.{take_at}
use Rattle.refusals.specs.Outcome.{Outcome, accepts, refuses}
use Rattle.refusals.specs.Output.{Writes, refused, put, too_short}

module _ {A : Type 0} (Refuses : ℕ → ℕ → Type 0) (Stands : A → Type 0) (values before after : List ℕ) where
  -- what stands, and its values at the front
  pub record Fronted (size : ℕ) : Type 0 where
    pub thing : A
    pub stands : Stands thing
    pub long : size ≡ length values
    pub written : after ≡ values ++ drop (length values) before
    pub front : take size after ≡ values
    pub fits : size ≤ length after

  pub fronted : (size : ℕ) → Writes Refuses Stands (λ (_ : A). values) (λ (_ : A). length values) before after (accepts size) → Fronted size
  fronted size right = go (accepts size) refl right
    where
      go : (o : Outcome) → o ≡ accepts size → Writes Refuses Stands (λ (_ : A). values) (λ (_ : A). length values) before after o → Fronted size
      go o e (refused r s) = let z : ◌≡◌ {A = ℕ} 0 1 = cc in let y : ⊥ = omega arith in absurd y
      go o e (too_short l h s) = let z : ◌≡◌ {A = ℕ} 0 1 = cc in let y : ⊥ = omega arith in absurd y
      go o e (put {thing = a} l h s) =
          let long : size ≡ length values = cc in
          record {
            thing = a;
            stands = l;
            long = long;
            written = s;
            front = ap (take size) s ∙ take_at values (drop (length values) before) size (sym long);
            fits = omega (arith, ap length s, length-append values (drop (length values) before));
          }

  pub only_refused : ((a : A) → Stands a → length values ≤ length before) → (number place : ℕ)
      → Writes Refuses Stands (λ (_ : A). values) (λ (_ : A). length values) before after (refuses number place) → Refuses number place
  only_refused room number place right = go (refuses number place) refl right
    where
      go : (o : Outcome) → o ≡ refuses number place → Writes Refuses Stands (λ (_ : A). values) (λ (_ : A). length values) before after o
          → Refuses number place
      go o e (refused {number = m} {place = q} r s) =
          let same : m ≡ number = cc in
          let there : q ≡ place = cc in
          subst (λ (k : ℕ). Refuses k place) same (subst (Refuses m) there r)
      go o e (put l h s) = let z : ◌≡◌ {A = ℕ} 0 1 = cc in let y : ⊥ = omega arith in absurd y
      go o e (too_short {thing = a} l h s) = let fits = room a l in let z : ⊥ = omega arith in absurd z
