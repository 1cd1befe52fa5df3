-- A call that puts the values of what is handed in, and tells how many there are, keeps its promise.
-- Assumes nothing.
use mathlib.Core.Path.{◌≡◌, subst}
use mathlib.Core.List.{List, ◌++◌}
use Prim.Native.Nat.{ℕ, ◌≤◌}
use native.Mathlib.Omega.{arith}
use lib.ListN.{length, drop}
use Rattle.refusals.specs.Outcome.{Outcome}
use Rattle.refusals.specs.Output.{Writes, put, too_short, Puts, whole, no_room}

module _ {A : Type 0} (Refuses : ℕ → ℕ → Type 0) (Stands : A → Type 0) (values : A → List ℕ) (before after : List ℕ) where
  pub puts_writes : (thing : A) → Stands thing → (given : List ℕ) → given ≡ values thing → (answer : Outcome) → Puts given before after answer
      → Writes Refuses Stands values (λ a. length (values a)) before after answer
  puts_writes thing s given e answer p = go answer (subst (λ (l : List ℕ). Puts l before after answer) e p)
    where
      go : (o : Outcome) → Puts (values thing) before after o → Writes Refuses Stands values (λ a. length (values a)) before after o
      go _ (whole h d) = put s h d
      go _ (no_room h d) = too_short s h d

-- where there is room, the values are put
pub puts_room : (values before after : List ℕ) (answer : Outcome) → Puts values before after answer → length values ≤ length before
    → after ≡ values ++ drop (length values) before
puts_room values before after answer (whole h e) l = e
puts_room values before after answer (no_room h e) l = let z : ⊥ = omega arith in absurd z
