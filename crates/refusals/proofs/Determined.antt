-- The promise of a call that writes to an output is met by one answer only, where what is handed in is refused in one way or stands for one thing.
-- Assumes nothing.
use mathlib.Core.Path.{◌≡◌, ap, sym, ◌∙◌}
use mathlib.Core.List.{List}
use Prim.Native.Nat.{ℕ}
use native.Mathlib.Omega.{arith}
use lib.ListN.{length}
use Rattle.refusals.specs.Outcome.{Outcome, refuses}
use Rattle.refusals.specs.Output.{Writes, refused, put, too_short}

-- two outcomes are the same, and so is what they leave in an output
pub record Same {A : Type 0} (first second : Outcome) (after final : A) : Type 0 where
  pub outcome : first ≡ second
  pub output : after ≡ final

module _ {A : Type 0} (Refuses : ℕ → ℕ → Type 0) (Stands : A → Type 0) (values : A → List ℕ) (tells : A → ℕ)
    (alike : (n p m q : ℕ) → Refuses n p → Refuses m q → refuses n p ≡ refuses m q) (one : (a b : A) → Stands a → Stands b → a ≡ b)
    (either : (a : A) (n p : ℕ) → Stands a → Refuses n p → ⊥) (before after final : List ℕ) where
  pub writes_determined : (first second : Outcome) → Writes Refuses Stands values tells before after first → Writes Refuses Stands values tells before final second
      → Same first second after final
  writes_determined first second (refused r e) (refused s f) = record { outcome = alike _ _ _ _ r s; output = e ∙ sym f }
  writes_determined first second (refused r e) (put {thing = b} t l f) = absurd (either b _ _ t r)
  writes_determined first second (refused r e) (too_short {thing = b} t l f) = absurd (either b _ _ t r)
  writes_determined first second (put {thing = a} s l e) (refused r f) = absurd (either a _ _ s r)
  writes_determined first second (put {thing = a} s l e) (put {thing = b} t m f) =
      let same : a ≡ b = one a b s t in
      record { outcome = rw same; output = e ∙ rw same (sym f) }
  writes_determined first second (put {thing = a} s l e) (too_short {thing = b} t m f) =
      let z : ⊥ = omega (arith, ap (λ (c : A). length (values c)) (one a b s t)) in
      absurd z
  writes_determined first second (too_short {thing = a} s l e) (refused r f) = absurd (either a _ _ s r)
  writes_determined first second (too_short {thing = a} s l e) (put {thing = b} t m f) =
      let z : ⊥ = omega (arith, ap (λ (c : A). length (values c)) (one a b s t)) in
      absurd z
  writes_determined first second (too_short {thing = a} s l e) (too_short {thing = b} t m f) =
      let same : a ≡ b = one a b s t in
      record { outcome = rw same; output = e ∙ sym f }
