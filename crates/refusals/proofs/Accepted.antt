-- An accepted call that writes to an output and tells how many values it wrote: where what is handed in stands for one thing alone, its values stand
-- at the front, and the rest is untouched. Where the output is too short, as many are needed as that thing has. Assumes nothing.
use mathlib.Core.Path.{◌≡◌, refl, sym, ap, subst, ◌∙◌}
use mathlib.Core.List.{List, ◌++◌}
use Prim.Native.Nat.{ℕ, ◌≤◌, ◌<◌}
use native.Mathlib.Omega.{arith}
use lib.ListN.{length, take, drop, length-append}
use lib.Seq.{take_at, drop_at}
use Rattle.refusals.specs.Outcome.{Outcome, accepts, refuses}
use Rattle.refusals.specs.Output.{Writes, refused, put, too_short}

-- the thing that stands, and what is written of it
record Accepted {A : Type 0} (Stands : A → Type 0) (values : A → List ℕ) (before after : List ℕ) (number : ℕ) : Type 0 where
  pub thing : A
  pub stands : Stands thing
  pub told : number ≡ length (values thing)
  pub written : after ≡ values thing ++ drop (length (values thing)) before

module _ {A : Type 0} (Refuses : ℕ → ℕ → Type 0) (Stands : A → Type 0) (values : A → List ℕ) (before after : List ℕ) (number : ℕ)
    (right : Writes Refuses Stands values (λ (a : A). length (values a)) before after (accepts number)) where
  accepted : Accepted Stands values before after number
  accepted = go (accepts number) refl right
    where
      go : (o : Outcome) → o ≡ accepts number → Writes Refuses Stands values (λ (a : A). length (values a)) before after o
          → Accepted Stands values before after number
      go o e (refused r s) = let z : ◌≡◌ {A = ℕ} 0 1 = cc in let y : ⊥ = omega arith in absurd y
      go o e (too_short h l s) = let z : ◌≡◌ {A = ℕ} 0 1 = cc in let y : ⊥ = omega arith in absurd y
      go o e (put {thing = a} h l s) = record { thing = a; stands = h; told = cc; written = s }

  module _ (thing : A) (one : (a : A) → Stands a → a ≡ thing) where
    same : accepted.thing ≡ thing
    same = one accepted.thing accepted.stands

    pub accepted_stands : Stands thing
    accepted_stands = subst Stands same accepted.stands

    pub accepted_count : number ≡ length (values thing)
    accepted_count = accepted.told ∙ ap (λ (a : A). length (values a)) same

    pub accepted_written : after ≡ values thing ++ drop number before
    accepted_written = accepted.written ∙ (λ i. values (same i) ++ drop (sym accepted.told i) before)

    pub accepted_front : take number after ≡ values thing
    accepted_front = ap (take number) accepted_written ∙ take_at (values thing) (drop number before) number (sym accepted_count)

    pub accepted_rest : drop number after ≡ drop number before
    accepted_rest = ap (drop number) accepted_written ∙ drop_at (values thing) (drop number before) number (sym accepted_count)

    pub accepted_fits : number ≤ length after
    accepted_fits = omega (arith, accepted_count, ap length accepted_written, length-append (values thing) (drop number before))

-- an output that is too short for the values of the thing, and stays as it is
pub record Short (values before after : List ℕ) (needed : ℕ) : Type 0 where
  pub count : needed ≡ length values
  pub room : length before < needed
  pub same : after ≡ before

module _ {A : Type 0} (Refuses : ℕ → ℕ → Type 0) (Stands : A → Type 0) (values : A → List ℕ) (tells : A → ℕ) (before after : List ℕ) (needed : ℕ)
    (other : (number place : ℕ) → Refuses number place → number ≡ 5 → ⊥) (thing : A) (one : (a : A) → Stands a → a ≡ thing) where
  pub short_count : Writes Refuses Stands values tells before after (refuses 5 needed) → Short (values thing) before after needed
  short_count right = go (refuses 5 needed) refl right
    where
      go : (o : Outcome) → o ≡ refuses 5 needed → Writes Refuses Stands values tells before after o → Short (values thing) before after needed
      go o e (refused {number = number} {place = place} r s) = absurd (other number place r (cc))
      go o e (put h l s) = let z : ◌≡◌ {A = ℕ} 0 1 = cc in let y : ⊥ = omega arith in absurd y
      go o e (too_short {thing = a} h l s) =
          let count : needed ≡ length (values a) = cc in
          record { count = count ∙ ap (λ (b : A). length (values b)) (one a h); room = omega (arith, count); same = s }
