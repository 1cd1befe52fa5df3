-- `normaliser::as_handed_in` meets its contract: number 2 is that of `Foreign` alone.
-- Assumes nothing.
use borrow.Enum.Refused.{opened}
use mathlib.Core.Path.{◌≡◌, refl, ap}
use mathlib.Core.Bool.{false, false≢true}
use mathlib.Core.List.{◌∷◌}
use Prim.Native.Nat.{ℕ}
use lib.Dec.{eqb}
use Rattle.letters.specs.Counting.{up_from}
use Rattle.letters.proofs.Arms.{same_at}
use Rattle.refusals.specs.Refusal.{number_of, place_of}
use Rattle.refusals.specs.declared.Refusal.{Refusal}
use Rattle.refusals.specs.declared.Refusal.TheVariants.{Foreign}
use Rattle.refusals.proofs.Laws.{number_place_injective}
use Rattle.recogniser.proofs.Found.{found_place}
use Rattle.normaliser.proofs.as_handed_in.Goals as goal

-- number 2 is a foreign value's
is_foreign_lem : (r : Refusal) → number_of r ≡ 2 → r ≡ Foreign (place_of r)
is_foreign_lem r e = number_place_injective r (Foreign (place_of r)) e refl

pub returns-in-Foreign : goal.returns-in-Foreign
returns-in-Foreign c =
    let e = c.in-Foreign.is in
    let there = found_place c.args.word.now 0 c.first_foreign-foreign.result c.first_foreign-foreign.ensures in
    record { same = λ n. absurd (n (ap number_of e)); first = λ _. (refl, rw c.unwrap_or.ensures there) }

pub returns : goal.returns
returns c =
    let r = c.args.refusal in
    let other = same_at (λ (tag : ℕ). eqb tag 1) false (0 ∷ up_from 2 14) refl _ (opened c.in_default.in_default-own.keys2) in
    record { same = λ _. refl; first = λ (e : number_of r ≡ 2). absurd (false≢true (rw (is_foreign_lem r e) at other)) }
