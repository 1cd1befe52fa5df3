-- The promise of a part is met by one answer only: one row gives the word, and it fixes where each part begins and how long it is.
-- Assumes nothing.
use mathlib.Core.Path.{◌≡◌, refl, sym, ap, ◌∙◌}
use mathlib.Core.List.{List, []}
use Prim.Native.Nat.{ℕ}
use native.Mathlib.Omega.{arith}
use lib.ListN.{length, take, get_or}
use Rattle.formula.specs.Row.{Row, parts, join}
use Rattle.refusals.specs.Outcome.{Outcome, accepts, accepts_both, absent, refuses}
use Rattle.rows.proofs.Viable.{only_row}
use Rattle.recogniser.proofs.Answered.{refused_no_row}
use Rattle.recogniser.proofs.Determined.{refused_alike}
use Rattle.reading.specs.Parts.{HasPart, NoPart, PartAnswers}

module _ (word : List ℕ) (number : ℕ) where
  parts_alike : (place size other more : ℕ) → HasPart word number place size → HasPart word number other more → accepts_both place size ≡ accepts_both other more
  parts_alike place size other more a b =
      let same : a.row ≡ b.row = only_row a.row b.row word a.gives b.gives in
      let begins : place ≡ other = a.begins ∙ ap (λ (row : Row). length (join (take number row))) same ∙ sym b.begins in
      let ends : size ≡ more = a.ends ∙ ap (λ (row : Row). length (get_or (parts row) number [])) same ∙ sym b.ends in
      cc

  part_or_none : (place size : ℕ) → HasPart word number place size → NoPart word number → ⊥
  part_or_none place size a b =
      let same : length a.row ≡ length b.row = ap length (only_row a.row b.row word a.gives b.gives) in
      omega (arith, a.below, b.beyond)

  -- one answer only
  pub part_determined : (first second : Outcome) → PartAnswers word number first → PartAnswers word number second → first ≡ second
  part_determined (accepts size) second a b = absurd a
  part_determined (accepts_both place size) (accepts more) a b = absurd b
  part_determined (accepts_both place size) (accepts_both other more) a b = parts_alike place size other more a b
  part_determined (accepts_both place size) absent a b = absurd (part_or_none place size a b)
  part_determined (accepts_both place size) (refuses n p) a b = absurd (refused_no_row word n p b a.admissible a.row a.gives)
  part_determined absent (accepts more) a b = absurd b
  part_determined absent (accepts_both place size) a b = absurd (part_or_none place size b a)
  part_determined absent absent a b = refl
  part_determined absent (refuses n p) a b = absurd (refused_no_row word n p b a.admissible a.row a.gives)
  part_determined (refuses n p) (accepts more) a b = absurd b
  part_determined (refuses n p) (accepts_both place size) a b = absurd (refused_no_row word n p a b.admissible b.row b.gives)
  part_determined (refuses n p) absent a b = absurd (refused_no_row word n p a b.admissible b.row b.gives)
  part_determined (refuses n p) (refuses m q) a b = refused_alike word n p m q a b
