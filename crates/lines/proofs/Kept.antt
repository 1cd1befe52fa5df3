-- The first bytes of a line, more than a line may have, are decoded as the line: where it has more, both are refused for their length.
-- Assumes nothing.
use mathlib.Core.Path.{subst}
use mathlib.Core.List.{List}
use Prim.Native.Nat.{ℕ, ◌≤◌, ◌<◌}
use native.Mathlib.Omega.{arith}
use native.Mathlib.Decide.{dec_le}
use lib.ListN.{length, take}
use lib.Seq.{take_all, length-take-le}
use Rattle.formula.specs.Limits.{line_limit}
use Rattle.lines.specs.Line.{Decodes, LineRefused, too_long, faulty_three}

module _ (most : ℕ) (over : line_limit < most) (line : List ℕ) where
  -- what holds of the first bytes by their decoding holds of the line, where it does of any line that is too long
  kept : (Right : List ℕ → Type 0) → Right (take most line) → (line_limit < length (take most line) → line_limit < length line → Right line) → Right line
  kept Right right long = go (dec_le (length line) most)
    where
      go : Dec (length line ≤ most) → Right line
      go (yes h) = subst Right (take_all most line h) right
      go (no h) = long (omega (arith, length-take-le most line (omega arith))) (omega arith)

  pub decodes_kept : {word : List ℕ} → Decodes (take most line) word → Decodes line word
  decodes_kept {word} d = kept (λ (l : List ℕ). Decodes l word) d λ long h. let z : ⊥ = omega (arith, d.short) in absurd z

  pub refused_kept : {number place : ℕ} → LineRefused (take most line) number place → LineRefused line number place
  refused_kept {number} {place} r = kept (λ (l : List ℕ). LineRefused l number place) r (go r)
    where
      go : {n p : ℕ} → LineRefused (take most line) n p → line_limit < length (take most line) → line_limit < length line → LineRefused line n p
      go (too_long h) long over_long = too_long over_long
      go (faulty_three h f) long over_long = let z : ⊥ = omega arith in absurd z
