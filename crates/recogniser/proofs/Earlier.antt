-- A word that was readable in an earlier edition is readable, and read as the row that it had.
-- Assumes nothing.
use mathlib.Core.Path.{◌≡◌}
use mathlib.Core.List.{List}
use Prim.Native.Nat.{ℕ, ◌≤◌}
use native.Mathlib.Omega.{arith}
use lib.ListN.{length}
use Rattle.formula.specs.Limits.{limit}
use Rattle.formula.specs.Row.{Row, Gives}
use Rattle.formula.specs.Earlier.{Edition, base, independent_finals, limit_in}
use Rattle.refusals.specs.Outcome.{Outcome, accepts}
use Rattle.rows.proofs.Earlier.{earlier_gives, earlier_only}
use Rattle.recogniser.specs.Answer.{Reads, Readable, Answers}
use Rattle.recogniser.specs.Earlier.{ReadableIn}
use Rattle.recogniser.proofs.Answered.{row_reads, reads_readable}
use Rattle.recogniser.proofs.Determined.{answers_alike}

-- no edition allowed longer words
pub edition_within : (edition : Edition) → limit_in edition ≤ limit
edition_within base = omega arith
edition_within independent_finals = omega arith

module _ {edition : Edition} (word : List ℕ) (b : ReadableIn edition word) where
  pub earlier_short : length word ≤ limit
  earlier_short = let s = b.short in omega (arith, edition_within edition)

  -- it is read with as many syllables
  pub earlier_reads : Reads word (length b.row)
  earlier_reads = row_reads b.row word (earlier_gives edition b.row word b.gives) earlier_short

  pub earlier_readable : Readable word
  earlier_readable = reads_readable word (length b.row) earlier_reads

  -- of the answers: no other is right
  pub earlier_answer : (outcome : Outcome) → Answers word outcome → outcome ≡ accepts (length b.row)
  earlier_answer outcome a = answers_alike word outcome (accepts (length b.row)) a earlier_reads

  -- and whatever row gives it is the one that it had
  pub earlier_same : (row : Row) → Gives row word → row ≡ b.row
  earlier_same row g = earlier_only edition b.row row word b.gives g
