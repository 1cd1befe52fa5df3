-- What the record by number tells, written to lent output: it is the row's, and has eight bytes.
-- Assumes nothing.
use mathlib.Core.Path.{◌≡◌, refl, ap, subst, sym, ◌∙◌}
use mathlib.Core.List.{List, ◌++◌}
use Prim.Native.Nat.{ℕ, ◌≤◌, ◌<◌}
use native.Mathlib.Omega.{arith}
use lib.ListN.{length, drop}
use Rattle.formula.specs.Limits.{record_size}
use Rattle.refusals.specs.Outcome.{accepts, refuses}
use Rattle.refusals.specs.Output.{refused, put, too_short}
use Rattle.reading.specs.Records.{no_bytes, HasRecord, NoReading}
use Rattle.outputs.specs.Outputs.{RecordWritten, answered}
use Rattle.outputs.proofs.Sizes.{record_long}

module _ (word : List ℕ) (number : ℕ) (before : List ℕ) where
  pub refused_right : (refusal place : ℕ) → NoReading word refusal place no_bytes → RecordWritten word number before before (refuses refusal place)
  refused_right refusal place none = answered (refused none.refused refl)

  module _ (bytes : List ℕ) (has : HasRecord word number bytes) where
    pub short_right : length before < record_size → RecordWritten word number before before (refuses 5 record_size)
    short_right less =
        let long = record_long word number bytes has in
        subst (λ (n : ℕ). RecordWritten word number before before (refuses 5 n)) long (answered (too_short has (omega (arith, long)) refl))

    pub written_right : record_size ≤ length before → (after : List ℕ) → after ≡ bytes ++ drop record_size before
        → RecordWritten word number before after (accepts record_size)
    written_right fits after is =
        let long = record_long word number bytes has in
        subst (λ (n : ℕ). RecordWritten word number before after (accepts n)) long
        (answered (put has (omega (arith, long)) (is ∙ ap (λ (n : ℕ). bytes ++ drop n before) (sym long))))
