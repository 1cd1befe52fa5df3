-- `labelling::skeleton` meets its contract: a row is tested and replaced as it is handed in, and any other word is normalised first.
-- Assumes nothing.
use mathlib.Core.Path.{◌≡◌, refl}
use Rattle.std.proofs.Common.{rules}
use Rattle.std.specs.declared.result.Result.TheVariants.{Err}
use native.Mathlib.Omega.{arith}
use Rattle.refusals.specs.Output.{refused}
use Rattle.labelling.proofs.Stored.{row_puts, formed, not_formed, formed_readable, form_puts}
use Rattle.labelling.proofs.skeleton.Goals as goal

pub returns-in-Ok : goal.returns-in-Ok
returns-in-Ok c = row_puts _ _ c.in-Ok.ensures _ _ _ c.put_skeleton.ensures

pub returns-in_err-count : goal.returns-in_err-count
returns-in_err-count c =
    let told : c.from_residual.result ≡ Err c.in_err-count.field-0.0 = search rules in
    rw told (refused (not_formed _ _ _ (omega arith) _ _ c.in_err-count.ensures) refl)

pub count_syllables-requires : goal.count_syllables-requires
count_syllables-requires c = formed_readable _ _ _ (formed _ _ _ _ c.in_ok-count.ensures)

pub returns : goal.returns
returns c = form_puts _ _ _ (formed _ _ _ _ c.in_ok-count.ensures) _ c.count_syllables.ensures _ _ _ c.put_skeleton-2.ensures
