-- `writing::write` meets its contract: the size that `measure` gives says which case of `WriteRight` holds, and `put_row` writes the word.
-- Assumes nothing.
use mathlib.Core.Path.{◌≡◌, ap, sym, ◌∙◌}
use Rattle.std.specs.declared.result.Result.TheVariants.{Err}
use Rattle.refusals.specs.declared.Refusal.TheVariants.{NoSuchRow}
use native.Mathlib.Omega.{arith}
use Rattle.std.specs.declared.option.Option.TheVariants.{None, Some}
use Rattle.std.proofs.lemmas.Result.{err_from_is_err_and}
use Rattle.writing.proofs.Answers.{size_values, write_none, write_short, row_fits, write_done}
use Rattle.writing.proofs.write.Goals as goal

pub returns-in_err-count : goal.returns-in_err-count
returns-in_err-count c =
    let none : c.measure.result ≡ None = grind arith in
    let p = err_from_is_err_and c.from_residual.result c.from_residual.ensures.1 in
    let kind : Err c.in_err-count.field-0.0 ≡ Err NoSuchRow = sym c.in_err-count.was ∙ c.ok_or.ensures.value ∙ rw none in
    let refused : c.from_residual.result ≡ Err NoSuchRow = p.1 ∙ ap Err p.2 ∙ kind in
    rw refused (write_none _ _ _ c.measure.ensures none)

pub returns-then-output-count : goal.returns-then-output-count
returns-then-output-count c =
    let found : c.measure.result ≡ Some c.in_ok-count.count = grind arith in
    write_short _ _ _ (size_values _ c.measure.result _ c.measure.ensures found) (omega arith)

pub put_row-requires : goal.put_row-requires
put_row-requires c =
    let found : c.measure.result ≡ Some c.in_ok-count.count = grind arith in
    row_fits _ c.args.output.now _ (size_values _ c.measure.result _ c.measure.ensures found) c.if-output-count.false

pub returns : goal.returns
returns c =
    let found : c.measure.result ≡ Some c.in_ok-count.count = grind arith in
    write_done _ _ _ (size_values _ c.measure.result _ c.measure.ensures found) c.if-output-count.false _ _ c.put_row.ensures
