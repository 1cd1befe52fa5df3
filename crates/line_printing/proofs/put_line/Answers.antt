-- `line_printing::put_line` meets its contract: the number, the answer and 0A are written one behind the other, and there is room for all of them.
-- Assumes nothing.
use native.Mathlib.Omega.{arith}
use Rattle.key_text.proofs.Decimal.{decimal_short}
use Rattle.line_printing.proofs.Printed.{line_written}
use Rattle.line_printing.proofs.put_line.Goals as goal

pub put-spaced-requires : goal.put-spaced-requires
put-spaced-requires g c = omega (arith, decimal_short c.args.number (omega arith))

pub put_answer-answered-requires : goal.put_answer-answered-requires
put_answer-answered-requires g c = omega (arith, decimal_short c.args.number (omega arith))

pub put-requires : goal.put-requires
put-requires g c =
    omega (arith, decimal_short c.args.number (omega arith), c.put_answer-answered.ensures.put.short, c.put_answer-answered.ensures.put.put.next)

pub returns : goal.returns
returns g c =
    line_written c.args.number c.ranges.number.fits c.requires c.put_decimal-numbered.ensures c.put-spaced.ensures c.put_answer-answered.ensures
    c.put.ensures
