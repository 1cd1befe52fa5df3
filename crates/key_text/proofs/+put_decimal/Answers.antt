-- `key_text::put_decimal`, which calls itself, meets its contract: the digits of the tenth part of the number come first, and then the last one.
-- Assumes nothing.
use native.Mathlib.Omega.{arith}
use Rattle.memory.proofs.Putting.{put_after}
use Rattle.key_text.proofs.Decimal.{decimal_one, decimal_more, decimal_shorter}
use Rattle.key_text.proofs.+put_decimal.Goals as goal

pub returns-then-number-lt10 : goal.returns-then-number-lt10
returns-then-number-lt10 t c = rw (decimal_one c.args.number (omega arith)) (rw c.digit.ensures at c.put.ensures)

pub put-requires-2 : goal.put-requires-2
put-requires-2 t c =
    omega
    (arith, decimal_shorter c.args.number c.ranges.number.fits, c.put_decimal-next.ensures.next, c.put_decimal-next.auto.out)

pub returns : goal.returns
returns t c =
    rw (decimal_more c.args.number (omega arith))
    (put_after c.put_decimal-next.ensures (rw c.digit-2.ensures at c.put-2.ensures))
