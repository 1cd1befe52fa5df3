-- `skeletons::put_replaced` meets its contract: one value is put, or two one behind the other.
-- Assumes nothing.
use mathlib.Core.Path.{ap}
use native.Mathlib.Omega.{arith}
use lib.ListN.{length, length-set}
use Rattle.skeletons.proofs.Filling.{put_one, put_two}
use Rattle.skeletons.proofs.Replacing.{two_values, one_value, some_value}
use Rattle.skeletons.proofs.put_replaced.Goals as goal

pub offset_bounds-output-at : goal.offset_bounds-output-at
offset_bounds-output-at c = omega (arith, some_value c.args.x)

pub bounds-output-at : goal.bounds-output-at
bounds-output-at c = omega (arith, some_value c.args.x, c.requires)

pub bounds-output-at-then-x-eq-LETTER_O : goal.bounds-output-at-then-x-eq-LETTER_O
bounds-output-at-then-x-eq-LETTER_O c = rw length-set (omega (arith, ap length (two_values c.args.x c.if-x-eq-LETTER_O.true), c.requires))

pub returns-then-x-eq-LETTER_O : goal.returns-then-x-eq-LETTER_O
returns-then-x-eq-LETTER_O c = rw (two_values c.args.x c.if-x-eq-LETTER_O.true, c.first_of.ensures) (put_two c.args.output.now c.args.at _ _)

pub returns : goal.returns
returns c = rw (one_value c.args.x c.if-x-eq-LETTER_O.false, c.first_of.ensures) (put_one c.args.output.now c.args.at _)
