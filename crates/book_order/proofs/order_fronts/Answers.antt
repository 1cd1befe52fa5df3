-- `book_order::order_fronts` meets its contract: the two numbers decide.
-- Assumes nothing.
use mathlib.Core.Path.{◌∙◌}
use native.Mathlib.Omega.{arith}
use Rattle.weighing.specs.Order.{order_numbers}
use Rattle.weighing.proofs.Library.{numbers_compared}
use Rattle.book_order.proofs.Fronts.{fronts_told}
use Rattle.book_order.proofs.order_fronts.Goals as goal

pub returns : goal.returns
returns c =
    c.cmp.ensures ∙ numbers_compared _ _ ∙ (λ i. order_numbers (c.front.ensures i) (c.front-2.ensures i))
    ∙ fronts_told c.args.first.now c.args.second.now (omega arith) (omega arith) (λ at. omega (arith, c.fits-first at)) (λ at. omega (arith, c.fits-second at))
