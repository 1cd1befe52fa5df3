-- `book_order::order_keys` meets its contract: the first eight bytes decide, or what is left does.
-- Assumes nothing.
use mathlib.Core.Path.{◌≡◌, sym, ◌∙◌}
use native.Mathlib.Omega.{arith}
use lib.ListN.{take, drop}
use Rattle.weighing.specs.Order.{order_values}
use Rattle.weighing.proofs.Library.{lists_compared}
use Rattle.book_order.proofs.Comparing.{by_first, by_second}
use Rattle.book_order.proofs.Fronts.{parts_told}
use Rattle.book_order.proofs.order_keys.Goals as goal

pub returns-then-is_ne : goal.returns-then-is_ne
returns-then-is_ne c =
    let xs = c.args.first.now in
    let ys = c.args.second.now in
    let one = c.in-Some-Some.ensures.cases in
    let other = c.in-Some-Some.ensures'.cases in
    let front : c.order_fronts-order.result ≡ order_values (take 8 xs) (take 8 ys) =
    c.order_fronts-order.ensures ∙ (λ i. order_values (one.0 i) (other.0 i)) in
    by_first _ _ (order_values (drop 8 xs) (drop 8 ys)) front (sym c.is_ne.ensures ∙ c.if-is_ne.true)
    ∙ parts_told 8 xs ys (omega (arith, one.2)) (omega (arith, other.2))

pub returns-else-is_ne : goal.returns-else-is_ne
returns-else-is_ne c =
    let xs = c.args.first.now in
    let ys = c.args.second.now in
    let one = c.in-Some-Some.ensures.cases in
    let other = c.in-Some-Some.ensures'.cases in
    let front : c.order_fronts-order.result ≡ order_values (take 8 xs) (take 8 ys) =
    c.order_fronts-order.ensures ∙ (λ i. order_values (one.0 i) (other.0 i)) in
    c.cmp.ensures ∙ lists_compared _ _ ∙ (λ i. order_values (one.1 i) (other.1 i)) ∙ by_second _ _ _ front (sym c.is_ne.ensures ∙ c.if-is_ne.false)
    ∙ parts_told 8 xs ys (omega (arith, one.2)) (omega (arith, other.2))

pub returns-in_default : goal.returns-in_default
returns-in_default c = c.cmp-in_default.ensures ∙ lists_compared _ _
