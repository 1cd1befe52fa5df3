-- `book_order::order` meets its contract: the weights decide, or the bytes of the words do; and of records whose keys are filed these are in the order of
-- what they are filed by. Assumes nothing.
use mathlib.Core.Path.{◌≡◌, sym, ◌∙◌}
use Rattle.weighing.specs.Order.{order_values}
use Rattle.weighing.proofs.Library.{lists_compared}
use Rattle.book_keys.specs.Filing.{weights_at}
use Rattle.book_order.specs.Order.{bytes_at}
use Rattle.book_order.proofs.Comparing.{ordered_words, by_first, by_second}
use Rattle.book_order.proofs.order.Goals as goal

pub returns-then-is_ne-clause-by_words : goal.returns-then-is_ne-clause-by_words
returns-then-is_ne-clause-by_words c one other =
    let a = c.args in
    let weights : c.order_keys-order.result ≡ order_values (weights_at a.keys.now a.first) (weights_at a.keys.now a.second) =
    c.order_keys-order.ensures ∙ (λ i. order_values (c.weights_at.ensures i) (c.weights_at-2.ensures i)) in
    by_first _ _ (order_values (bytes_at a.book.now a.first) (bytes_at a.book.now a.second)) weights (sym c.is_ne.ensures ∙ c.if-is_ne.true)
    ∙ ordered_words a.book.now a.keys.now a.first a.second one other

pub returns-clause-filed : goal.returns-clause-filed
returns-clause-filed c =
    let a = c.args in
    let weights : c.order_keys-order.result ≡ order_values (weights_at a.keys.now a.first) (weights_at a.keys.now a.second) =
    c.order_keys-order.ensures ∙ (λ i. order_values (c.weights_at.ensures i) (c.weights_at-2.ensures i)) in
    c.cmp.ensures ∙ lists_compared _ _ ∙ (λ i. order_values (c.bytes_at.ensures i) (c.bytes_at-2.ensures i))
    ∙ by_second _ _ _ weights (sym c.is_ne.ensures ∙ c.if-is_ne.false)

pub returns-clause-by_words : goal.returns-clause-by_words
returns-clause-by_words c one other = returns-clause-filed c ∙ ordered_words _ _ _ _ one other
