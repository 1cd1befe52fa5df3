-- `book_order::is_before` meets its contract: the weights decide, or the bytes of the words do. Assumes nothing.
use mathlib.Core.Path.{◌≡◌, sym, ap, ◌∙◌}
use native.Mathlib.Omega.{arith}
use Rattle.weighing.specs.Order.{order_values}
use Rattle.weighing.proofs.Library.{lists_compared}
use Rattle.entries.proofs.Records.{framed_true}
use Rattle.book_keys.specs.Filing.{weights_at}
use Rattle.book_keys.proofs.Rows.{key_count, key_ends}
use Rattle.book_order.specs.Order.{is_less, bytes_at, before}
use Rattle.book_order.proofs.Comparing.{ordered_words, less_told, by_first, by_second}
use Rattle.book_order.proofs.is_before.Goals as goal

pub filed_weights-requires : goal.filed_weights-requires
filed_weights-requires c =
    omega (arith, key_ends _ c.args.keys.now c.args.first c.requires.1 c.requires.0, key_count _ c.args.keys.now c.args.first c.requires.1)

pub filed_weights-requires-2 : goal.filed_weights-requires-2
filed_weights-requires-2 c =
    omega (arith, key_ends _ c.args.keys.now c.args.second c.requires.2 c.requires.0, key_count _ c.args.keys.now c.args.second c.requires.2)

pub word_bytes-requires : goal.word_bytes-requires
word_bytes-requires c = (c.requires.0, omega (arith, (framed_true _ _ c.requires.1.framed).room))

pub word_bytes-requires-2 : goal.word_bytes-requires-2
word_bytes-requires-2 c = (c.requires.0, omega (arith, (framed_true _ _ c.requires.2.framed).room))

pub returns-then-is_ne : goal.returns-then-is_ne
unfolding before
returns-then-is_ne c =
    let a = c.args in
    let weights : c.order_keys-by_weights.result ≡ order_values (weights_at a.keys.now a.first) (weights_at a.keys.now a.second) =
    c.order_keys-by_weights.ensures ∙ (λ i. order_values (c.filed_weights.ensures i) (c.filed_weights-2.ensures i)) in
    c.is_lt.ensures ∙ less_told _
    ∙ ap is_less
    (by_first _ _ (order_values (bytes_at a.book.now a.first) (bytes_at a.book.now a.second)) weights (sym c.is_ne.ensures ∙ c.if-is_ne.true)
    ∙ ordered_words a.book.now a.keys.now a.first a.second c.requires.1 c.requires.2)

pub returns : goal.returns
unfolding before
returns c =
    let a = c.args in
    let weights : c.order_keys-by_weights.result ≡ order_values (weights_at a.keys.now a.first) (weights_at a.keys.now a.second) =
    c.order_keys-by_weights.ensures ∙ (λ i. order_values (c.filed_weights.ensures i) (c.filed_weights-2.ensures i)) in
    c.is_lt-2.ensures ∙ less_told _
    ∙ ap is_less
    (c.cmp.ensures ∙ lists_compared _ _ ∙ (λ i. order_values (c.word_bytes.ensures i) (c.word_bytes-2.ensures i))
    ∙ by_second _ _ _ weights (sym c.is_ne.ensures ∙ c.if-is_ne.false)
    ∙ ordered_words a.book.now a.keys.now a.first a.second c.requires.1 c.requires.2)
