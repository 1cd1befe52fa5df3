-- `book_frame::is_record` meets its contract: the frame, and then the test for rows, which decides whether the word is readable.
-- Assumes nothing.
use mathlib.Core.Path.{◌≡◌, sym, ap, subst, ◌∙◌}
use mathlib.Core.Bool.{Bool, true, ◌&&◌}
use mathlib.Core.List.{List, map}
use Prim.Native.Nat.{ℕ, ◌+◌}
use native.Mathlib.Omega.{arith}
use lib.ListN.{take, drop}
use lib.Seq.{length-take-le}
use Rattle.letters.proofs.Tests.{of_true}
use Rattle.recogniser.specs.Answer.{RowTest}
use Rattle.entries.specs.Limits.{head_size}
use Rattle.entries.specs.Readable.{is_readable}
use Rattle.entries.specs.Entries.{value_of, word_at, is_framed}
use Rattle.entries.proofs.Tests.{readable_test, tests_agree}
use Rattle.entries.proofs.Records.{Framed, framed_true}
use Rattle.book_frame.proofs.is_record.Goals as goal

pub returns-then-not-is_framed : goal.returns-then-not-is_framed
returns-then-not-is_framed c =
    let s = c.args in
    ap (λ (t : Bool). t && is_readable (word_at s.book.now s.at)) (sym c.if-not-is_framed.true ∙ c.is_framed.ensures)

pub bounds-book-at : goal.bounds-book-at
bounds-book-at c =
    let framed_on : is_framed c.args.book.now c.args.at ≡ true =
    sym c.is_framed.ensures ∙ c.if-not-is_framed.false in
    let frame : Framed c.args.book.now c.args.at =
    framed_true _ _ (of_true _ framed_on) in
    let f = frame in omega (arith, f.room, f.some)

pub values_of-values-requires : goal.values_of-values-requires
values_of-values-requires c =
    let framed_on : is_framed c.args.book.now c.args.at ≡ true =
    sym c.is_framed.ensures ∙ c.if-not-is_framed.false in
    let frame : Framed c.args.book.now c.args.at =
    framed_true _ _ (of_true _ framed_on) in
    let f = frame in
    (omega (arith, f.short, c.from-count.ensures), omega (arith, f.room, c.from-count.ensures))

pub slice_bounds-values-end : goal.slice_bounds-values-end
slice_bounds-values-end c =
    let framed_on : is_framed c.args.book.now c.args.at ≡ true =
    sym c.is_framed.ensures ∙ c.if-not-is_framed.false in
    let frame : Framed c.args.book.now c.args.at =
    framed_true _ _ (of_true _ framed_on) in
    let f = frame in omega (arith, f.short, c.from-count.ensures, c.values_of-values.ensures.1)

pub slice_bounds-is_row-end : goal.slice_bounds-is_row-end
slice_bounds-is_row-end c =
    let framed_on : is_framed c.args.book.now c.args.at ≡ true =
    sym c.is_framed.ensures ∙ c.if-not-is_framed.false in
    let frame : Framed c.args.book.now c.args.at =
    framed_true _ _ (of_true _ framed_on) in
    let f = frame in
    sym
    (length-take-le _ c.values_of-values.result
    (omega (arith, f.short, c.from-count.ensures, c.values_of-values.ensures.1)))

pub returns : goal.returns
returns c =
    let framed_on : is_framed c.args.book.now c.args.at ≡ true =
    sym c.is_framed.ensures ∙ c.if-not-is_framed.false in
    let b = c.args.book.now in
    let at = c.args.at in
    let e : take c.from-count.result c.values_of-values.result ≡ word_at b at =
    c.values_of-values.ensures.0 ∙ ap (λ (n : ℕ). map value_of (take n (drop (at + head_size) b))) c.from-count.ensures in
    tests_agree (word_at b at) c.is_row.result (is_readable (word_at b at))
    (subst (λ (w : List ℕ). RowTest w c.is_row.result) e c.is_row.ensures) (readable_test (word_at b at))
    ∙ ap (λ (t : Bool). t && is_readable (word_at b at)) (sym framed_on)
