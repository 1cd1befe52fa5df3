-- `book_keys::file_key` meets its contract: the word is readable, so the key that is filled is that of its row.
-- Assumes nothing.
use mathlib.Core.Path.{◌≡◌, sym, ap, subst, ◌∙◌}
use mathlib.Core.List.{List, map}
use Prim.Native.Nat.{ℕ, ◌+◌, ◌*◌}
use native.Mathlib.Omega.{arith}
use lib.ListN.{take, drop}
use lib.Seq.{sets, length-take-le}
use Rattle.formula.specs.Limits.{weight_count}
use Rattle.keying.specs.Filled.{FillRight}
use Rattle.entries.specs.Limits.{head_size}
use Rattle.entries.specs.Entries.{value_of, word_at}
use Rattle.entries.proofs.Records.{framed_true}
use Rattle.book_keys.specs.Filing.{row_of}
use Rattle.book_keys.proofs.Rows.{filed_key_length, key_within}
use Rattle.book_keys.proofs.Words.{not_refused, filled_few, filled_room, filled_count, filled_key}
use Rattle.book_keys.proofs.file_key.Goals as goal

pub overflow_add-at : goal.overflow_add-at
overflow_add-at c =
    omega (arith, (framed_true _ _ c.requires.1).room, c.requires.0)

pub bounds-book-at : goal.bounds-book-at
bounds-book-at c =
    omega (arith, (framed_true _ _ c.requires.1).room, c.requires.0)

pub overflow_add-at-2 : goal.overflow_add-at-2
overflow_add-at-2 c =
    omega (arith, (framed_true _ _ c.requires.1).room, c.requires.0)

pub values_of-values-requires : goal.values_of-values-requires
values_of-values-requires c =
    let f = framed_true _ _ c.requires.1 in
    (omega (arith, f.short, c.from-count.ensures), omega (arith, f.room, c.from-count.ensures))

pub slice_bounds-values-end : goal.slice_bounds-values-end
slice_bounds-values-end c =
    omega (arith, (framed_true _ _ c.requires.1).short, c.from-count.ensures, c.values_of-values.ensures.1)

pub slice_bounds-fill-end : goal.slice_bounds-fill-end
slice_bounds-fill-end c =
    sym
    (length-take-le c.from-count.result c.values_of-values.result
    (omega (arith, (framed_true _ _ c.requires.1).short, c.from-count.ensures, c.values_of-values.ensures.1)))

pub overflow_mul-at : goal.overflow_mul-at
overflow_mul-at c =
    omega (arith, (framed_true _ _ c.requires.1).room, c.requires.0)

pub put_key-requires : goal.put_key-requires
put_key-requires c =
    let filled : FillRight (word_at c.args.book.now c.args.at) c.fill.result c.fill.new.bytes =
    let e : take c.from-count.result c.values_of-values.result ≡ (word_at c.args.book.now c.args.at) =
    c.values_of-values.ensures.0 ∙ ap (λ (n : ℕ). map value_of (take n (drop (c.args.at + head_size) c.args.book.now))) c.from-count.ensures in
    subst (λ (l : List ℕ). FillRight l c.fill.result c.fill.new.bytes) e c.fill.ensures in
    let k = (key_within c.args.book.now c.args.at c.requires.0 (framed_true _ _ c.requires.1) c.requires.2).1 in (
      filled_few (word_at c.args.book.now c.args.at) c.requires.2 c.fill.result _ filled c.in-Ok.number c.in-Ok.is,
      filled_room (word_at c.args.book.now c.args.at) c.requires.2 c.fill.result _ filled c.in-Ok.number c.in-Ok.is,
      omega (arith, filed_key_length (row_of (word_at c.args.book.now c.args.at)), filled_count (word_at c.args.book.now c.args.at) c.requires.2 c.fill.result _ filled c.in-Ok.number c.in-Ok.is),
    )

pub returns-in-Ok : goal.returns-in-Ok
returns-in-Ok c =
    let filled : FillRight (word_at c.args.book.now c.args.at) c.fill.result c.fill.new.bytes =
    let e : take c.from-count.result c.values_of-values.result ≡ (word_at c.args.book.now c.args.at) =
    c.values_of-values.ensures.0 ∙ ap (λ (n : ℕ). map value_of (take n (drop (c.args.at + head_size) c.args.book.now))) c.from-count.ensures in
    subst (λ (l : List ℕ). FillRight l c.fill.result c.fill.new.bytes) e c.fill.ensures in
    c.put_key.ensures
    ∙ ap (sets c.args.keys.now (weight_count * c.args.at)) (filled_key (word_at c.args.book.now c.args.at) c.requires.2 c.fill.result _ filled c.in-Ok.number c.in-Ok.is)

pub returns-in_default : goal.returns-in_default
returns-in_default c =
    let filled : FillRight (word_at c.args.book.now c.args.at) c.fill.result c.fill.new.bytes =
    let e : take c.from-count.result c.values_of-values.result ≡ (word_at c.args.book.now c.args.at) =
    c.values_of-values.ensures.0 ∙ ap (λ (n : ℕ). map value_of (take n (drop (c.args.at + head_size) c.args.book.now))) c.from-count.ensures in
    subst (λ (l : List ℕ). FillRight l c.fill.result c.fill.new.bytes) e c.fill.ensures in
    absurd (not_refused (word_at c.args.book.now c.args.at) c.requires.2 c.fill.result _ filled c.in_default.field-0 c.in_default.is)
